-- The line codes of the tables: bits and chips per group, and the words.
-- Assumes nothing.
use Rattle.std.specs.Prelude.{ℕ, List}
use Rattle.std.specs.List.{flat_map}
use Rattle.linecode.specs.Codes.{Code}
use Rattle.tables.specs.Tables.{table_code}
use Rattle.tables.specs.Words.{words_4_1, words_16_1_0, words_16_1_1, words_32_1_0, words_32_1_1, words_64_1, words_128_1, words_8_4, words_16_4, words_32_4}
use Rattle.tables.specs.declared.code.TableCode.{TableCode}
use Rattle.tables.specs.declared.code.TableCode.TheVariants.{Dsss4x1, Dsss16x1k0, Dsss16x1k1, Dsss32x1k0, Dsss32x1k1, Dsss64x1, Dsss128x1, Dsss8x4, Dsss16x4, Dsss32x4}

abbrev pub words : TableCode → List (List ℕ)
words Dsss4x1 = words_4_1
words Dsss16x1k0 = words_16_1_0
words Dsss16x1k1 = words_16_1_1
words Dsss32x1k0 = words_32_1_0
words Dsss32x1k1 = words_32_1_1
words Dsss64x1 = words_64_1
words Dsss128x1 = words_128_1
words Dsss8x4 = words_8_4
words Dsss16x4 = words_16_4
words Dsss32x4 = words_32_4

-- g and n, the bits and the chips per group
abbrev pub group_bits : TableCode → ℕ
group_bits Dsss4x1 = 1
group_bits Dsss16x1k0 = 1
group_bits Dsss16x1k1 = 1
group_bits Dsss32x1k0 = 1
group_bits Dsss32x1k1 = 1
group_bits Dsss64x1 = 1
group_bits Dsss128x1 = 1
group_bits Dsss8x4 = 4
group_bits Dsss16x4 = 4
group_bits Dsss32x4 = 4

abbrev pub word_chips : TableCode → ℕ
word_chips Dsss4x1 = 4
word_chips Dsss16x1k0 = 16
word_chips Dsss16x1k1 = 16
word_chips Dsss32x1k0 = 32
word_chips Dsss32x1k1 = 32
word_chips Dsss64x1 = 64
word_chips Dsss128x1 = 128
word_chips Dsss8x4 = 8
word_chips Dsss16x4 = 16
word_chips Dsss32x4 = 32

abbrev pub code_of : TableCode → Code
code_of t = table_code (group_bits t) (word_chips t) (words t)

-- words one after the other
abbrev pub row : List (List ℕ) → List ℕ
row ws = flat_map (λ w. w) ws
