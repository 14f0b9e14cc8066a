-- Facts that the tables obey, as a guard against a slip of the pen, and their least distances.
-- Assumes nothing.
use Rattle.std.specs.Prelude.{◌≡◌, ℕ, ◌-◌, ◌*◌, List, [], ◌∷◌, ◌++◌, map, length, take, drop, bit_xor, slice_index_or}
use Rattle.std.specs.List.{range_with_len}
use Rattle.linecode.specs.Codes.{least_distance}
use Rattle.linecode.specs.Straight.{straight}
use Rattle.tables.specs.Codes.{code_of}
use Rattle.tables.specs.Words.{words_4_1, words_16_1_0, words_16_1_1, words_32_1_0, words_32_1_1, words_64_1, words_128_1, words_8_4, words_16_4, words_32_4}
use Rattle.tables.specs.declared.code.TableCode.{TableCode}
use Rattle.tables.specs.declared.code.TableCode.TheVariants.{Dsss4x1, Dsss16x1k0, Dsss16x1k1, Dsss32x1k0, Dsss32x1k1, Dsss64x1, Dsss128x1, Dsss8x4, Dsss16x4, Dsss32x4}

abbrev pub word : List (List ℕ) → ℕ → List ℕ
word ws v = slice_index_or ws v []

-- every chip inverted
abbrev pub complement : List ℕ → List ℕ
complement w = map (λ chip. 1 - chip) w

-- every chip at an odd place inverted
abbrev pub odd_inverted : List ℕ → List ℕ
odd_inverted [] = []
odd_inverted (a ∷ []) = a ∷ []
odd_inverted (a ∷ (b ∷ w)) = a ∷ (1 - b) ∷ odd_inverted w

-- a word turned right: its last n chips come first
abbrev pub turned : ℕ → List ℕ → List ℕ
turned n w = drop (length w - n) w ++ take (length w - n) w

-- the sum modulo 2, chip by chip
abbrev pub sum : List ℕ → List ℕ → List ℕ
sum [] w = []
sum (a ∷ v) [] = []
sum (a ∷ v) (b ∷ w) = bit_xor a b ∷ sum v w

-- the second word of an (N,1) code is the complement of the first
abbrev pub Complements : List (List ℕ) → Type 0
Complements ws = word ws 1 ≡ complement (word ws 0)

-- word k below 8 is word 0 turned right by k steps of so many chips; words 8 to 15 are words 0 to 7 with every odd chip inverted
abbrev pub Turns : ℕ → List (List ℕ) → Type 0
Turns step ws =
    (map (word ws) (range_with_len 0 8) ≡ map (λ k. turned (step * k) (word ws 0)) (range_with_len 0 8))
    × (map (word ws) (range_with_len 8 8) ≡ map (λ k. odd_inverted (word ws k)) (range_with_len 0 8))

-- a coset of a linear code: the words of u and v and word 0 add up to the word of u ⊕ v
abbrev pub Coset : List (List ℕ) → Type 0
Coset ws =
    map (λ u. map (λ v. sum (word ws u) (sum (word ws v) (word ws 0))) (range_with_len 0 16)) (range_with_len 0 16)
    ≡ map (λ u. map (λ v. word ws (bit_xor u v)) (range_with_len 0 16)) (range_with_len 0 16)

pub record TableFacts : Type 0 where
  pub by_4_1 : Complements words_4_1
  pub by_16_1_0 : Complements words_16_1_0
  pub by_16_1_1 : Complements words_16_1_1
  pub by_32_1_0 : Complements words_32_1_0
  pub by_32_1_1 : Complements words_32_1_1
  pub by_64_1 : Complements words_64_1
  pub by_128_1 : Complements words_128_1
  pub by_8_4 : Coset words_8_4
  pub by_16_4 : Turns 2 words_16_4
  pub by_32_4 : Turns 4 words_32_4
  -- code 1 is code 0 turned by one chip: of (16,1) to the left, which is 15 to the right, of (32,1) to the right
  pub pair_16_1 : words_16_1_1 ≡ map (turned 15) words_16_1_0
  pub pair_32_1 : words_32_1_1 ≡ map (turned 1) words_32_1_0

-- the least distance of each table
abbrev pub table_distance : TableCode → ℕ
table_distance Dsss4x1 = 4
table_distance Dsss16x1k0 = 16
table_distance Dsss16x1k1 = 16
table_distance Dsss32x1k0 = 32
table_distance Dsss32x1k1 = 32
table_distance Dsss64x1 = 64
table_distance Dsss128x1 = 128
table_distance Dsss8x4 = 4
table_distance Dsss16x4 = 6
table_distance Dsss32x4 = 12

pub record TableDistances : Type 0 where
  pub by_table : (t : TableCode) (p : ℕ) → least_distance (code_of t) p ≡ table_distance t
  pub by_straight : (p : ℕ) → least_distance straight p ≡ 1
