-- Worked examples, by the definitions that the contracts use.
-- Assumes nothing.
use Rattle.std.specs.Prelude.{◌≡◌, ℕ, Bool, true, false, [], ◌∷◌, map, Ok, ◌==◌}
use Rattle.std.specs.List.{range_with_len}
use Rattle.linecode.specs.Chips.{chips_of}
use Rattle.codebits.specs.Bits.{one}
use Rattle.codebits.specs.Message.{blocks, pad_bits}
use Rattle.codebits.specs.Convolution.{code_bit}
use Rattle.codebits.specs.Interleaving.{moved_in}
use Rattle.bands.specs.declared.band.RateMode.TheVariants.{Mode1, Mode3}
use Rattle.header.specs.Phr.{phr_octets}
use Rattle.linecode.specs.Codes.{despread_answer}
use Rattle.tables.specs.Codes.{code_of}
use Rattle.tables.specs.declared.code.TableCode.TheVariants.{Dsss4x1}
use Rattle.layers.specs.Whitening.{sequence}

-- the message of a one and zeros
abbrev pub impulse : ℕ → Bool
impulse k = k == 0

pub record WorkedExamples : Type 0 where
  -- blocks and pad bits of PSDUs of 4, 10, 11 and 2047 octets
  pub shortest : (blocks 4 ≡ 1) × (pad_bits 4 ≡ 50)
  pub one_block : (blocks 10 ≡ 1) × (pad_bits 10 ≡ 2)
  pub two_blocks : (blocks 11 ≡ 2) × (pad_bits 11 ≡ 82)
  pub longest : (blocks 2047 ≡ 187) × (pad_bits 2047 ≡ 74)
  -- the code bits of a one and six zeros
  pub impulse_response : map (λ j. one (code_bit impulse j)) (range_with_len 0 14) ≡ chips_of "11_01_11_11_00_10_11"
  -- where places of a block move
  pub places : (moved_in 0 ≡ 175) × (moved_in 1 ≡ 159) × (moved_in 11 ≡ 174) × (moved_in 175 ≡ 0)
  -- the PHRs of mode 1 and 10 octets, of mode 3 and 2047 octets, and of mode 3 and 4 octets
  pub phr_ten : phr_octets Mode1 10 ≡ 0x45 ∷ 0x01 ∷ []
  pub phr_longest : phr_octets Mode3 2047 ≡ 0xEE ∷ 0xFF ∷ []
  pub phr_shortest : phr_octets Mode3 4 ≡ 0x8D ∷ 0x00 ∷ []
  -- the whitening sequence from its start
  pub sequence_start : map sequence (range_with_len 0 16) ≡ chips_of "0000_1000_1100_0010"
  -- 1100 is as far from one word of (4,1) as from the other, and 1000 is nearer to the first
  pub doubtful_group : despread_answer (code_of Dsss4x1) 0 (chips_of "1100") ≡ Ok (0, true)
  pub sure_group : despread_answer (code_of Dsss4x1) 0 (chips_of "1000") ≡ Ok (0, false)
