-- Vectors worked by hand from the rules, by the definitions that the contracts use: each is computed by the check.
-- Assumes nothing.
use Rattle.std.specs.Prelude.{◌≡◌, ℕ, zero, suc, ◌+◌, Bool, true, false, List, [], ◌∷◌, map, take, replicate, Ok, Err}
use Rattle.std.specs.List.{range_with_len}
use Rattle.faults.specs.declared.FaultKind.TheVariants.{ShortMemory, FullFrame, EarlyClose, ShortBuffer, ChipCount, ChipValue, GroupValue, MultiplexedSfd, UnknownSfd, Parity, RateMode as UnknownMode, FrameLength}
use Rattle.faults.specs.declared.Layer.TheVariants.{Line, Header, Frame}
use Rattle.faults.specs.Refusals.{fault}
use Rattle.linecode.specs.Chips.{chips_of, judged}
use Rattle.linecode.specs.Codes.{Code, spread_answer, spread_chips, despread_answer}
use Rattle.linecode.specs.Straight.{straight}
use Rattle.tables.specs.Codes.{code_of}
use Rattle.tables.specs.declared.code.TableCode.TheVariants.{Dsss4x1, Dsss16x1k0, Dsss16x1k1, Dsss8x4}
use Rattle.layers.specs.Whitening.{sequence, whitened}
use Rattle.layers.specs.Layers.{alternating}
use Rattle.bands.specs.declared.band.Band.TheVariants.{Mhz868, Mhz915}
use Rattle.bands.specs.declared.band.RateMode.TheVariants.{Mode1, Mode3}
use Rattle.codebits.specs.Bits.{one}
use Rattle.codebits.specs.Convolution.{back}
use Rattle.codebits.specs.Differential.{decoded_bit, decoded_doubt}
use Rattle.codebits.specs.Message.{message_bit}
use Rattle.frames.specs.Sent.{sent_chips}
use Rattle.header.specs.Phr.{read_fields, read_phr}
use Rattle.header.specs.Headers.{header_octets, header_last, octet_stream}
use Rattle.costs.specs.Kind.{cost_of}
use Rattle.costs.specs.Kinds.{count_kind, graded_kind}
use Rattle.costs.specs.declared.Observation.{Observation}
use Rattle.costs.specs.declared.Observation.TheVariants.{Sure, Doubtful}
use Rattle.receiver.specs.Judging.{block_judged, close_judged}

-- the bits of a stream below n, as digits
abbrev pub digits : (ℕ → Bool) → ℕ → List ℕ
digits s n = map (λ i. one (s i)) (range_with_len 0 n)

-- a PSDU of four zeros by a line code, not coded differentially
abbrev pub four_zeros : Code → List ℕ
four_zeros k = sent_chips (record { code = k; differential = false; last = false; octets = 4 }) (replicate 4 0)

-- an encoded bit 1 that is doubtful, and then zeros that are sure
abbrev pub first_only : ℕ → Bool
first_only zero = true
first_only (suc j) = false

-- observed: a sure 1, a doubtful 1 and a sure 0
abbrev pub three_seen : ℕ → Observation
three_seen zero = Sure true
three_seen (suc zero) = Doubtful true
three_seen (suc (suc j)) = Sure false

pub record Groups : Type 0 where
  -- S_4 to S_7 is 1000, and word 0 of (4,1) is 1010
  pub whitened_word : spread_chips (whitened (code_of Dsss4x1)) 1 0 (chips_of "0000") ≡ chips_of "0010"
  -- position 127 has the indices 508, 509, 510 and 0; S ends in eight zeros and a 1
  pub whitening_turns : spread_chips (whitened (code_of Dsss4x1)) 127 0 (chips_of "1111") ≡ chips_of "1000"
  pub odd_position : spread_chips (alternating (code_of Dsss16x1k0) (code_of Dsss16x1k1)) 3 0 (replicate 16 0) ≡ chips_of "0100_0111_1010_1100"
  pub even_position : spread_chips (alternating (code_of Dsss16x1k0) (code_of Dsss16x1k1)) 2 1 (replicate 16 0) ≡ chips_of "1101_1100_0010_1001"
  -- codes that are not of one make: the first alone
  pub unlike : spread_chips (alternating (code_of Dsss4x1) (code_of Dsss8x4)) 3 1 (replicate 4 0) ≡ chips_of "0101"
  -- the last word of (8,4), with one chip damaged
  pub damaged_word : despread_answer (code_of Dsss8x4) 9 (chips_of "1110_1110") ≡ Ok (15, false)
  -- 6 comes before 8 and before 7, and 7 is the first bad chip
  pub count_before_value : spread_answer (code_of Dsss8x4) 16 7 ≡ Err (fault ChipCount 7 Line)
  pub value_too_large : spread_answer (code_of Dsss8x4) 16 8 ≡ Err (fault GroupValue 16 Line)
  pub refused_unwritten : spread_chips (code_of Dsss4x1) 0 2 (9 ∷ 9 ∷ 9 ∷ 9 ∷ []) ≡ 9 ∷ 9 ∷ 9 ∷ 9 ∷ []
  pub count_before_chip : despread_answer (code_of Dsss4x1) 0 (2 ∷ []) ≡ Err (fault ChipCount 1 Line)
  pub first_bad_chip : despread_answer (code_of Dsss8x4) 0 (0 ∷ 1 ∷ 0 ∷ 2 ∷ 0 ∷ 1 ∷ 3 ∷ 0 ∷ []) ≡ Err (fault ChipValue 3 Line)
  pub no_chips : judged Frame 0 [] ≡ Ok tt

pub record Frames : Type 0 where
  -- 56 and 07 hexadecimal, each from its least bit on, and zeros behind them
  pub octets_by_bits : digits (message_bit (0x56 ∷ 0x07 ∷ [])) 20 ≡ chips_of "0110_1010_1110_0000_0000"
  -- what the coder stores after them: the newest bit first
  pub stored : map (λ d. one (back (message_bit (0x56 ∷ 0x07 ∷ [])) 11 d)) (range_with_len 1 6) ≡ chips_of "11_1010"
  -- a zero PSDU has code bits of zeros, so its chips are word 0 of each group, whitened
  pub two_groups : take 16 (four_zeros (whitened (code_of Dsss8x4))) ≡ chips_of "0000_1001_1100_0011"
  pub zeros_whitened : four_zeros (whitened straight) ≡ map sequence (range_with_len 0 176)
  -- an encoded bit has a part in two decoded ones, and so has its doubt
  pub decoded : digits (decoded_bit true true first_only) 4 ≡ chips_of "0100"
  pub doubted : digits (decoded_doubt true false first_only) 4 ≡ chips_of "1100"
  pub as_it_is : digits (decoded_bit false true first_only) 4 ≡ chips_of "1000"
  -- against the claim 0 0 0
  pub counted : cost_of count_kind three_seen (λ j. false) 3 ≡ record { differing = 2 }
  pub graded : cost_of graded_kind three_seen (λ j. false) 3 ≡ record { sure = 1; doubtful = 1 }

pub record Headers : Type 0 where
  pub octets : header_octets Mhz868 Mode1 10 ≡ 0 ∷ 0 ∷ 0 ∷ 0 ∷ 0xA7 ∷ 0x45 ∷ 0x01 ∷ []
  -- A7, 45 and 01 are 1110 0101, 1010 0010 and 1000 0000, least bit first; coded differentially after zeros
  pub encoded : digits (λ i. octet_stream (header_octets Mhz868 Mode1 10) (32 + i)) 24 ≡ chips_of "1011_1001_0011_1100_1111_1111"
  pub last : header_last Mhz868 Mode1 10 ≡ true
  pub multiplexed : read_fields Mhz915 0x58 0x8D 0x00 ≡ Err (fault MultiplexedSfd 0x58 Header)
  pub unknown_sfd : read_fields Mhz915 0xA6 0x8D 0x00 ≡ Err (fault UnknownSfd 0xA6 Header)
  pub accepted : read_fields Mhz915 0xA7 0x8D 0x00 ≡ Ok (Mode3, 4)
  -- p4 is ignored, though the parity p0 counts it
  pub reserved : read_phr Mhz915 0x009C ≡ Ok (Mode3, 4)
  pub first_parity : read_phr Mhz915 0x008C ≡ Err (fault Parity 0 Header)
  pub second_parity : read_phr Mhz915 0x008F ≡ Err (fault Parity 1 Header)
  pub both_parities : read_phr Mhz915 0x008E ≡ Err (fault Parity 0 Header)
  -- mode 2 and four octets in band 868; in the same band mode 2 and three octets; mode 3 and three octets in band 915
  pub no_such_mode : read_phr Mhz868 0x0088 ≡ Err (fault UnknownMode 2 Header)
  pub mode_before_length : read_phr Mhz868 0x0069 ≡ Err (fault UnknownMode 2 Header)
  pub too_short : read_phr Mhz915 0x006C ≡ Err (fault FrameLength 3 Header)

-- a frame of ten octets, one block and 88 words, by (4,1), whose block has 704 chips
pub record Calls : Type 0 where
  pub short_costs : close_judged 10 0 127 87 9 ≡ Err (fault ShortMemory 127 Frame)
  pub short_words : close_judged 10 0 128 87 9 ≡ Err (fault ShortMemory 87 Frame)
  pub early : close_judged 10 0 128 88 9 ≡ Err (fault EarlyClose 0 Frame)
  pub short_buffer : close_judged 10 1 128 88 9 ≡ Err (fault ShortBuffer 9 Frame)
  pub closed : close_judged 10 1 128 88 10 ≡ Ok tt
  pub full : block_judged (code_of Dsss4x1) 10 1 128 88 [] ≡ Err (fault FullFrame 1 Frame)
  pub wrong_count : block_judged (code_of Dsss4x1) 10 0 128 88 (replicate 703 2) ≡ Err (fault ChipCount 703 Frame)
  pub bad_chip : block_judged (code_of Dsss4x1) 10 0 128 88 (replicate 704 2) ≡ Err (fault ChipValue 0 Frame)
  pub good : block_judged (code_of Dsss4x1) 10 0 128 88 (replicate 704 1) ≡ Ok tt
