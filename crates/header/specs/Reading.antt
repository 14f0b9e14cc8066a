-- What the call that reads a header answers.
-- Assumes nothing.
use Rattle.std.specs.Prelude.{ℕ, ◌+◌, ◌*◌, ◌<◌, Bool, true, false, List, length, Ok, Err, Result, slice_index}
use Rattle.faults.specs.declared.Fault.{Fault}
use Rattle.faults.specs.declared.Layer.TheVariants.{Header}
use Rattle.linecode.specs.Codes.{Code}
use Rattle.linecode.specs.Chips.{judged}
use Rattle.codebits.specs.Bits.{number_at, previous}
use Rattle.codebits.specs.Differential.{decoded_bit}
use Rattle.frames.specs.Heard.{encoded_bit}
use Rattle.bands.specs.declared.band.Band.{Band}
use Rattle.bands.specs.declared.band.RateMode.{RateMode}
use Rattle.bands.specs.Modes.{header_code}
use Rattle.header.specs.Phr.{read_fields}
use Rattle.header.specs.Headers.{preamble_octets, header_bits}

-- what a header says
pub record Fields : Type 0 where
  pub band : Band
  pub mode : RateMode
  pub length : ℕ
  pub last : Bool

-- every element is a chip
abbrev pub AllChips : List ℕ → Type 0
AllChips chips = (i : ℕ) → i < length chips → slice_index chips i < 2

-- the decoded bits of chips, of which the first is decoded after 0, and the encoded bit before place p
abbrev pub decoded : Code → List ℕ → ℕ → Bool
decoded k chips = decoded_bit true false (encoded_bit k 0 chips)

abbrev pub encoded_before : Code → List ℕ → ℕ → Bool
encoded_before k chips p = previous false (encoded_bit k 0 chips) p

-- octet i of chips, by a line code with one bit to a group
abbrev pub heard_octet : Code → List ℕ → ℕ → ℕ
heard_octet k chips i = number_at (decoded k chips) (8 * i) 8

-- the fields with the last encoded bit
abbrev pub with_last : Band → Bool → Result (RateMode × ℕ) Fault → Result Fields Fault
with_last b last (Ok p) = Ok (record { band = b; mode = p.0; length = p.1; last = last })
with_last b last (Err e) = Err e

-- the three octets after the preamble
abbrev pub read_octets : Band → List ℕ → Result Fields Fault
read_octets b chips =
    let k = header_code b in
    let p = preamble_octets b in
    with_last b (encoded_before k chips (header_bits b)) (read_fields b (heard_octet k chips p) (heard_octet k chips (p + 1)) (heard_octet k chips (p + 2)))

abbrev pub unless_bad : Result (Unit {0}) Fault → Result Fields Fault → Result Fields Fault
unless_bad (Ok u) r = r
unless_bad (Err e) r = Err e

-- the chips are judged first
abbrev pub read_answer : Band → List ℕ → Result Fields Fault
read_answer b chips = unless_bad (judged Header (header_bits b * (header_code b).chips) chips) (read_octets b chips)
