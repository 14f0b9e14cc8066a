-- A header that was written is read back as it was.
-- Assumes nothing.
use Rattle.std.specs.Prelude.{◌≡◌, ℕ, ◌-◌, ◌*◌, ◌<◌, ◌≤◌, true, List, Ok}
use Rattle.faults.specs.declared.Layer.TheVariants.{Header}
use Rattle.linecode.specs.Codes.{least_distance}
use Rattle.linecode.specs.Chips.{judged}
use Rattle.frames.specs.Heard.{damaged}
use Rattle.bands.specs.declared.band.Band.{Band}
use Rattle.bands.specs.declared.band.RateMode.{RateMode}
use Rattle.bands.specs.Modes.{header_code}
use Rattle.header.specs.Phr.{has_mode}
use Rattle.header.specs.Headers.{preamble_octets, header_bits, header_length, header_octets, octet_stream, header_chips, header_last}
use Rattle.header.specs.Reading.{read_answer}
use Rattle.codebits.specs.Message.{is_length}

-- the chips are read as the header of a mode and a length
abbrev pub ReadAs : Band → RateMode → ℕ → List ℕ → Type 0
ReadAs b m l chips = read_answer b chips ≡ Ok (record { band = b; mode = m; length = l; last = header_last b m l })

-- from the last preamble group on, twice the damaged chips of each group is below its least distance
abbrev pub Unwrecked : Band → RateMode → ℕ → List ℕ → Type 0
Unwrecked b m l chips =
    (j : ℕ) → 8 * preamble_octets b - 1 ≤ j → j < header_bits b → 2 * damaged (header_code b) (octet_stream (header_octets b m l)) chips j < least_distance (header_code b) j

-- For every band, mode of it and length:
pub record ReadBack (b : Band) (m : RateMode) (l : ℕ) : Type 0 where
  pub clean : ReadAs b m l (header_chips b m l)
  pub damaged : (chips : List ℕ) → judged Header (header_length b) chips ≡ Ok tt → Unwrecked b m l chips → ReadAs b m l chips

abbrev pub HeadersReadBack : Type 0
HeadersReadBack = (b : Band) (m : RateMode) (l : ℕ) → has_mode b m ≡ true → is_length l ≡ true → ReadBack b m l
