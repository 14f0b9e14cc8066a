-- What the call that writes a header answers and leaves.
-- Assumes nothing.
use Rattle.std.specs.Prelude.{ℕ, Bool, cond, List, length, Ok, Result, ◌==◌}
use Rattle.faults.specs.declared.Fault.{Fault}
use Rattle.faults.specs.declared.FaultKind.TheVariants.{ChipCount, FrameLength, RateMode as UnknownMode}
use Rattle.codebits.specs.Message.{is_length}
use Rattle.bands.specs.declared.band.Band.{Band}
use Rattle.bands.specs.declared.band.RateMode.{RateMode}
use Rattle.bands.specs.Numbers.{mode_number}
use Rattle.header.specs.Phr.{has_mode, refuse}
use Rattle.header.specs.Headers.{header_length, header_chips, header_last}

-- the last encoded bit, or the first fault
abbrev pub write_answer : Band → RateMode → ℕ → ℕ → Result Bool Fault
write_answer b m l room =
    cond (room == header_length b)
    (cond (has_mode b m) (cond (is_length l) (Ok (header_last b m l)) (refuse FrameLength l)) (refuse UnknownMode (mode_number m)))
    (refuse ChipCount room)

-- what is in the buffer afterwards
abbrev pub written_chips : Band → RateMode → ℕ → List ℕ → List ℕ
written_chips b m l chips = cond (length chips == header_length b) (cond (has_mode b m) (cond (is_length l) (header_chips b m l) chips) chips) chips
