-- The value is the number of as many bits as words were read, and the trace has come to the state before them.
use Rattle.std.proofs.Common.{◌≡◌, ◌+◌, ◌-◌, ◌*◌, ◌≤◌, length}
use Rattle.codebits.specs.Bits.{number_at}
use Rattle.nearest.specs.Trellis.{traced}
use Rattle.trellis.specs.Trace.{took_by, ComesTo}
use Rattle.trellis.proofs.back.octet.Given as goal

abbrev pub invariant-loop-word : goal.invariant-loop-word
invariant-loop-word l =
    let end = 8 * l.i + 8 in
    let m = length l.yielded in
    (8 * l.i + m ≤ end)
    × (l.value ≡ number_at (traced (took_by l.words) end l.fn.state.number) (end - m) m)
    × ComesTo l.words end l.fn.state.number (end - m) l.at.number
