-- The trace has come back by as many places as words were read.
use Rattle.std.proofs.Common.{◌+◌, ◌-◌, ◌≤◌, length}
use Rattle.trellis.specs.Trace.{ComesTo}
use Rattle.trellis.proofs.back.settle.Given as goal

abbrev pub invariant-loop-word : goal.invariant-loop-word
invariant-loop-word l = (l.start + length l.yielded ≤ l.end) × ComesTo l.words l.end 0 (l.end - length l.yielded) l.state.number
