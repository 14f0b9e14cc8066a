use Rattle.std.proofs.Common.{◌≡◌, length}
use Rattle.walkthrough.proofs.passage.pass.Given as goal

abbrev pub invariant-loop-i : goal.invariant-loop-i
invariant-loop-i g l = length l.received ≡ 8
