use Rattle.std.proofs.Common.{◌≡◌, ◌<◌, length}
use Rattle.walkthrough.proofs.careless.traced.Given as goal

abbrev pub invariant-loop-k : goal.invariant-loop-k
invariant-loop-k l = (l.state < 64) × (length l.octets ≡ 11)
