-- The states so far cost nothing.
use Rattle.std.proofs.Common.{◌≡◌, ℕ, ◌<◌, get_or}
use Rattle.trellis.proofs.steps.begin.Given as goal

abbrev pub invariant-loop-cost : goal.invariant-loop-cost
invariant-loop-cost g l = (s : ℕ) → s < l.cost-index → get_or l.one s g.K.CostKind.kind.nothing ≡ g.K.CostKind.kind.nothing
