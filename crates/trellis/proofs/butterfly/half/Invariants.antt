-- The states of the butterflies so far have their costs, and the word their bits.
use Rattle.std.proofs.Common.{◌≡◌, ◌+◌, ◌*◌}
use Rattle.codebits.specs.Bits.{number_at}
use Rattle.nearest.specs.Trellis.{takes, stepped}
use Rattle.trellis.specs.Memory.{cost_in, Written}
use Rattle.trellis.proofs.butterfly.half.Given as goal

abbrev pub invariant-loop-i : goal.invariant-loop-i
invariant-loop-i g l =
    Written g.K.CostKind.kind.nothing (stepped g.K.CostKind.kind l.section.first l.section.second l.section.free (cost_in g.K.CostKind.kind l.from 0))
    (2 * l.base) (2 * (l.base + l.i)) l.initial.to l.to
    × (l.word ≡ number_at (takes g.K.CostKind.kind l.section.first l.section.second l.section.free (cost_in g.K.CostKind.kind l.from 0)) (2 * l.base) (2 * l.i))
