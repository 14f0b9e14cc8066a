-- The banks stand as they do after the steps so far: after an even number of them bank one has the latest costs, after an odd one bank two.
use Rattle.std.proofs.Common.{◌≡◌, ◌*◌, ◌%◌}
use Rattle.trellis.specs.Block.{start_of}
use Rattle.trellis.specs.Memory.{observed_at}
use Rattle.trellis.proofs.Running.{Running}
use Rattle.trellis.proofs.steps.run.Given as goal

abbrev pub invariant-loop-k : goal.invariant-loop-k
invariant-loop-k g l =
    let kind = g.K.CostKind.kind in
    let start = start_of kind l.block l.fn.costs in
    (l.k % 2 ≡ 0 → Running kind (observed_at l.observed) (8 * l.octets) l.first start l.k l.one l.two l.words)
    × (l.k % 2 ≡ 1 → Running kind (observed_at l.observed) (8 * l.octets) l.first start l.k l.two l.one l.words)
