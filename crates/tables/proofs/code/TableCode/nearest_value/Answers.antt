use Rattle.std.proofs.Common.{arith}
use Rattle.tables.proofs.Searching.{found_best, searched_nearer, searched_tied, searched_farther}
use Rattle.tables.proofs.code.TableCode.nearest_value.Goals as goal

pub loop-v-preserved-then-found-least : goal.loop-v-preserved-then-found-least
loop-v-preserved-then-found-least c = searched_nearer _ _ _ _ _ _ _ c.loop-v.invariant _ _ _ _ _ c.in-Some.ensures.steps _ c.chip_distance-found.ensures c.if-found-least.true

pub loop-v-preserved-then-found-least-2 : goal.loop-v-preserved-then-found-least-2
loop-v-preserved-then-found-least-2 c = searched_tied _ _ _ _ _ _ _ c.loop-v.invariant _ _ _ _ _ c.in-Some.ensures.steps _ c.chip_distance-found.ensures c.if-found-least-2.true

pub loop-v-preserved : goal.loop-v-preserved
loop-v-preserved c = searched_farther _ _ _ _ _ _ _ c.loop-v.invariant _ _ _ _ _ c.in-Some.ensures.steps _ c.chip_distance-found.ensures (omega arith)

pub returns : goal.returns
returns c = found_best _ _ _ _ _ _ _ c.loop-v.invariant c.in-None.ensures.steps.0.1.0
