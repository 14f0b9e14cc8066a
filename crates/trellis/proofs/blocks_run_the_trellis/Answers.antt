-- Block by block, from the laws of the costs.
use Rattle.trellis.proofs.Frames.{blocks_run}
use Rattle.trellis.proofs.blocks_run_the_trellis.Goals as goal

pub returns : goal.returns
returns g c = blocks_run g.K.CostKind.kind g.met.K.CostKind.lawful
