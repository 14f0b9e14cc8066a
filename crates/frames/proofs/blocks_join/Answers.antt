use Rattle.frames.proofs.Joins.{blocks_join}
use Rattle.frames.proofs.blocks_join.Goals as goal

pub returns : goal.returns
returns c = blocks_join
