use Rattle.sender.proofs.Blocks.{runs_send}
use Rattle.sender.proofs.runs.blocks_come_in_order.Goals as goal

pub returns : goal.returns
returns c = runs_send
