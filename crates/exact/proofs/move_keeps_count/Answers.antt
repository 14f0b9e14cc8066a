-- Rows for columns, block by block.
use Rattle.exact.proofs.Counting.{move_keeps_count}
use Rattle.exact.proofs.move_keeps_count.Goals as goal

pub returns : goal.returns
returns c = move_keeps_count
