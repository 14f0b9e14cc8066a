use Rattle.verdicts.proofs.Behind.{nothing_read_behind}
use Rattle.verdicts.proofs.nothing_is_read_behind.Goals as goal

pub returns : goal.returns
returns c = nothing_read_behind
