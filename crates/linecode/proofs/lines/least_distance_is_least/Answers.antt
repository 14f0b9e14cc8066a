use Rattle.linecode.proofs.Hearing.{least_distance_lem}
use Rattle.linecode.proofs.lines.least_distance_is_least.Goals as goal

pub returns : goal.returns
returns c = least_distance_lem
