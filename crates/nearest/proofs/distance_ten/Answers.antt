-- By the weight of the code bits of the two messages' sum.
use Rattle.nearest.proofs.Weight.{distance_ten}
use Rattle.nearest.proofs.distance_ten.Goals as goal

pub returns : goal.returns
returns c = distance_ten
