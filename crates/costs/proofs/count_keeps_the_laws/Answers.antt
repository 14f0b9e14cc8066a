-- The count keeps the laws.
use Rattle.costs.specs.TwoKinds.{count_laws}
use Rattle.costs.proofs.count_keeps_the_laws.Goals as goal

pub returns : goal.returns
returns c = count_laws
