-- The graded cost keeps the laws.
use Rattle.costs.specs.TwoKinds.{graded_laws}
use Rattle.costs.proofs.graded_keeps_the_laws.Goals as goal

pub returns : goal.returns
returns c = graded_laws
