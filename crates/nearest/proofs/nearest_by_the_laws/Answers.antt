-- By induction over the steps: no message undercuts the state that it comes to.
use Rattle.nearest.proofs.Path.{nearest_by_laws}
use Rattle.nearest.proofs.nearest_by_the_laws.Goals as goal

pub returns : goal.returns
returns g c = nearest_by_laws
