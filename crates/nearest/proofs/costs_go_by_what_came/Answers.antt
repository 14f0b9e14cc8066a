-- It holds of every kind of cost, with no law.
use Rattle.nearest.proofs.Path.{by_what_came}
use Rattle.nearest.proofs.costs_go_by_what_came.Goals as goal

pub returns : goal.returns
returns g c = by_what_came _
