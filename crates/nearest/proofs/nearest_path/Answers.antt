-- Every kind of cost has the laws, and they cover the longest frame.
use Rattle.costs.specs.Kind.{most_charges}
use Rattle.nearest.proofs.Path.{nearest_by_laws, traces_psdu}
use Rattle.nearest.proofs.nearest_path.Goals as goal

pub returns : goal.returns
returns g c = record { message = nearest_by_laws _ most_charges g.met.K.CostKind.lawful; psdu = traces_psdu _ g.met.K.CostKind.lawful }
