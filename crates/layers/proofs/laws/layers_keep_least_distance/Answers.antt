use Rattle.layers.proofs.Keeping.{layers_keep_distance}
use Rattle.layers.proofs.laws.layers_keep_least_distance.Goals as goal

pub returns : goal.returns
returns c = layers_keep_distance
