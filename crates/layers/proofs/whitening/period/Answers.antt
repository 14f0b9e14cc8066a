use Rattle.layers.specs.Whitening.{register}
use Rattle.layers.proofs.whitening.period.Goals as goal

pub returns : goal.returns
unfolding register
returns c = tt
