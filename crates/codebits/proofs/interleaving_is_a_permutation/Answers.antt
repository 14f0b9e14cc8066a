use Rattle.codebits.proofs.Places.{permutation}
use Rattle.codebits.proofs.interleaving_is_a_permutation.Goals as goal

pub returns : goal.returns
returns c = permutation
