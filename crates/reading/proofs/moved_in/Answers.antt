use Rattle.std.proofs.Common.{refl, arith}
use Rattle.codebits.specs.Interleaving.{moved_in}
use Rattle.reading.proofs.moved_in.Goals as goal

pub returns : goal.returns
unfolding moved_in
returns c = record { value = refl; within = omega arith }
