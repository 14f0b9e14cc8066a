-- The sums are those of the two code bits.
use Rattle.codebits.proofs.Coding.{xor_is}
use Rattle.nearest.specs.Trellis.{first_of, second_of}
use Rattle.trellis.proofs.butterfly.claims.Goals as goal

pub returns : goal.returns
unfolding first_of second_of
returns c = (simp xor_is cc, simp xor_is cc)
