use Rattle.std.proofs.Common.{refl}
use Rattle.linecode.specs.Codes.{nearest}
use Rattle.codebits.specs.Convolution.{code_bit, first, second, back}
use Rattle.codebits.specs.Interleaving.{moved_in}
use Rattle.header.specs.Phr.{sum_from}
use Rattle.layers.specs.Whitening.{register}
use Rattle.examples.proofs.worked_examples_stand.Goals as goal

pub returns : goal.returns
unfolding nearest register code_bit first second back moved_in sum_from
returns c = record {
  shortest = (refl, refl);
  one_block = (refl, refl);
  two_blocks = (refl, refl);
  longest = (refl, refl);
  impulse_response = refl;
  places = (refl, refl, refl, refl);
  phr_ten = refl;
  phr_longest = refl;
  phr_shortest = refl;
  sequence_start = refl;
  doubtful_group = refl;
  sure_group = refl;
}
