-- Every other PSDU is ten places off, so it differs in six at least.
use Rattle.exact.proofs.Alone.{four_wrong_bits_mended}
use Rattle.exact.proofs.four_wrong_bits_are_mended.Goals as goal

pub returns : goal.returns
returns c = four_wrong_bits_mended
