-- Every other PSDU is ten places off, of which the doubtful ones may not count.
use Rattle.exact.proofs.Alone.{errors_and_erasures_mended}
use Rattle.exact.proofs.errors_and_erasures_are_mended.Goals as goal

pub returns : goal.returns
returns c = errors_and_erasures_mended
