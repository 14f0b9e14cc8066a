use Rattle.codebits.proofs.Determines.{determines}
use Rattle.codebits.proofs.message_determines_psdu.Goals as goal

pub returns : goal.returns
returns c = determines
