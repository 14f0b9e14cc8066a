use Rattle.codebits.proofs.Listed.{listed}
use Rattle.codebits.proofs.message_is_listed.Goals as goal

pub returns : goal.returns
returns c = listed
