use Rattle.verdicts.proofs.Cleanly.{clean_back}
use Rattle.verdicts.proofs.clean_captures_come_back.Goals as goal

pub returns : goal.returns
returns c = clean_back
