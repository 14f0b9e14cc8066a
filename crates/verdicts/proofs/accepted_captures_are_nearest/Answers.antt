use Rattle.verdicts.proofs.Nearness.{accepted_nearest}
use Rattle.verdicts.proofs.accepted_captures_are_nearest.Goals as goal

pub returns : goal.returns
returns c = accepted_nearest
