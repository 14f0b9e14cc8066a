-- The chips of a group that is sent are its word.
use Rattle.wrecked.proofs.Unharmed.{damaged_unlike_sent}
use Rattle.wrecked.proofs.damaged_chips_are_unlike_sent.Goals as goal

pub returns : goal.returns
returns c = damaged_unlike_sent
