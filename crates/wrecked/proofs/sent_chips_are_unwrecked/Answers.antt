-- A word is no chip away from itself, and the least distance is one at least.
use Rattle.wrecked.proofs.Unharmed.{sent_unharmed}
use Rattle.wrecked.proofs.sent_chips_are_unwrecked.Goals as goal

pub returns : goal.returns
returns c = sent_unharmed
