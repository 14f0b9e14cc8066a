-- By the bits of each octet.
use Rattle.nearest.proofs.Octets.{messages_are_psdus}
use Rattle.nearest.proofs.messages_are_psdus.Goals as goal

pub returns : goal.returns
returns c = messages_are_psdus
