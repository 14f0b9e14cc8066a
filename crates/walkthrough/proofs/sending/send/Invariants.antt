use Rattle.std.proofs.Common.{◌-◌, length}
use Rattle.sender.specs.Sending.{blocks_to_send}
use Rattle.walkthrough.proofs.sending.send.Given as goal

abbrev pub decreases-loop-chips : goal.decreases-loop-chips
decreases-loop-chips l = blocks_to_send (length l.cursor.psdu) - l.cursor.block
