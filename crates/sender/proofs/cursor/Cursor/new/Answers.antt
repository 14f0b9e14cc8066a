use Rattle.std.proofs.Common.{refl}
use Rattle.codebits.specs.Convolution.{back}
use Rattle.sender.specs.Stored.{last_six, last_sent}
use Rattle.sender.proofs.cursor.Cursor.new.Goals as goal

-- before the first block there are six zeros, and the header's last bit
pub invariant_of-result : goal.invariant_of-result
unfolding last_six last_sent back
invariant_of-result c = record { six = c.new.ensures; sent = refl }
