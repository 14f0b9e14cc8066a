use Rattle.std.proofs.Common.{◌-◌, length}
use Rattle.sender.specs.Runs.{fresh}
use Rattle.sender.specs.Sending.{blocks_to_send, Filled}
use Rattle.sender.proofs.Filling.{Came}
use Rattle.sender.proofs.whole.send_frame.Given as goal

-- The chips hold the blocks of a cursor that has come some blocks on.
abbrev pub invariant-loop : goal.invariant-loop
invariant-loop g l = record { came : Came (fresh l.psdu l.differential l.last) l.cursor; filled : Filled (g.L.LineCode.code l.line) l.cursor l.chips }

abbrev pub decreases-loop : goal.decreases-loop
decreases-loop g l = blocks_to_send (length l.psdu) - l.cursor.block
