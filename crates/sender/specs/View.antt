-- What a cursor stands for, and what it stores beside that.
-- Assumes nothing.
use Rattle.std.specs.Prelude.{◌≡◌, ◌*◌}
use Rattle.codebits.specs.Message.{message_bit}
use Rattle.sender.specs.declared.cursor.Cursor.TheInside.{Inside}
use Rattle.sender.specs.Sending.{State}
use Rattle.sender.specs.Stored.{last_six, last_sent}

abbrev pub state_of : Inside → State
state_of c = record { psdu = c.psdu.now; differential = c.differential; last = c.start; block = c.block }

-- The stored bits are the last six message bits before the next block, and the last bit is the one sent before that block.
pub record Follows (c : Inside) : Type 0 where
  pub six : c.register.bits ≡ last_six (message_bit c.psdu.now) (88 * c.block)
  pub sent : c.last ≡ last_sent c.differential c.start c.psdu.now (176 * c.block)
