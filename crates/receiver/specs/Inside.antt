-- What an open frame stores.
-- Assumes nothing.
use Rattle.std.specs.Prelude.{◌≤◌}
use Rattle.codebits.specs.Message.{blocks}
use Rattle.header.specs.View.{view}
use Rattle.receiver.specs.declared.states.OpenFrame.TheInside.{Inside}
use Rattle.receiver.specs.Open.{Open}

abbrev pub open_of : Inside → Open
open_of f = record { header = f.header; accepted = f.accepted; last = f.last }

-- no more blocks are accepted than the header tells of
abbrev pub HasRoom : Inside → Type 0
HasRoom f = f.accepted ≤ blocks (view f.header).length
