-- What a header stands for.
-- Assumes nothing.
use Rattle.std.specs.Prelude.{Ok, Err, Result}
use Rattle.faults.specs.declared.Fault.{Fault}
use Rattle.header.specs.declared.model.Header.{Header}
use Rattle.header.specs.Reading.{Fields}

abbrev pub view : Header → Fields
view h = record { band = h.band; mode = h.mode; length = h.length; last = h.last }

abbrev pub said : Result Header Fault → Result Fields Fault
said (Ok h) = Ok (view h)
said (Err e) = Err e
