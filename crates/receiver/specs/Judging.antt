-- The refusals of the receiver's calls: judged by the header, by how many blocks were accepted, and of costs and words by their number alone.
-- Assumes nothing.
use Rattle.std.specs.Prelude.{ℕ, ◌*◌, Bool, cond, List, Ok, Err, Result, nat_le, nat_lt}
use Rattle.faults.specs.declared.Fault.{Fault}
use Rattle.faults.specs.declared.FaultKind.{FaultKind}
use Rattle.faults.specs.declared.FaultKind.TheVariants.{ShortMemory, FullFrame, EarlyClose, ShortBuffer}
use Rattle.faults.specs.declared.Layer.TheVariants.{Frame}
use Rattle.faults.specs.Refusals.{fault}
use Rattle.linecode.specs.Chips.{judged}
use Rattle.linecode.specs.Codes.{Code}
use Rattle.codebits.specs.Message.{blocks, message_length}
use Rattle.frames.specs.Sent.{block_chips}
use Rattle.trellis.specs.Memory.{state_count}

-- a check that refuses, or goes on to the later ones
abbrev pub refused_if : Bool → FaultKind → ℕ → Result (Unit {0}) Fault → Result (Unit {0}) Fault
refused_if t kind place later = cond t (Err (fault kind place Frame)) later

-- 1: there are two banks of costs, and a word for each message bit
abbrev pub memory_judged : ℕ → ℕ → ℕ → Result (Unit {0}) Fault → Result (Unit {0}) Fault
memory_judged L costs words later =
    refused_if (nat_lt costs (2 * state_count)) ShortMemory costs (refused_if (nat_lt words (message_length L)) ShortMemory words later)

-- 1 and 2, before the chips of a block are judged
abbrev pub room_judged : ℕ → ℕ → ℕ → ℕ → Result (Unit {0}) Fault → Result (Unit {0}) Fault
room_judged L accepted costs words later = memory_judged L costs words (refused_if (nat_le (blocks L) accepted) FullFrame (blocks L) later)

-- a block of a PSDU of L octets, by a line code
abbrev pub block_judged : Code → ℕ → ℕ → ℕ → ℕ → List ℕ → Result (Unit {0}) Fault
block_judged k L accepted costs words chips = room_judged L accepted costs words (judged Frame (block_chips k) chips)

-- a close with a buffer of so many octets
abbrev pub close_judged : ℕ → ℕ → ℕ → ℕ → ℕ → Result (Unit {0}) Fault
close_judged L accepted costs words room =
    memory_judged L costs words (refused_if (nat_lt accepted (blocks L)) EarlyClose accepted (refused_if (nat_lt room L) ShortBuffer room (Ok tt)))
