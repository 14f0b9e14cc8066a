-- The parts of a list of chips, handed to a receiver block by block.
-- Assumes nothing.
use Rattle.std.specs.Prelude.{ℕ, zero, suc, List, map}
use Rattle.std.specs.List.{range_with_len}
use Rattle.linecode.specs.Chips.{part}
use Rattle.linecode.specs.Codes.{Code}
use Rattle.frames.specs.Sent.{block_chips}
use Rattle.header.specs.declared.model.Header.{Header}
use Rattle.receiver.specs.Runs.{listening, within, Calls, begin, block}
use Rattle.receiver.specs.Book.{Entries}

-- from a listening receiver: begin, and the first n blocks of the chips
abbrev pub part_calls : Calls listening → Header → (k : Code) → List ℕ → ℕ → Calls (within k)
part_calls earlier h k chips zero = begin earlier h k
part_calls earlier h k chips (suc n) = block (part_calls earlier h k chips n) (part (block_chips k) chips n)

-- the book of n blocks that no fault applied to
abbrev pub page : Header → Code → List ℕ → ℕ → Entries
page h k chips n = record { header = h; blocks = map (part (block_chips k) chips) (range_with_len 0 n) }
