-- The book of a list of calls: it is fed the calls' arguments alone, and of costs and words only their number.
-- Assumes nothing.
use Rattle.std.specs.Prelude.{ℕ, List, [], ◌∷◌, ◌++◌, length, Ok, Err, Result}
use Rattle.std.specs.List.{flat_map}
use Rattle.faults.specs.declared.Fault.{Fault}
use Rattle.linecode.specs.Codes.{Code}
use Rattle.header.specs.declared.model.Header.{Header}
use Rattle.receiver.specs.Judging.{block_judged}
use Rattle.receiver.specs.Receiver.{octets}
use Rattle.receiver.specs.Runs.{Phase, listening, within, Calls, start, begin, block, close, abandon}

-- What the book has of an open frame: the header, and the chips of each block that no fault applied to, in order.
pub record Entries : Type 0 where
  pub header : Header
  pub blocks : List (List ℕ)

abbrev pub chips_of : Entries → List ℕ
chips_of b = flat_map (λ (chips : List ℕ). chips) b.blocks

abbrev pub Book : Phase → Type 0
Book listening = Unit {0}
Book (within k) = Entries

-- the fault of a block, judged by the book
abbrev pub book_judged : ℕ → ℕ → Code → Entries → List ℕ → Result (Unit {0}) Fault
book_judged costs words k b chips = block_judged k (octets b.header) (length b.blocks) costs words chips

abbrev pub entered : Result (Unit {0}) Fault → Entries → List ℕ → Entries
entered (Ok u) b chips = record { header = b.header; blocks = b.blocks ++ chips ∷ [] }
entered (Err e) b chips = b

-- begin enters its header, block adds its chips unless a fault applies, close, refused or not, and abandon empty the book
abbrev pub book : ℕ → ℕ → {p : Phase} → Calls p → Book p
book costs words start = tt
book costs words (begin cs h k) = record { header = h; blocks = [] }
book costs words (block {k} cs chips) = let b = book costs words cs in entered (book_judged costs words k b chips) b chips
book costs words (close cs room) = tt
book costs words (abandon cs) = tt
