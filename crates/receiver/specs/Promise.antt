-- Every accepted close returns the nearest PSDU, judged by the book.
-- Assumes nothing.
use Rattle.std.specs.Prelude.{◌≡◌, ℕ, List, ◌++◌, length, drop, Ok, Err, Result}
use Rattle.faults.specs.declared.Fault.{Fault}
use Rattle.linecode.specs.Codes.{Code, Lawful}
use Rattle.costs.specs.Kind.{Kind}
use Rattle.costs.specs.declared.Observation.{Observation}
use Rattle.nearest.specs.Nearest.{NearestPsdu}
use Rattle.reading.specs.Frames.{frame_seen}
use Rattle.receiver.specs.Judging.{close_judged}
use Rattle.receiver.specs.Receiver.{octets, frame_by, block_step, close_step}
use Rattle.receiver.specs.Runs.{within, Calls, State, after}
use Rattle.receiver.specs.Book.{Entries, chips_of, book, book_judged}

-- What an accepted close returned, with the buffer before and after it, judged by the book: the header is the frame's, and the chips, in order, read by the frame's line code, give the observed code bits.
pub record Returned {C : Type 0} (kind : Kind Observation C) (k : Code) (b : Entries) (told : C) (room room' : List ℕ) : Type 0 where
  pub psdu : List ℕ
  -- only its octets are written, at the buffer's start
  pub written : room' ≡ psdu ++ drop (octets b.header) room
  -- no PSDU of the header's length has a lower cost than the one told, which is that of the PSDU returned, and a different one of equal cost has 1 at the latest bit where the two differ
  pub nearest : NearestPsdu kind (frame_seen (frame_by k b.header) (chips_of b)) (octets b.header) psdu told

-- a call's refusal
abbrev pub refusal : {X : Type 0} → Result X Fault → Result (Unit {0}) Fault
refusal (Ok x) = Ok tt
refusal (Err e) = Err e

-- Over every list of calls, whatever costs and words it starts from: the same, as the next call finds it.
module _ {C : Type 0} (kind : Kind Observation C) where
  abbrev pub AcceptedClosesNearest : Type 0
  AcceptedClosesNearest =
      (costs : List C) (words : List ℕ) (k : Code) → Lawful k → (cs : Calls (within k)) (room : List ℕ) (told : C) →
      let s = after kind costs words cs in
      let r = close_step kind s.receiver s.costs s.words room in
      r.answer ≡ Ok told →
      Returned kind k (book (length costs) (length words) cs) told room r.psdu

  -- which call is accepted and which refused, and with which fault, is told by the book
  pub record JudgedByTheBook (costs : List C) (words : List ℕ) (k : Code) (cs : Calls (within k)) : Type 0 where
    pub of_block : (chips : List ℕ) → let s = after kind costs words cs in
        (block_step kind k s.receiver s.costs s.words chips).answer ≡ book_judged (length costs) (length words) k (book (length costs) (length words) cs) chips
    pub of_close : (room : List ℕ) → let s = after kind costs words cs in let b = book (length costs) (length words) cs in
        refusal (close_step kind s.receiver s.costs s.words room).answer ≡ close_judged (octets b.header) (length b.blocks) (length costs) (length words) (length room)

  abbrev pub RefusalsByTheBook : Type 0
  RefusalsByTheBook = (costs : List C) (words : List ℕ) (k : Code) → Lawful k → (cs : Calls (within k)) → JudgedByTheBook costs words k cs

  -- the promise as a close sees it: over every list of calls that leads to the frame and the memory that it finds
  abbrev pub NearestOfEveryList : (told : C) (room room' : List ℕ) → ((k : Code) → State C (within k)) → Type 0
  NearestOfEveryList told room room' found =
      (costs : List C) (words : List ℕ) (k : Code) → Lawful k → (cs : Calls (within k)) →
      after kind costs words cs ≡ found k →
      Returned kind k (book (length costs) (length words) cs) told room room'
