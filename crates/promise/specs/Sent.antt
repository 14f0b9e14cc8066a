-- What an accepted close returns where the harm is small: the PSDU that was sent, by the count and by the graded cost.
-- Assumes nothing.
use Rattle.std.specs.Prelude.{◌≡◌, ℕ, ◌+◌, ◌*◌, ◌≤◌, List, length, Ok}
use Rattle.linecode.specs.Codes.{Code, Lawful}
use Rattle.codebits.specs.Bits.{count, differences}
use Rattle.codebits.specs.Message.{IsPsdu}
use Rattle.costs.specs.Differences.{sure_differences}
use Rattle.costs.specs.Kind.{Kind}
use Rattle.costs.specs.Observed.{bits_of, doubts_of}
use Rattle.costs.specs.declared.Observation.{Observation}
use Rattle.nearest.specs.Messages.{psdu_bits, code_length}
use Rattle.reading.specs.Frames.{frame_seen}
use Rattle.wrecked.specs.Wrecked.{wrecked_bits}
use Rattle.receiver.specs.Receiver.{octets, frame_by, close_step}
use Rattle.receiver.specs.Runs.{within, Calls, after}
use Rattle.receiver.specs.Book.{Entries, chips_of, book}
use Rattle.receiver.specs.Promise.{Returned}

-- what the book's chips, in order, show of the frame's code bits
abbrev pub seen : Code → Entries → ℕ → Observation
seen k b = frame_seen (frame_by k b.header) (chips_of b)

-- A rival q, a PSDU of the header's length, is near enough to what is observed:
-- at most four observed code bits differ from its code bits;
abbrev pub FourWrongBits : Code → Entries → List ℕ → Type 0
FourWrongBits k b q = differences (bits_of (seen k b)) (psdu_bits q) (code_length (octets b.header)) ≤ 4

-- twice the sure differences, and the doubtful places, are at most nine;
abbrev pub NineByDoubt : Code → Entries → List ℕ → Type 0
NineByDoubt k b q =
    2 * sure_differences (seen k b) (psdu_bits q) (code_length (octets b.header)) + count (doubts_of (seen k b)) (code_length (octets b.header)) ≤ 9

-- the groups wrecked against it, times bits per group, doubled under differential coding, come to at most four
abbrev pub FewWrecked : Code → Entries → List ℕ → Type 0
FewWrecked k b q = wrecked_bits (frame_by k b.header) q (chips_of b) ≤ 4

-- A close returned the nearest PSDU, which is any rival that is near enough by its code bits, or by its groups.
pub record ReturnedSent {C : Type 0} (kind : Kind Observation C) (Near : Code → Entries → List ℕ → Type 0) (k : Code) (b : Entries) (told : C) (room room' : List ℕ) : Type 0 where
  pub returned : Returned kind k b told room room'
  pub near_by_bits : (q : List ℕ) → IsPsdu (octets b.header) q → Near k b q → returned.psdu ≡ q
  pub near_by_groups : (q : List ℕ) → IsPsdu (octets b.header) q → FewWrecked k b q → returned.psdu ≡ q

-- Over every list of calls, whatever costs and words it starts from, each accepted close does so, judged by the book before it.
abbrev pub AcceptedClosesReturn : {C : Type 0} → Kind Observation C → (Code → Entries → List ℕ → Type 0) → Type 0
AcceptedClosesReturn {C} kind Near =
    (costs : List C) (words : List ℕ) (k : Code) → Lawful k → (cs : Calls (within k)) (room : List ℕ) (told : C) →
    let s = after kind costs words cs in
    let r = close_step kind s.receiver s.costs s.words room in
    r.answer ≡ Ok told →
    ReturnedSent kind Near k (book (length costs) (length words) cs) told room r.psdu
