-- Over every list of calls: the receiver agrees with the book, so each accepted close returns the nearest PSDU, and the book tells every refusal.
-- Assumes nothing.
use Rattle.std.proofs.Common.{◌≡◌, ℕ, ◌*◌, List, ◌++◌, length, drop, Ok, Err, Result, sym, refl, ap, ◌∙◌, subst, arith}
use Rattle.faults.specs.declared.Fault.{Fault}
use Rattle.linecode.specs.Codes.{Code, Lawful}
use Rattle.codebits.specs.Message.{blocks}
use Rattle.frames.specs.Sent.{block_chips}
use Rattle.costs.specs.Kind.{Kind}
use Rattle.costs.specs.declared.Observation.{Observation}
use Rattle.header.specs.declared.model.Header.{Header}
use Rattle.nearest.specs.Nearest.{NearestPsdu}
use Rattle.reading.specs.Frames.{frame_seen}
use Rattle.trellis.specs.Memory.{cost_in}
use Rattle.trellis.specs.Trace.{traced_by, psdu_after}
use Rattle.trellis.specs.Frame.{Holds, BlocksRunTheTrellis}
use Rattle.receiver.specs.Judging.{block_judged, close_judged}
use Rattle.receiver.specs.Receiver.{Open, octets, frame_by, block_by, block_step, close_by, close_step}
use Rattle.receiver.specs.Runs.{within, Calls, begin, block, State, after}
use Rattle.receiver.specs.Book.{Entries, chips_of, entered, book, book_judged}
use Rattle.receiver.specs.Promise.{Returned, refusal, AcceptedClosesNearest, JudgedByTheBook, RefusalsByTheBook}
use Rattle.receiver.proofs.Passing.{closable}
use Rattle.receiver.proofs.Numbers.{costs_stay, words_stay}
use Rattle.receiver.proofs.Agreeing.{Agrees, opened, blocked}

module _ {C : Type 0} (kind : Kind Observation C) (runs : BlocksRunTheTrellis kind) (k : Code) (lawful : Lawful k) (costs : List C) (words : List ℕ) where
  -- the judgement of the book is that of the receiver
  same_judgement : (cs : Calls (within k)) (b : Entries) (chips : List ℕ) →
      book_judged (length (after kind costs words cs).costs) (length (after kind costs words cs).words) k b chips ≡ book_judged (length costs) (length words) k b chips
  same_judgement cs b chips =
      ap (λ n. book_judged n (length (after kind costs words cs).words) k b chips) (costs_stay kind costs words cs)
      ∙ ap (λ n. book_judged (length costs) n k b chips) (words_stay kind costs words cs)

  pub agrees : (cs : Calls (within k)) → let s = after kind costs words cs in Agrees kind k s.receiver s.costs s.words (book (length costs) (length words) cs)
  agrees (begin cs h k) = let s = after kind costs words cs in opened kind runs k lawful h s.costs s.words
  agrees (block cs chips) =
      let s = after kind costs words cs in
      let b = book (length costs) (length words) cs in
      let r = block_step kind k s.receiver s.costs s.words chips in
      subst (λ (j : Result (Unit {0}) Fault). Agrees kind k r.frame r.costs r.words (entered j b chips)) (same_judgement cs b chips)
      (blocked kind runs k lawful s.receiver s.costs s.words b chips (agrees cs))

  -- what the receiver judges is what the book judges
  judged_by_book : (cs : Calls (within k)) (chips : List ℕ) → let s = after kind costs words cs in
      block_judged k (octets s.receiver.header) s.receiver.accepted (length s.costs) (length s.words) chips ≡ book_judged (length costs) (length words) k (book (length costs) (length words) cs) chips
  judged_by_book cs chips =
      let s = after kind costs words cs in
      let b = book (length costs) (length words) cs in
      let a = agrees cs in
      ap (λ (h : Header). block_judged k (octets h) s.receiver.accepted (length s.costs) (length s.words) chips) a.header
      ∙ (ap (λ (n : ℕ). block_judged k (octets b.header) n (length s.costs) (length s.words) chips) a.count ∙ same_judgement cs b chips)

  pub closed_by_book : (cs : Calls (within k)) (room : ℕ) → let s = after kind costs words cs in let b = book (length costs) (length words) cs in
      close_judged (octets s.receiver.header) s.receiver.accepted (length s.costs) (length s.words) room ≡ close_judged (octets b.header) (length b.blocks) (length costs) (length words) room
  closed_by_book cs room =
      let s = after kind costs words cs in
      let b = book (length costs) (length words) cs in
      let a = agrees cs in
      ap (λ (h : Header). close_judged (octets h) s.receiver.accepted (length s.costs) (length s.words) room) a.header
      ∙ (ap (λ (n : ℕ). close_judged (octets b.header) n (length s.costs) (length s.words) room) a.count
      ∙ (ap (λ (n : ℕ). close_judged (octets b.header) (length b.blocks) n (length s.words) room) (costs_stay kind costs words cs)
      ∙ ap (λ (n : ℕ). close_judged (octets b.header) (length b.blocks) (length costs) n room) (words_stay kind costs words cs)))

  -- a step's answer tells its judgement
  block_answer : (f : Open) (cost : List C) (word chips : List ℕ) (j : Result (Unit {0}) Fault) → (block_by kind k f cost word chips j).answer ≡ j
  block_answer f cost word chips (Ok u) = refl
  block_answer f cost word chips (Err e) = refl

  close_answer : (f : Open) (cost : List C) (word room : List ℕ) (j : Result (Unit {0}) Fault) → refusal (close_by kind f cost word room j).answer ≡ j
  close_answer f cost word room (Ok u) = refl
  close_answer f cost word room (Err e) = refl

  pub judged_by_the_book : (cs : Calls (within k)) → JudgedByTheBook kind costs words k cs
  judged_by_the_book cs = let s = after kind costs words cs in record {
    of_block = λ chips. block_answer s.receiver s.costs s.words chips _ ∙ judged_by_book cs chips;
    of_close = λ room. close_answer s.receiver s.costs s.words room _ ∙ closed_by_book cs (length room);
  }

  full_when : (f : Open) (cost : List C) (word room : List ℕ) (b : Entries) (told : C) → Agrees kind k f cost word b →
      (j : Result (Unit {0}) Fault) → close_judged (octets f.header) f.accepted (length cost) (length word) (length room) ≡ j →
      (close_by kind f cost word room j).answer ≡ Ok told → length b.blocks ≡ blocks (octets b.header)
  full_when f cost word room b told a (Ok u) e ok =
      let fine = closable (octets f.header) f.accepted (length cost) (length word) (length room) u e in
      omega (arith, fine.full, a.few, a.count, ap (λ (h : Header). blocks (octets h)) a.header)
  full_when f cost word room b told a (Err x) e ok = let z : ◌≡◌ {A = ℕ} 0 1 = cc in absurd (omega arith)

  -- a close of a frame that agrees with a book
  returned : (f : Open) (cost : List C) (word room : List ℕ) (b : Entries) (told : C) → Agrees kind k f cost word b →
      (j : Result (Unit {0}) Fault) → close_judged (octets f.header) f.accepted (length cost) (length word) (length room) ≡ j →
      let r = close_by kind f cost word room j in r.answer ≡ Ok told → Returned kind k b told room r.psdu
  unfolding psdu_after
  returned f cost word room b told a (Ok u) e ok =
      let L = octets b.header in
      let is_L : octets f.header ≡ L = ap octets a.header in
      let full : length b.blocks ≡ blocks L = full_when f cost word room b told a (Ok u) e ok in
      let all = frame_seen (frame_by k b.header) (chips_of b) in
      let held : Holds kind all L (blocks L) cost word = subst (λ (n : ℕ). Holds kind all L n cost word) full a.holds in
      record {
        psdu = traced_by L word;
        written = ap (λ n. traced_by n word ++ drop n room) is_L;
        nearest = subst (λ (c : C). NearestPsdu kind all L (traced_by L word) c) (let same : cost_in kind cost 0 0 ≡ told = cc in same) (runs.nearest all L cost word b.header.most held);
      }
  returned f cost word room b told a (Err x) e ok = let z : ◌≡◌ {A = ℕ} 0 1 = cc in absurd (omega arith)

  pub closes_nearest : (cs : Calls (within k)) (room : List ℕ) (told : C) →
      let s = after kind costs words cs in
      let r = close_step kind s.receiver s.costs s.words room in
      r.answer ≡ Ok told → Returned kind k (book (length costs) (length words) cs) told room r.psdu
  closes_nearest cs room told ok =
      let s = after kind costs words cs in
      returned s.receiver s.costs s.words room (book (length costs) (length words) cs) told (agrees cs) _ refl ok

  -- the book of an accepted close has all the frame's blocks
  pub book_full : (cs : Calls (within k)) (room : List ℕ) (told : C) →
      let s = after kind costs words cs in
      let b = book (length costs) (length words) cs in
      (close_step kind s.receiver s.costs s.words room).answer ≡ Ok told → length (chips_of b) ≡ blocks (octets b.header) * block_chips k
  book_full cs room told ok =
      let s = after kind costs words cs in
      let b = book (length costs) (length words) cs in
      let a = agrees cs in
      a.long ∙ ap (λ n. n * block_chips k) (full_when s.receiver s.costs s.words room b told a _ refl ok)

  -- the same as a close sees it, that finds this frame and this memory
  pub every_list : (cs : Calls (within k)) (found : State C (within k)) (room room' : List ℕ) (told : C) → after kind costs words cs ≡ found →
      let r = close_step kind found.receiver found.costs found.words room in
      r.answer ≡ Ok told → room' ≡ r.psdu → Returned kind k (book (length costs) (length words) cs) told room room'
  every_list cs found room room' told is =
      let P : State C (within k) → Type 0 = λ s.
      (close_step kind s.receiver s.costs s.words room).answer ≡ Ok told → room' ≡ (close_step kind s.receiver s.costs s.words room).psdu →
      Returned kind k (book (length costs) (length words) cs) told room room' in
      subst P is (λ ok same. subst (λ (r : List ℕ). Returned kind k (book (length costs) (length words) cs) told room r) (sym same) (closes_nearest cs room told ok))

pub accepted_closes_nearest : {C : Type 0} (kind : Kind Observation C) → BlocksRunTheTrellis kind → AcceptedClosesNearest kind
accepted_closes_nearest kind runs costs words k lawful cs room told ok = closes_nearest kind runs k lawful costs words cs room told ok

pub refusals_by_the_book : {C : Type 0} (kind : Kind Observation C) → BlocksRunTheTrellis kind → RefusalsByTheBook kind
refusals_by_the_book kind runs costs words k lawful cs = judged_by_the_book kind runs k lawful costs words cs
