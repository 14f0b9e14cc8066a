-- After every list of calls the receiver and its memory agree with the book.
-- Assumes nothing.
use Rattle.std.proofs.Common.{◌≡◌, ℕ, suc, ◌+◌, ◌*◌, ◌<◌, ◌≤◌, false, List, [], ◌∷◌, ◌++◌, length, Ok, Err, Result, sym, refl, ap, ◌∙◌, subst, suc-mul, add-one, arith, length-append}
use Rattle.std.specs.List.{flat_map}
use Rattle.std.proofs.lemmas.List.FromFn.{get_or-map-range_with_len}
use Rattle.std.proofs.lemmas.List.{flat_map_more}
use Rattle.faults.specs.declared.Fault.{Fault}
use Rattle.faults.specs.declared.Layer.TheVariants.{Frame as FrameLayer}
use Rattle.linecode.specs.Codes.{Code, Lawful}
use Rattle.linecode.proofs.Answers.{accepted}
use Rattle.codebits.specs.Message.{blocks, block_bits}
use Rattle.frames.specs.Sent.{Frame, block_chips}
use Rattle.costs.specs.Kind.{Kind}
use Rattle.costs.specs.declared.Observation.{Observation}
use Rattle.costs.specs.declared.Observation.TheVariants.{Sure}
use Rattle.header.specs.View.{view}
use Rattle.header.specs.declared.model.Header.{Header}
use Rattle.reading.specs.Reading.{block_seen, last_seen}
use Rattle.reading.specs.Frames.{frame_seen, frame_last, Follows}
use Rattle.reading.proofs.Frames.{frame_reads}
use Rattle.trellis.specs.Memory.{observed_at}
use Rattle.trellis.specs.Block.{costs_after, words_after}
use Rattle.trellis.specs.Frame.{Holds, BlocksRunTheTrellis}
use Rattle.receiver.specs.Judging.{block_judged}
use Rattle.receiver.specs.Receiver.{Open, octets, differential, frame_by, position, shown, block_by, block_step}
use Rattle.receiver.specs.Book.{Entries, chips_of, entered, book_judged}
use Rattle.receiver.proofs.Passing.{Acceptable, acceptable}

-- What an open frame and the memory hold, by the book.
pub record Agrees {C : Type 0} (kind : Kind Observation C) (k : Code) (f : Open) (costs : List C) (words : List ℕ) (b : Entries) : Type 0 where
  pub header : f.header ≡ b.header
  pub count : f.accepted ≡ length b.blocks
  pub few : length b.blocks ≤ blocks (octets b.header)
  pub long : length (chips_of b) ≡ length b.blocks * block_chips k
  pub last : f.last ≡ frame_last (frame_by k b.header) (length b.blocks) (chips_of b)
  pub holds : Holds kind (frame_seen (frame_by k b.header) (chips_of b)) (octets b.header) (length b.blocks) costs words

chips_more : (b : Entries) (chips : List ℕ) → chips_of (record { header = b.header; blocks = b.blocks ++ chips ∷ [] }) ≡ chips_of b ++ chips
chips_more b chips = sym (flat_map_more (λ (x : List ℕ). x) [] b.blocks chips)

module _ {C : Type 0} (kind : Kind Observation C) (runs : BlocksRunTheTrellis kind) (k : Code) (lawful : Lawful k) where
  -- begin: nothing is asked of the memory
  pub opened : (h : Header) (costs : List C) (words : List ℕ) → Agrees kind k (record { header = h; accepted = 0; last = Sure (view h).last }) costs words (record { header = h; blocks = [] })
  opened h costs words = record {
    header = refl;
    count = refl;
    few = omega arith;
    long = omega arith;
    last = sym (frame_reads.starts (frame_by k h));
    holds = runs.none (frame_seen (frame_by k h) []) (octets h) costs words;
  }

  module _ (h : Header) (xs : List (List ℕ)) (last : Observation) (costs : List C) (words : List ℕ) (chips : List ℕ)
      (a : Agrees kind k (record { header = h; accepted = length xs; last = last }) costs words (record { header = h; blocks = xs }))
      (ok : Acceptable k (octets h) (length xs) (length costs) (length words) chips)
    where
      abbrev n : ℕ
      n = length xs

      abbrev before : Open
      before = record { header = h; accepted = n; last = last }

      abbrev front : List ℕ
      front = flat_map (λ (x : List ℕ). x) xs

      abbrev frame : Frame
      frame = frame_by k h

      follows : Follows frame n front chips
      follows = frame_reads.goes_on frame lawful n front chips a.long

      abbrev all : ℕ → Observation
      all = frame_seen frame (front ++ chips)

      shown_at : (j : ℕ) → j < 176 → observed_at (shown k before chips) j ≡ all (176 * n + j)
      unfolding follows
      shown_at j lt =
          get_or-map-range_with_len (block_seen k (differential h) last (position k before) chips) 0 176 j j (Sure false) lt (omega arith)
          ∙ (ap (λ x. block_seen k (differential h) x (position k before) chips j) a.last ∙ follows.codes j lt)

      joined_chips : chips_of (record { header = h; blocks = xs ++ chips ∷ [] }) ≡ front ++ chips
      joined_chips = chips_more (record { header = h; blocks = xs }) chips

      count_more : length (xs ++ chips ∷ []) ≡ n + 1
      count_more = length-append xs (chips ∷ [])

      words_room : block_bits * suc n ≤ length words
      words_room = omega (arith, ok.words, ok.lacking)

      held : Holds kind all (octets h) (n + 1) (costs_after kind (shown k before chips) (octets h) n costs) (words_after kind (shown k before chips) (octets h) n costs words)
      unfolding follows
      held =
          let later = runs.by_what_came (frame_seen frame front) all (octets h) n costs words (λ j lt. sym (follows.earlier j lt)) a.holds in
          rw add-one (runs.more all (octets h) n costs words (shown k before chips) words_room shown_at later)

      pub goes_on : Agrees kind k
          (record { header = h; accepted = n + 1; last = last_seen k (position k before) chips })
          (costs_after kind (shown k before chips) (octets h) n costs) (words_after kind (shown k before chips) (octets h) n costs words)
          (record { header = h; blocks = xs ++ chips ∷ [] })
      unfolding follows
      goes_on = record {
        header = refl;
        count = sym count_more;
        few = omega (arith, count_more, ok.lacking);
        long =
            let sized = (accepted FrameLayer (block_chips k) chips _ ok.good).sized in
            let front_long = a.long in
            let more : (n + 1) * block_chips k ≡ n * block_chips k + block_chips k = rw add-one (suc-mul n (block_chips k)) in
            ap length joined_chips ∙ (length-append front chips ∙ (omega arith ∙ (sym more ∙ ap (λ m. m * block_chips k) (sym count_more))));
        last = follows.last ∙ (ap (λ m. frame_last frame m (front ++ chips)) (sym count_more) ∙ ap (frame_last frame (length (xs ++ chips ∷ []))) (sym joined_chips));
        holds =
            subst (λ (m : ℕ). Holds kind (frame_seen frame (chips_of (record { header = h; blocks = xs ++ chips ∷ [] }))) (octets h) m (costs_after kind (shown k before chips) (octets h) n costs) (words_after kind (shown k before chips) (octets h) n costs words)) (sym count_more)
            (subst (λ (c : List ℕ). Holds kind (frame_seen frame c) (octets h) (n + 1) (costs_after kind (shown k before chips) (octets h) n costs) (words_after kind (shown k before chips) (octets h) n costs words)) (sym joined_chips) held);
      }

  -- a block call, refused or not
  module _ (last : Observation) (costs : List C) (words : List ℕ) (b : Entries) (chips : List ℕ)
      (a : Agrees kind k (record { header = b.header; accepted = length b.blocks; last = last }) costs words b)
    where
      abbrev found : Open
      found = record { header = b.header; accepted = length b.blocks; last = last }

      by_judgement : (j : Result (Unit {0}) Fault) → block_judged k (octets b.header) (length b.blocks) (length costs) (length words) chips ≡ j →
          let r = block_by kind k found costs words chips j in Agrees kind k r.frame r.costs r.words (entered j b chips)
      by_judgement (Ok u) e = goes_on b.header b.blocks last costs words chips a (acceptable k (octets b.header) (length b.blocks) (length costs) (length words) chips u e)
      by_judgement (Err x) e = a

  same_open : (f : Open) (b : Entries) → f.header ≡ b.header → f.accepted ≡ length b.blocks → f ≡ record { header = b.header; accepted = length b.blocks; last = f.last }
  same_open f b p q =
      let made : Header → ℕ → Open = λ h m. record { header = h; accepted = m; last = f.last } in
      ap (λ h. made h f.accepted) p ∙ ap (made b.header) q

  pub blocked : (f : Open) (costs : List C) (words : List ℕ) (b : Entries) (chips : List ℕ) → Agrees kind k f costs words b →
      let r = block_step kind k f costs words chips in Agrees kind k r.frame r.costs r.words (entered (book_judged (length costs) (length words) k b chips) b chips)
  blocked f costs words b chips a =
      let same = same_open f b a.header a.count in
      let P : Open → Type 0 = λ g. let r = block_step kind k g costs words chips in Agrees kind k r.frame r.costs r.words (entered (book_judged (length costs) (length words) k b chips) b chips) in
      subst P (sym same)
      (by_judgement f.last costs words b chips (subst (λ (g : Open). Agrees kind k g costs words b) same a)
      (block_judged k (octets b.header) (length b.blocks) (length costs) (length words) chips) refl)
