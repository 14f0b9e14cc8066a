-- A receiver that is handed the parts of a list of chips, block by block: what the book has, and how each call is judged.
-- Assumes nothing.
use Rattle.std.proofs.Common.{◌≡◌, ℕ, zero, suc, ◌*◌, ◌<◌, ◌≤◌, List, [], ◌++◌, map, length, take, Ok, Result, sym, ap, ◌∙◌, suc-mul, add-one, arith, take-add}
use Rattle.std.specs.List.{range_with_len, flat_map}
use Rattle.std.proofs.lemmas.List.FromFn.{length-map-range_with_len, map-range_with_len_more}
use Rattle.std.proofs.lemmas.List.{flat_map_more}
use Rattle.std.proofs.lemmas.Bool.{le-ltb, lt-leb, cond-false}
use Rattle.faults.specs.declared.Fault.{Fault}
use Rattle.faults.specs.declared.Layer.TheVariants.{Frame as FrameLayer}
use Rattle.linecode.specs.Chips.{judged, part}
use Rattle.linecode.specs.Codes.{Code, Lawful}
use Rattle.codebits.specs.Message.{blocks, message_length}
use Rattle.frames.specs.Sent.{block_chips}
use Rattle.costs.specs.Kind.{Kind}
use Rattle.costs.specs.declared.Observation.{Observation}
use Rattle.header.specs.declared.model.Header.{Header}
use Rattle.trellis.specs.Frame.{BlocksRunTheTrellis}
use Rattle.receiver.specs.Judging.{room_judged, close_judged}
use Rattle.receiver.specs.Receiver.{octets, block_step}
use Rattle.receiver.specs.Runs.{listening, within, Calls, after}
use Rattle.receiver.specs.Book.{Entries, chips_of, entered, book, book_judged}
use Rattle.receiver.proofs.Promised.{judged_by_the_book, closed_by_book}
use Rattle.promise.specs.Parts.{part_calls, page}

-- parts one after the other
parts_joined : (m : ℕ) (xs : List ℕ) (n : ℕ) → flat_map (λ (x : List ℕ). x) (map (part m xs) (range_with_len 0 n)) ≡ take (n * m) xs
parts_joined m xs zero = ap (λ i. take i xs) (let z : 0 ≡ 0 * m = omega arith in z)
parts_joined m xs (suc n) =
    ap (flat_map (λ (x : List ℕ). x)) (ap (λ i. map (part m xs) (range_with_len 0 i)) (sym (add-one n)) ∙ map-range_with_len_more (part m xs) 0 n n (omega arith))
    ∙ (sym (flat_map_more (λ (x : List ℕ). x) [] (map (part m xs) (range_with_len 0 n)) (part m xs n))
    ∙ (ap (λ ys. ys ++ part m xs n) (parts_joined m xs n) ∙ (sym (take-add (n * m) m xs) ∙ ap (λ i. take i xs) (sym (suc-mul n m)))))

-- checks that pass
passes : (L accepted c w : ℕ) (later : Result (Unit {0}) Fault) → 128 ≤ c → message_length L ≤ w → accepted < blocks L → room_judged L accepted c w later ≡ later
passes L accepted c w later hc hw ha =
    cond-false _ _ _ (le-ltb c 128 hc) ∙ (cond-false _ _ _ (le-ltb w (message_length L) hw) ∙ cond-false _ _ _ (lt-leb (blocks L) accepted ha))

closes : (L accepted c w room : ℕ) → 128 ≤ c → message_length L ≤ w → blocks L ≤ accepted → L ≤ room → close_judged L accepted c w room ≡ Ok tt
closes L accepted c w room hc hw ha hr =
    cond-false _ _ _ (le-ltb c 128 hc)
    ∙ (cond-false _ _ _ (le-ltb w (message_length L) hw) ∙ (cond-false _ _ _ (le-ltb accepted (blocks L) ha) ∙ cond-false _ _ _ (le-ltb room L hr)))

module _ (h : Header) (k : Code) (xs : List ℕ) (n : ℕ) where
  pub page_count : length (page h k xs n).blocks ≡ n
  page_count = length-map-range_with_len (part (block_chips k) xs) 0 n

  pub page_chips : chips_of (page h k xs n) ≡ take (n * block_chips k) xs
  page_chips = parts_joined (block_chips k) xs n

  page_more : entered (Ok tt) (page h k xs n) (part (block_chips k) xs n) ≡ page h k xs (suc n)
  page_more =
      let entry : List (List ℕ) → Entries = λ bs. record { header = h; blocks = bs } in
      ap entry (sym (map-range_with_len_more (part (block_chips k) xs) 0 n n (omega arith)) ∙ ap (λ i. map (part (block_chips k) xs) (range_with_len 0 i)) (add-one n))

module _ {C : Type 0} (kind : Kind Observation C) (runs : BlocksRunTheTrellis kind) (k : Code) (lawful : Lawful k) (costs : List C) (words : List ℕ)
    (earlier : Calls listening) (h : Header) (xs : List ℕ) (hc : 128 ≤ length costs) (hw : message_length (octets h) ≤ length words)
  where
    abbrev calls : ℕ → Calls (within k)
    calls n = part_calls earlier h k xs n

    abbrev Booked : ℕ → Type 0
    Booked n = book (length costs) (length words) (calls n) ≡ page h k xs n

    -- the next block is judged by its chips alone
    module _ (n : ℕ) (booked : Booked n) (lt : n < blocks (octets h)) where
      abbrev chips : List ℕ
      chips = part (block_chips k) xs n

      by_book : book_judged (length costs) (length words) k (page h k xs n) chips ≡ judged FrameLayer (block_chips k) chips
      by_book = passes (octets h) (length (page h k xs n).blocks) (length costs) (length words) (judged FrameLayer (block_chips k) chips) hc hw (omega (arith, page_count h k xs n))

      pub next_judged : let s = after kind costs words (calls n) in (block_step kind k s.receiver s.costs s.words chips).answer ≡ judged FrameLayer (block_chips k) chips
      next_judged =
          (judged_by_the_book kind runs k lawful costs words (calls n)).of_block chips
          ∙ (ap (λ e. book_judged (length costs) (length words) k e chips) booked ∙ by_book)

      pub booked_more : judged FrameLayer (block_chips k) chips ≡ Ok tt → Booked (suc n)
      booked_more good =
          ap (λ e. entered (book_judged (length costs) (length words) k e chips) e chips) booked
          ∙ (ap (λ j. entered j (page h k xs n) chips) (by_book ∙ good) ∙ page_more h k xs n)

    -- and so is the close, once the book has all blocks
    pub close_passes : (room : ℕ) → octets h ≤ room → Booked (blocks (octets h)) →
        let s = after kind costs words (calls (blocks (octets h))) in close_judged (octets s.receiver.header) s.receiver.accepted (length s.costs) (length s.words) room ≡ Ok tt
    close_passes room hr booked =
        let b = page h k xs (blocks (octets h)) in
        closed_by_book kind runs k lawful costs words (calls (blocks (octets h))) room
        ∙ (ap (λ (e : Entries). close_judged (octets e.header) (length e.blocks) (length costs) (length words) room) booked
        ∙ closes (octets h) (length b.blocks) (length costs) (length words) room hc hw (omega (arith, page_count h k xs (blocks (octets h)))) hr)
