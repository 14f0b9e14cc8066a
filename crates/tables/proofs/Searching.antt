-- A search over the words of a table that are left in its digits.
-- Assumes nothing.
use Rattle.std.proofs.Common.{◌≡◌, ℕ, suc, ◌+◌, ◌-◌, ◌^◌, ◌<◌, ◌≤◌, Bool, false, true, List, [], ◌++◌, length, get_or, take, drop, sym, ap, ◌∙◌, subst, ⊎_elim, arith, length-append}
use Rattle.std.proofs.lemmas.Bool.{cases_lt}
use Rattle.std.proofs.lemmas.List.{length-map, map-append, drop_more, drop_all, take-append-le, take_all, drop-append-le}
use Rattle.linecode.specs.Chips.{chip_of, word_of}
use Rattle.linecode.specs.Codes.{distance, value_of}
use Rattle.linecode.proofs.Hearing.{values}
use Rattle.tables.specs.Codes.{words, word_chips, group_bits, code_of, row}
use Rattle.tables.specs.declared.code.TableCode.{TableCode}
use Rattle.tables.proofs.Best.{Best, best_takes, best_ties, best_keeps}
use Rattle.tables.proofs.Table.{facts, long}
use Rattle.tables.proofs.Distances.{distance_within}

-- words of one length, with something behind each
fronts : (xs ys us vs : List ℕ) → length xs ≡ length ys → xs ++ us ≡ ys ++ vs → xs ≡ ys
fronts xs ys us vs e same =
    sym (take_all (length ys) xs (omega arith)) ∙ sym (take-append-le (length ys) xs us (omega arith)) ∙ ap (take (length ys)) same
    ∙ take-append-le (length ys) ys vs (omega arith) ∙ take_all (length ys) ys (omega arith)

backs : (xs ys us vs : List ℕ) → length xs ≡ length ys → xs ++ us ≡ ys ++ vs → us ≡ vs
backs xs ys us vs e same =
    sym (ap (λ zs. zs ++ us) (drop_all (length ys) xs (omega arith))) ∙ sym (drop-append-le (length ys) xs us (omega arith)) ∙ ap (drop (length ys)) same
    ∙ drop-append-le (length ys) ys vs (omega arith) ∙ ap (λ zs. zs ++ vs) (drop_all (length ys) ys (omega arith))

-- how far the chips are from the word of a value
abbrev pub far : TableCode → List ℕ → ℕ → ℕ
far t chips v = distance (get_or (words t) v []) chips

module _ (t : TableCode) (chips : List ℕ) where
  -- the words from k on are left, and the best of those before is known
  pub record Searched (size k : ℕ) (left : List ℕ) (best : ℕ × Bool) (least : ℕ) : Type 0 where
    pub sized : size ≡ word_chips t
    pub behind : k ≤ length (words t)
    pub ahead : word_of left ≡ row (drop k (words t))
    pub known : Best (far t chips) k best least

  module _ (size k : ℕ) (left : List ℕ) (best : ℕ × Bool) (least : ℕ) (s : Searched size k left best least) where
    -- a word is left, so k is the value of one
    within : word_chips t ≤ length left → k < length (words t)
    within enough =
        ⊎_elim (λ lt. lt)
        (λ ge.
        let none = ap length (s.ahead ∙ ap row (drop_all k (words t) ge)) in
        let some = (facts t).some in
        let same = length-map left chip_of in
        absurd (omega arith))
        (cases_lt k (length (words t)))

    -- none is left, so each has been searched
    over : length left < size → k ≡ length (words t)
    over few =
        ⊎_elim
        (λ lt.
        let here = drop_more (words t) k [] lt in
        let all = ap length (s.ahead ∙ ap row here) in
        let same = length-map left chip_of in
        let parts = length-append (get_or (words t) k []) (row (drop (k + 1) (words t))) in
        let n = long t k lt in
        let e = s.sized in
        absurd (omega arith))
        (λ ge. let b = s.behind in omega arith)
        (cases_lt k (length (words t)))

    pub found_best : length left < size → best ≡ value_of (code_of t) 0 chips
    found_best few =
        let some = values (group_bits t) (facts t).width in
        let count = (facts t).count in
        let all = over few in
        let last : k ≡ suc (2 ^ group_bits t - 1) = omega arith in
        (subst (λ (m : ℕ). Best (far t chips) m best least) last s.known).0

    -- one turn of the loop: it takes the next word off those that are left
    module _ {Q R : Type 0} (size' k' v : ℕ) (word left' : List ℕ) (step : ((size' ≡ size) × ((left ≡ word ++ left') × (length word ≡ size)) × R) × (v ≡ k) × (k' ≡ k + 1) × Q) (found : ℕ) (is : found ≡ distance (word_of word) chips) where
      turned : (b : ℕ × Bool) (l : ℕ) → (found ≡ far t chips k → found ≤ 128 → Best (far t chips) (suc k) b l) → Searched size' k' left' b l
      turned b l next =
          let parts = step.0.1.0 in
          let size_is = s.sized in
          let word_size = step.0.1.1 in
          let size_same = step.0.0 in
          let both = ap length parts ∙ length-append word left' in
          let here = within (omega arith) in
          let row_is = ap row (drop_more (words t) k [] here) in
          let w = get_or (words t) k [] in
          let all : word_of word ++ word_of left' ≡ w ++ row (drop (k + 1) (words t)) =
          sym (map-append chip_of word left') ∙ ap word_of (sym parts) ∙ s.ahead ∙ row_is in
          let same : length (word_of word) ≡ length w = length-map word chip_of ∙ word_size ∙ size_is ∙ sym (long t k here) in
          let word_is = fronts (word_of word) w _ _ same all in
          let count = step.2 in
          let few = (facts t).few in
          let up = distance_within (word_of word) chips in
          let digits = length-map word chip_of in
          record {
            sized = size_same ∙ size_is;
            behind = omega arith;
            ahead = backs (word_of word) w _ _ same all ∙ ap (λ m. row (drop m (words t))) (sym count);
            known = subst (λ (m : ℕ). Best (far t chips) m b l) (let e : suc k ≡ k' = omega arith in e) (next (is ∙ ap (λ x. distance x chips) word_is) (omega arith));
          }

      pub searched_nearer : found < least → Searched size' k' left' (v, false) found
      searched_nearer lt = subst (λ (m : ℕ). Searched size' k' left' (m, false) found) (sym step.1) (turned (k, false) found (λ e small. best_takes (far t chips) best least found small k s.known e lt))

      pub searched_tied : found ≡ least → Searched size' k' left' (best.0, true) least
      searched_tied same = turned (best.0, true) least (λ e small. best_ties (far t chips) best least found small k s.known e same)

      pub searched_farther : least < found → Searched size' k' left' best least
      searched_farther gt = turned best least (λ e small. best_keeps (far t chips) best least found small k s.known e gt)
