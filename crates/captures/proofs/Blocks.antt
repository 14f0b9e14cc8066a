-- Section 3 as the loop meets it: all blocks so far are good, and the next one is short, bad or good.
-- Assumes nothing.
use Rattle.std.proofs.Common.{◌≡◌, ℕ, suc, ◌+◌, ◌-◌, ◌*◌, ◌/◌, ◌%◌, ◌<◌, ◌≤◌, cond, eqb, leb, List, ◌++◌, length, take, drop, Ok, Err, sym, refl, ap, ◌∙◌, ⊎_elim, add-mul, arith, length-drop, length-take, take-add}
use native.Mathlib.Nat.{mod-eq-sub-div-mul}
use Rattle.std.specs.List.{prefix_len}
use Rattle.std.proofs.lemmas.Nat.{div-mul-add}
use Rattle.std.proofs.lemmas.List.{length-take-le}
use Rattle.std.proofs.lemmas.List.Folds.{prefix_len-append}
use Rattle.std.proofs.lemmas.List.Sums.{prefix_len-le-length}
use Rattle.std.proofs.lemmas.Bool.{cond-true, cond-false, eq-eqb, ne_eqb, le-leb, lt-leb, cases_Bool, eqb-true, eqb-false}
use Rattle.faults.specs.declared.Fault.{Fault}
use Rattle.faults.specs.declared.FaultKind.TheVariants.{ChipValue, Section}
use Rattle.faults.specs.declared.Layer.TheVariants.{Frame}
use Rattle.faults.specs.Refusals.{fault}
use Rattle.linecode.specs.Chips.{is_chip, judged}
use Rattle.linecode.specs.Judging.{judged_bad, judged_good}
use Rattle.captures.specs.Sections.{refuse}
use Rattle.captures.specs.Chips.{good_chips, Good, blocks_of}

pub good_none : (size : ℕ) (octets : List ℕ) → Good size 0 octets
unfolding good_chips
good_none size octets = let z : 0 ≡ 0 * size = omega arith in ap (λ i. prefix_len is_chip (take i octets)) (sym z) ∙ z

-- so many chips are there
pub good_fits : (size n : ℕ) (octets : List ℕ) → Good size n octets → n * size ≤ length octets
unfolding good_chips
good_fits size n octets g =
    let few = prefix_len-le-length is_chip (take (n * size) octets) in
    let most = length-take (n * size) octets in
    omega (arith, g)

pub all_good : (size n : ℕ) (octets : List ℕ) → Good size n octets → blocks_of size n octets ≡ Ok (take (n * size) octets)
unfolding blocks_of
all_good size n octets g = cond-true _ _ _ (eq-eqb _ _ g)

module _ (size b : ℕ) (octets : List ℕ) (g : Good size b octets) where
  -- what the good chips of more blocks are
  good_on : (r : ℕ) → good_chips size (b + r) octets ≡ b * size + good_chips size r (drop (b * size) octets)
  unfolding good_chips
  good_on r =
      let front = take (b * size) octets in
      let back = take (r * size) (drop (b * size) octets) in
      let cut : take ((b + r) * size) octets ≡ front ++ back = ap (λ i. take i octets) (add-mul b r size) ∙ take-add (b * size) (r * size) octets in
      let most = prefix_len-le-length is_chip front in
      let long = length-take (b * size) octets in
      let is : length front ≡ b * size = omega (arith, g) in
      ap (prefix_len is_chip) cut ∙ (prefix_len-append is_chip front back ∙ (cond-true _ _ _ (eq-eqb _ _ (g ∙ sym is)) ∙ ap (λ i. i + prefix_len is_chip back) is))

  module _ (n : ℕ) (lt : b < n) where
    abbrev rest : List ℕ
    rest = drop (b * size) octets

    -- the good chips end inside the next block
    ends : (p : ℕ) → p < size → good_chips size (suc (n - suc b)) rest ≡ p →
        blocks_of size n octets ≡ cond (leb ((b + 1) * size) (length octets)) (Err (fault ChipValue p Frame)) (refuse Section 3)
    unfolding blocks_of
    ends p small is =
        let whole : n ≡ b + suc (n - suc b) = omega arith in
        let good : good_chips size n octets ≡ b * size + p = ap (λ i. good_chips size i octets) whole ∙ (good_on (suc (n - suc b)) ∙ ap (λ i. b * size + i) is) in
        let row = div-mul-add b size p small in
        let place : (b * size + p) % size ≡ p = mod-eq-sub-div-mul (b * size + p) size ∙ (ap (λ i. b * size + p - i * size) row ∙ omega arith) in
        let more : n * size ≡ b * size + suc (n - suc b) * size = ap (λ i. i * size) whole ∙ add-mul b (suc (n - suc b)) size in
        let one_more : suc (n - suc b) * size ≡ size + (n - suc b) * size = let e : suc (n - suc b) ≡ 1 + (n - suc b) = omega arith in ap (λ i. i * size) e ∙ (add-mul 1 (n - suc b) size ∙ omega arith) in
        ap (λ i. cond (eqb i (n * size)) (Ok (take (n * size) octets)) (cond (leb ((i / size + 1) * size) (length octets)) (Err (fault ChipValue (i % size) Frame)) (refuse Section 3))) good
        ∙ (cond-false _ _ _ (ne_eqb (b * size + p) (n * size) (λ e. omega arith))
        ∙ (ap (λ i. cond (leb ((i + 1) * size) (length octets)) (Err (fault ChipValue ((b * size + p) % size) Frame)) (refuse Section 3)) row
        ∙ ap (λ i. cond (leb ((b + 1) * size) (length octets)) (Err (fault ChipValue i Frame)) (refuse Section 3)) place))

    end_of : (b + 1) * size ≡ b * size + size
    end_of = add-mul b 1 size ∙ omega arith

    -- the input ends inside the next block
    pub short : length rest < size → blocks_of size n octets ≡ refuse Section 3
    unfolding good_chips
    short h =
        let few = prefix_len-le-length is_chip (take (suc (n - suc b) * size) rest) in
        let most = length-take (suc (n - suc b) * size) rest in
        let left = length-drop (b * size) octets in
        ends _ (omega arith) refl ∙ cond-false _ _ _ (lt-leb ((b + 1) * size) (length octets) (omega (arith, end_of)))

    module _ (fits : size ≤ length rest) where
      long : length (take size rest) ≡ size
      long = length-take-le size rest fits

      first : (m : ℕ) → take (suc m * size) rest ≡ take size rest ++ take (m * size) (drop size rest)
      first m = let e : suc m ≡ 1 + m = omega arith in ap (λ i. take i rest) (ap (λ i. i * size) e ∙ (add-mul 1 m size ∙ omega arith)) ∙ take-add size (m * size) rest

      bad_at : prefix_len is_chip (take size rest) < size → blocks_of size n octets ≡ Err (fault ChipValue (prefix_len is_chip (take size rest)) Frame)
      unfolding good_chips
      bad_at h =
          let left = length-drop (b * size) octets in
          let same = ap (prefix_len is_chip) (first (n - suc b)) ∙ (prefix_len-append is_chip (take size rest) (take ((n - suc b) * size) (drop size rest)) ∙ cond-false _ _ _ (ne_eqb (prefix_len is_chip (take size rest)) (length (take size rest)) (λ e. omega (arith, long)))) in
          ends _ h same ∙ cond-true _ _ _ (le-leb ((b + 1) * size) (length octets) (omega (arith, end_of)))

      good_at : prefix_len is_chip (take size rest) ≡ size → Good size (b + 1) octets
      unfolding good_chips
      good_at e =
          let z : 1 * size ≡ size = omega arith in
          good_on 1 ∙ (ap (λ i. b * size + prefix_len is_chip (take i rest)) z ∙ (ap (λ i. b * size + i) e ∙ sym end_of))

      -- a bad chip in the next block
      pub bad : (x : Fault) → judged Frame size (take size rest) ≡ Err x → blocks_of size n octets ≡ Err x
      bad x e =
          ⊎_elim
          (λ yes. let z : ◌≡◌ {A = ℕ} 0 1 = cc (e, judged_good Frame size (take size rest) long (eqb-true _ _ yes)) in absurd (omega arith))
          (λ no.
          let few : prefix_len is_chip (take size rest) < size = let most = prefix_len-le-length is_chip (take size rest) in let ne = eqb-false _ _ no in omega (arith, long) in
          let same : fault ChipValue (prefix_len is_chip (take size rest)) Frame ≡ x = cc (e, judged_bad Frame size (take size rest) long few) in
          bad_at few ∙ ap Err same)
          (cases_Bool (eqb (prefix_len is_chip (take size rest)) size))

      -- none
      pub good_more : (u : Unit {0}) → judged Frame size (take size rest) ≡ Ok u → Good size (b + 1) octets
      good_more u e =
          ⊎_elim
          (λ yes. good_at (eqb-true _ _ yes))
          (λ no.
          let few : prefix_len is_chip (take size rest) < size = let most = prefix_len-le-length is_chip (take size rest) in let ne = eqb-false _ _ no in omega (arith, long) in
          let z : ◌≡◌ {A = ℕ} 0 1 = cc (e, judged_bad Frame size (take size rest) long few) in absurd (omega arith))
          (cases_Bool (eqb (prefix_len is_chip (take size rest)) size))
