-- How a slice of chips is judged, by what its front tells.
-- Assumes nothing.
use Rattle.std.specs.Prelude.{◌≡◌, ℕ, zero, suc, ◌+◌, ◌<◌, List, [], ◌∷◌, length, Ok, Err, ◌≢◌, slice_index, refl}
use Rattle.std.proofs.Common.{sym, ◌∙◌, ⊎_elim, arith, le_of_suc-le-suc, not-suc-le-zero}
use Rattle.std.specs.List.{prefix_len}
use Rattle.std.proofs.lemmas.Bool.{eq-eqb, ne_eqb, ltb-true, lt-ltb, cases_Bool, cond-true, cond-false}
use Rattle.faults.specs.declared.Layer.{Layer}
use Rattle.faults.specs.declared.FaultKind.TheVariants.{ChipCount, ChipValue}
use Rattle.faults.specs.Refusals.{fault}
use Rattle.linecode.specs.Chips.{is_chip, judged}

module _ (l : Layer) (n : ℕ) (xs : List ℕ) where
  pub judged_length : (length xs ≢ n) → judged l n xs ≡ Err (fault ChipCount (length xs) l)
  judged_length h = cond-false _ _ _ (ne_eqb (length xs) n h)

  pub judged_bad : length xs ≡ n → prefix_len is_chip xs < n → judged l n xs ≡ Err (fault ChipValue (prefix_len is_chip xs) l)
  judged_bad e h = cond-true _ _ _ (eq-eqb (length xs) n e) ∙ cond-false _ _ _ (ne_eqb (prefix_len is_chip xs) n (λ same. omega arith))

  pub judged_good : length xs ≡ n → prefix_len is_chip xs ≡ n → judged l n xs ≡ Ok tt
  judged_good e h = cond-true _ _ _ (eq-eqb (length xs) n e) ∙ cond-true _ _ _ (eq-eqb (prefix_len is_chip xs) n h)

-- a front as long as the list: every element passes
pub leading_every : (xs : List ℕ) → prefix_len is_chip xs ≡ length xs → (i : ℕ) → i < length xs → slice_index xs i < 2
leading_every [] e i h = absurd (not-suc-le-zero h)
leading_every (x ∷ xs) e i h =
    ⊎_elim
    (λ yes. elim i as (λ j. j < suc (length xs) → slice_index (x ∷ xs) j < 2) [
      | zero ↦ λ _. ltb-true x 2 yes
      | suc j ↦ λ lt. leading_every xs (let s : 1 + prefix_len is_chip xs ≡ suc (length xs) = sym (cond-true (is_chip x) _ _ yes) ∙ e in omega arith) j (le_of_suc-le-suc lt)
    ] h)
    (λ no. let z : ◌≡◌ {A = ℕ} 0 (suc (length xs)) = sym (cond-false (is_chip x) _ _ no) ∙ e in absurd (omega arith))
    (cases_Bool (is_chip x))

-- and where every element passes, so does the whole list
pub every_leading : (xs : List ℕ) → ((i : ℕ) → i < length xs → slice_index xs i < 2) → prefix_len is_chip xs ≡ length xs
every_leading [] h = refl
every_leading (x ∷ xs) h =
    cond-true (is_chip x) _ _ (lt-ltb x 2 (h 0 (omega arith)))
    ∙ (let r = every_leading xs (λ i lt. h (suc i) (omega arith)) in omega arith)
