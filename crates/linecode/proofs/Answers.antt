-- What despreading answers, by the tests that the code makes, and what an accepted slice of chips is.
-- Assumes nothing.
use Rattle.std.proofs.Common.{◌≡◌, ℕ, ◌<◌, Bool, eqb, List, length, get_or, Ok, Err, sym, refl, ap, ◌∙◌, ⊎_elim, arith}
use Rattle.std.proofs.lemmas.Bool.{cond-true, cond-false, cases_Bool, eqb-true, eqb-false}
use Rattle.std.specs.List.{prefix_len}
use Rattle.faults.specs.declared.Layer.{Layer}
use Rattle.faults.specs.declared.Layer.TheVariants.{Line}
use Rattle.linecode.specs.Chips.{judged, unless_refused, is_chip}
use Rattle.linecode.specs.Codes.{Code, value_of, despread_answer}
use Rattle.linecode.specs.Judging.{judged_length, leading_every}

-- a slice that was accepted has the right length, and its chips are 0 or 1
pub record Accepted (n : ℕ) (xs : List ℕ) : Type 0 where
  pub sized : length xs ≡ n
  pub binary : (i : ℕ) → i < n → get_or xs i 0 < 2

pub accepted : (l : Layer) (n : ℕ) (xs : List ℕ) (u : Unit {0}) → judged l n xs ≡ Ok u → Accepted n xs
accepted l n xs u e =
    ⊎_elim
    (λ long.
    ⊎_elim
    (λ front. let n_is = eqb-true (length xs) n long in let f_is = eqb-true (prefix_len is_chip xs) n front in record {
      sized = n_is;
      binary = λ i h. leading_every xs (f_is ∙ sym n_is) i (omega arith);
    })
    (λ no. let z : ◌≡◌ {A = ℕ} 0 1 = cc (e, cond-true (eqb (length xs) n) _ _ long, cond-false (eqb (prefix_len is_chip xs) n) _ _ no) in absurd (omega arith))
    (cases_Bool (eqb (prefix_len is_chip xs) n)))
    (λ short. let z : ◌≡◌ {A = ℕ} 0 1 = cc (e, judged_length l n xs (eqb-false (length xs) n short)) in absurd (omega arith))
    (cases_Bool (eqb (length xs) n))

-- an answer that is no refusal: the chips were accepted, and the answer is their value
pub record Was (k : Code) (p : ℕ) (xs : List ℕ) (r : ℕ × Bool) : Type 0 where
  pub sized : length xs ≡ k.chips
  pub value : r ≡ value_of k p xs

pub despread_was : (k : Code) (p : ℕ) (xs : List ℕ) (r : ℕ × Bool) → despread_answer k p xs ≡ Ok r → Was k p xs r
despread_was k p xs r e =
    elim (judged Line k.chips xs) as (λ j. judged Line k.chips xs ≡ j → unless_refused j (value_of k p xs) ≡ Ok r → Was k p xs r) [
      | Ok u ↦ λ good ok. record { sized = (accepted Line k.chips xs u good).sized; value = cc }
      | Err f ↦ λ bad no. let z : ◌≡◌ {A = ℕ} 0 1 = cc in absurd (omega arith)
    ] refl e

pub despread_ok : (k : Code) (p : ℕ) (xs : List ℕ) (u : Unit {0}) (r : ℕ × Bool) → judged Line k.chips xs ≡ Ok u → r ≡ value_of k p xs → Ok r ≡ despread_answer k p xs
despread_ok k p xs u r e v = ap Ok v ∙ sym (ap (λ j. unless_refused j (value_of k p xs)) e)
