-- Codes that agree in bits, chips and the words of one position spread and despread alike there.
-- Assumes nothing.
use Rattle.std.proofs.Common.{◌≡◌, ℕ, ◌-◌, ◌^◌, cond, eqb, ltb, List, length, Ok, Err, ap, ◌∙◌}
use Rattle.faults.specs.declared.Layer.TheVariants.{Line}
use Rattle.faults.specs.declared.FaultKind.TheVariants.{ChipCount, GroupValue}
use Rattle.faults.specs.Refusals.{fault}
use Rattle.linecode.specs.Chips.{judged, unless_refused}
use Rattle.linecode.proofs.Nearness.{nearest_same}
use Rattle.linecode.specs.Codes.{Code, distance, nearest, spread_answer, spread_chips, despread_answer}

module _ (a b : Code) (eb : a.bits ≡ b.bits) (ec : a.chips ≡ b.chips) where
  pub spread_answer_alike : (v n : ℕ) → spread_answer a v n ≡ spread_answer b v n
  spread_answer_alike v n =
      ap (λ m. cond (eqb n m) (cond (ltb v (2 ^ a.bits)) (Ok tt) (Err (fault GroupValue v Line))) (Err (fault ChipCount n Line))) ec
      ∙ ap (λ g. cond (eqb n b.chips) (cond (ltb v (2 ^ g)) (Ok tt) (Err (fault GroupValue v Line))) (Err (fault ChipCount n Line))) eb

  pub spread_chips_alike : (p v : ℕ) (xs : List ℕ) → a.word p v ≡ b.word p v → spread_chips a p v xs ≡ spread_chips b p v xs
  spread_chips_alike p v xs e =
      ap (λ m. cond (eqb (length xs) m) (cond (ltb v (2 ^ a.bits)) (a.word p v) xs) xs) ec
      ∙ ap (λ g. cond (eqb (length xs) b.chips) (cond (ltb v (2 ^ g)) (a.word p v) xs) xs) eb
      ∙ ap (λ w. cond (eqb (length xs) b.chips) (cond (ltb v (2 ^ b.bits)) w xs) xs) e

  pub despread_answer_alike : (p : ℕ) (xs : List ℕ) → ((v : ℕ) → a.word p v ≡ b.word p v) → despread_answer a p xs ≡ despread_answer b p xs
  despread_answer_alike p xs e =
      ap (λ n. unless_refused (judged Line n xs) (nearest (λ v. distance (a.word p v) xs) (2 ^ a.bits - 1))) ec
      ∙ ap (λ r. unless_refused (judged Line b.chips xs) r)
      (ap (λ g. nearest (λ v. distance (a.word p v) xs) (2 ^ g - 1)) eb
      ∙ nearest_same (λ v. distance (a.word p v) xs) (λ v. distance (b.word p v) xs) (2 ^ b.bits - 1) (λ v _. ap (λ w. distance w xs) (e v)))
