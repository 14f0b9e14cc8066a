-- Chips despread by a whitened code as the chips, whitened, are by the code below it.
-- Assumes nothing.
use Rattle.std.proofs.Common.{◌≡◌, ℕ, ◌-◌, ◌*◌, ◌^◌, List, Ok, sym, refl, ap, ◌∙◌, arith}
use Rattle.faults.specs.declared.Layer.TheVariants.{Line}
use Rattle.linecode.specs.Chips.{judged}
use Rattle.linecode.specs.Codes.{Code, distance, value_of, despread_answer}
use Rattle.linecode.specs.Judging.{judged_good, every_leading}
use Rattle.linecode.proofs.Nearness.{nearest_same}
use Rattle.layers.specs.Whitening.{whiten, whitened}
use Rattle.layers.specs.WhiteningLaws.{length_whiten, whiten_binary, whiten_distance}
use Rattle.linecode.proofs.Answers.{accepted, despread_ok}

module _ (a : Code) (p : ℕ) (xs : List ℕ) (u : Unit {0}) (good : judged Line a.chips xs ≡ Ok u) where
  ys : List ℕ
  ys = whiten (p * a.chips) xs

  ys_good : judged Line a.chips ys ≡ Ok tt
  unfolding ys
  ys_good =
      let s = accepted Line a.chips xs u good in
      let long = length_whiten (p * a.chips) xs in
      let sized = s.sized in
      let all = every_leading ys (λ i h. whiten_binary (p * a.chips) xs i (omega arith) (s.binary i (omega arith))) in
      judged_good Line a.chips ys (omega arith) (omega arith)

  pub whitened_despread : despread_answer a p (whiten (p * a.chips) xs) ≡ despread_answer (whitened a) p xs
  unfolding ys
  whitened_despread =
      sym (despread_ok a p ys tt (value_of a p ys) ys_good refl)
      ∙ ap Ok (nearest_same (λ v. distance (a.word p v) ys) (λ v. distance (whiten (p * a.chips) (a.word p v)) xs) (2 ^ a.bits - 1) (λ v _. sym (whiten_distance (p * a.chips) (a.word p v) xs)))
      ∙ despread_ok (whitened a) p xs u (value_of (whitened a) p xs) good refl
