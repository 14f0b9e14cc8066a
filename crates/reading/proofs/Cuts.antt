-- The chips of one group of a block that was accepted.
-- Assumes nothing.
use Rattle.std.proofs.Common.{◌≡◌, ℕ, suc, ◌+◌, ◌-◌, ◌*◌, ◌<◌, ◌≤◌, List, length, take, drop, Ok, sym, refl, ap, ◌∙◌, mul-le-mul_right, suc-mul, arith, length-drop, length-take, get_or-drop, get_or-take}
use Rattle.faults.specs.declared.Layer.TheVariants.{Line, Frame}
use Rattle.linecode.specs.Codes.{Code, despread_answer}
use Rattle.linecode.specs.Chips.{judged, part}
use Rattle.linecode.specs.Judging.{judged_good, every_leading}
use Rattle.linecode.proofs.Answers.{Accepted, accepted, despread_ok}
use Rattle.frames.specs.Heard.{heard}

pub group_ends : (m n j : ℕ) → j < m → j * n + n ≤ m * n
group_ends m n j h = let e = suc-mul j n in let le : suc j * n ≤ m * n = mul-le-mul_right n h in omega arith

module _ (m n : ℕ) (xs : List ℕ) (a : Accepted (m * n) xs) (j : ℕ) (h : j < m) where
  pub group_length : length (part n xs j) ≡ n
  group_length = let ends = group_ends m n j h in let s = a.sized in simp (length-take, length-drop) (omega arith)

  pub group_good : judged Line n (part n xs j) ≡ Ok tt
  group_good =
      let ends = group_ends m n j h in
      let long = group_length in
      judged_good Line n (part n xs j) long
      (every_leading (part n xs j) (λ i lt. let k : i < n = omega arith in rw (get_or-take, get_or-drop) (a.binary (j * n + i) (omega arith))) ∙ long)

-- what despreading answers at group j, as the code cuts it, where the block was accepted
module _ (k : Code) (first m n : ℕ) (xs : List ℕ) (e : n ≡ k.chips) (u : Unit {0}) (good : judged Frame (m * n) xs ≡ Ok u) where
  pub whole_good : Ok tt ≡ judged Frame (m * k.chips) xs
  whole_good = sym (ap (λ c. judged Frame (m * c) xs) (sym e) ∙ good)

  pub group_read : (j : ℕ) → j < m → despread_answer k (first + j) (take (j * n + n - j * n) (drop (j * n) xs)) ≡ Ok (heard k first xs j)
  unfolding heard
  group_read j h =
      let width : j * n + n - j * n ≡ n = omega arith in
      let a = accepted Frame (m * n) xs u good in
      let fine : judged Line k.chips (part k.chips xs j) ≡ Ok tt = ap (λ c. judged Line c (part c xs j)) (sym e) ∙ group_good m n xs a j h in
      ap (λ w. despread_answer k (first + j) (take w (drop (j * n) xs))) width
      ∙ ap (λ c. despread_answer k (first + j) (part c xs j)) e
      ∙ sym (despread_ok k (first + j) (part k.chips xs j) tt (heard k first xs j) fine refl)
