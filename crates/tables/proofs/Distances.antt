-- The distance of a word from chips, one chip after the other.
-- Assumes nothing.
use Rattle.std.proofs.Common.{◌≡◌, ℕ, ◌+◌, ◌<◌, ◌≤◌, cond, eqb, List, [], ◌∷◌, length, get_or, drop, sym, ap, ◌∙◌, arith}
use Rattle.std.proofs.lemmas.List.{drop_more, get_or-map, length-map}
use Rattle.std.proofs.lemmas.Bool.{eq-eqb, ne_eqb, cond-true, cond-false}
use Rattle.linecode.specs.Chips.{chip_of, word_of}
use Rattle.linecode.specs.Codes.{distance}

-- turn i of a loop over a word's digits and the chips, n the next: `chip` is what its digit stands for
module _ (digits ys : List ℕ) (i n x y chip : ℕ) (turn : (i < length digits) × (i < length ys) × ((d : ℕ) → x ≡ get_or digits i d) × ((d : ℕ) → y ≡ get_or ys i d)) (is : chip ≡ chip_of x) (next : n ≡ i + 1) where
  at : distance (drop i (word_of digits)) (drop i ys) ≡ cond (eqb chip y) 0 1 + distance (drop n (word_of digits)) (drop n ys)
  at =
      let xs = word_of digits in
      let long = length-map digits chip_of in
      let x_is : get_or xs i 0 ≡ chip = get_or-map chip_of digits i 0 0 turn.0 ∙ ap chip_of (sym (turn.2 0)) ∙ sym is in
      let y_is : get_or ys i 0 ≡ y = sym (turn.3 0) in
      ap (λ us. distance us (drop i ys)) (drop_more xs i 0 (let h = turn.0 in omega arith)) ∙ ap (λ vs. distance (get_or xs i 0 ∷ drop (i + 1) xs) vs) (drop_more ys i 0 turn.1)
      ∙ ap (λ u. cond (eqb u (get_or ys i 0)) 0 1 + distance (drop (i + 1) xs) (drop (i + 1) ys)) x_is
      ∙ ap (λ v. cond (eqb chip v) 0 1 + distance (drop (i + 1) xs) (drop (i + 1) ys)) y_is
      ∙ ap (λ m. cond (eqb chip y) 0 1 + distance (drop m xs) (drop m ys)) (sym next)

  pub distance_agree : chip ≡ y → distance (drop i (word_of digits)) (drop i ys) ≡ distance (drop n (word_of digits)) (drop n ys)
  distance_agree e = let z : ◌≡◌ {A = ℕ} (cond (eqb chip y) 0 1) 0 = cond-true (eqb chip y) 0 1 (eq-eqb chip y e) in let a = at in omega arith

  pub distance_differ : (chip ≡ y → ⊥) → distance (drop i (word_of digits)) (drop i ys) ≡ 1 + distance (drop n (word_of digits)) (drop n ys)
  distance_differ e = let z : ◌≡◌ {A = ℕ} (cond (eqb chip y) 0 1) 1 = cond-false (eqb chip y) 0 1 (ne_eqb chip y e) in let a = at in omega arith

pub distance_within : (xs ys : List ℕ) → distance xs ys ≤ length xs
distance_within [] ys = omega arith
distance_within (x ∷ xs) [] = omega arith
distance_within (x ∷ xs) (y ∷ ys) = let r = distance_within xs ys in let s : cond (eqb x y) 0 1 ≤ 1 = grind arith in omega arith
