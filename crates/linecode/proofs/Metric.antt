-- The distance of words is a metric on words of one length.
-- Assumes nothing.
use Rattle.std.proofs.Common.{◌≡◌, ℕ, ◌+◌, ◌≤◌, cond, eqb, List, [], ◌∷◌, length, refl, ap, ◌∙◌, arith}
use Rattle.std.proofs.lemmas.Bool.{eq-eqb, cond-true}
use Rattle.std.proofs.lemmas.Bool.Decides.{nat_tests}
use Rattle.linecode.specs.Codes.{distance}

abbrev differs : ℕ → ℕ → ℕ
differs x y = cond (eqb x y) 0 1

pub distance_self : (xs : List ℕ) → distance xs xs ≡ 0
distance_self [] = refl
distance_self (x ∷ xs) = let r = distance_self xs in let z : differs x x ≡ 0 = cond-true (eqb x x) 0 1 (eq-eqb x x refl) in omega arith

pub distance_sym : (xs ys : List ℕ) → length xs ≡ length ys → distance xs ys ≡ distance ys xs
distance_sym [] [] e = refl
distance_sym [] (y ∷ ys) e = absurd (omega arith)
distance_sym (x ∷ xs) [] e = absurd (omega arith)
distance_sym (x ∷ xs) (y ∷ ys) e =
    let r = distance_sym xs ys (omega arith) in
    let s : differs x y ≡ differs y x = grind (arith, nat_tests) in
    omega arith

pub distance_triangle : (xs ys zs : List ℕ) → length xs ≡ length ys → length ys ≡ length zs → distance xs zs ≤ distance xs ys + distance ys zs
distance_triangle [] [] zs e f = omega arith
distance_triangle [] (y ∷ ys) zs e f = absurd (omega arith)
distance_triangle (x ∷ xs) [] zs e f = absurd (omega arith)
distance_triangle (x ∷ xs) (y ∷ ys) [] e f = absurd (omega arith)
distance_triangle (x ∷ xs) (y ∷ ys) (z ∷ zs) e f =
    let r = distance_triangle xs ys zs (omega arith) (omega arith) in
    let s : differs x z ≤ differs x y + differs y z = grind (arith, nat_tests) in
    omega arith

pub same_at_zero : (xs ys : List ℕ) → length xs ≡ length ys → distance xs ys ≡ 0 → xs ≡ ys
same_at_zero [] [] e z = refl
same_at_zero [] (y ∷ ys) e z = absurd (omega arith)
same_at_zero (x ∷ xs) [] e z = absurd (omega arith)
same_at_zero (x ∷ xs) (y ∷ ys) e z =
    let s : x ≡ y = grind (arith, nat_tests) in
    ap (λ v. v ∷ xs) s ∙ ap (λ vs. y ∷ vs) (same_at_zero xs ys (omega arith) (omega arith))
