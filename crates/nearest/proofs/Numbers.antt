-- Numbers and their bits: what adding a bit above or below does.
-- Assumes nothing.
use Rattle.std.proofs.Common.{◌≡◌, ℕ, zero, suc, ◌+◌, ◌-◌, ◌*◌, ◌/◌, ◌%◌, ◌^◌, ◌<◌, Bool, true, false, eqb, ◌≢◌, refl, ap, ◌∙◌, arith, shr-shr}
use native.Mathlib.Nat.{add-mul-div_right, div-eq_of_lt}
use Rattle.std.proofs.lemmas.Nat.{pow_pos, pow-add}
use Rattle.std.proofs.lemmas.Bool.{eq-eqb, ne_eqb, eqb-true, eqb-false}
use Rattle.codebits.specs.Bits.{one, bit_at, number_at}
use Rattle.codebits.proofs.Numbers.{one_small}

-- a bit is told by its value
pub bit_is : (n i : ℕ) (b : Bool) → n / 2 ^ i % 2 ≡ one b → bit_at n i ≡ b
bit_is n i true e = eq-eqb (n / 2 ^ i % 2) 1 e
bit_is n i false e = ne_eqb (n / 2 ^ i % 2) 1 (λ o. omega arith)

pub bit_value : (n i : ℕ) → one (bit_at n i) ≡ n / 2 ^ i % 2
bit_value n i = go (bit_at n i) refl
  where
    go : (b : Bool) → bit_at n i ≡ b → one b ≡ n / 2 ^ i % 2
    go true e = omega (arith, eqb-true (n / 2 ^ i % 2) 1 e)
    go false e = let ne : n / 2 ^ i % 2 ≢ 1 = eqb-false (n / 2 ^ i % 2) 1 e in omega arith

pub zero_bit : (i : ℕ) → bit_at 0 i ≡ false
zero_bit i =
    let none : 0 / 2 ^ i ≡ 0 = omega arith in
    rw none

-- bit g of a number says nothing of the bits below it, and stands above a number below 2^g
pub bit_under : (v g r : ℕ) (b : Bool) → r < g → bit_at (v + one b * 2 ^ g) r ≡ bit_at v r
bit_under v g r false h = let none : v + one false * 2 ^ g ≡ v = omega arith in rw none
bit_under v g r true h =
    let d : ℕ = g - r - 1 in
    let e : 1 + d + r ≡ g = omega arith in
    let even : one true * 2 ^ g ≡ 2 * 2 ^ d * 2 ^ r = omega (arith, ap (λ x. 2 ^ x) e, pow-add 2 (1 + d) r, ap (λ x. x * 2 ^ r) (pow-add 2 1 d)) in
    ap (λ x. eqb x 1) (rw even (ap (λ x. x % 2) (add-mul-div_right v (2 * 2 ^ d) (pow_pos r)) ∙ omega arith))

pub bit_top : (v g : ℕ) (b : Bool) → v < 2 ^ g → bit_at (v + one b * 2 ^ g) g ≡ b
bit_top v g b h =
    bit_is (v + one b * 2 ^ g) g b (ap (λ x. x % 2) (add-mul-div_right v (one b) (pow_pos g)) ∙ omega (arith, div-eq_of_lt h, one_small b))

pub bit_half : (n r : ℕ) → bit_at (n / 2) r ≡ bit_at n (suc r)
bit_half n r = let at : 1 + r ≡ suc r = omega arith in ap (λ x. eqb (x % 2) 1) (rw at at (shr-shr n 1 r))

-- the first bit counts one, the others twice what they count alone
pub number_front : (s : ℕ → Bool) (i g : ℕ) → number_at s i (suc g) ≡ one (s i) + 2 * number_at s (suc i) g
unfolding number_at
number_front s i zero = let at : i + 0 ≡ i = omega arith in rw at (omega arith)
number_front s i (suc g) =
    let at : i + suc g ≡ suc i + g = omega arith in
    let twice : 2 ^ suc g ≡ 2 * 2 ^ g = omega (arith, pow-add 2 g 1) in
    rw (number_front s i g, at, twice) (omega arith)
