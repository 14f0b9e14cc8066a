-- The sum of bits modulo 2 is the parity of their count.
-- Assumes nothing.
use Rattle.std.proofs.Common.{◌≡◌, ℕ, zero, suc, ◌+◌, ◌*◌, ◌/◌, ◌%◌, ◌^◌, ◌<◌, eqb, ◌⊎◌, sym, refl, ap, ◌∙◌, inl, inr, ⊎_elim, zero-add, arith}
use lib.Count.{ones, ones_cat}
use Rattle.std.proofs.lemmas.Nat.{mod-pow-add, mod_below, pow_pos, shr-shr}
use Rattle.std.proofs.lemmas.Bool.{cases_eq}
use Rattle.codebits.specs.Bits.{◌⊕◌}
use Rattle.codebits.proofs.Coding.{xor_false}
use Rattle.header.specs.Phr.{sum_from}

ones_bit : (a : ℕ) → a < 2 → ones a ≡ a
unfolding ones
ones_bit zero h = refl
ones_bit (suc zero) h = refl
ones_bit (suc (suc a)) h = absurd (omega arith)

even_or_odd : (n : ℕ) → (n % 2 ≡ 0) ⊎ (n % 2 ≡ 1)
even_or_odd n = ⊎_elim (λ e. inl e) (λ e. inr (omega arith)) (cases_eq (n % 2) 0)

-- the sum of two numbers is odd where one of them is
odd_sum : (a r : ℕ) → a < 2 → eqb ((a + r) % 2) 1 ≡ eqb (r % 2) 1 ⊕ eqb a 1
odd_sum zero r h = ap (λ x. eqb (x % 2) 1) (zero-add r) ∙ sym (xor_false (eqb (r % 2) 1))
odd_sum (suc zero) r h =
    ⊎_elim
    (λ e. let n : (1 + r) % 2 ≡ 1 = omega arith in ap (λ x. eqb x 1) n ∙ sym (ap (λ x. eqb x 1 ⊕ eqb 1 1) e))
    (λ e. let n : (1 + r) % 2 ≡ 0 = omega arith in ap (λ x. eqb x 1) n ∙ sym (ap (λ x. eqb x 1 ⊕ eqb 1 1) e))
    (even_or_odd r)
odd_sum (suc (suc a)) r h = absurd (omega arith)

pub sum_is : (w i n : ℕ) → eqb (ones (w / 2 ^ i % 2 ^ n) % 2) 1 ≡ sum_from w i n
unfolding sum_from ones
sum_is w i zero = let none : w / 2 ^ i % 1 ≡ 0 = omega arith in ap (λ x. eqb (ones x % 2) 1) none
sum_is w i (suc n) =
    let x : ℕ = w / 2 ^ i in
    let a : ℕ = x / 2 ^ n % 2 in
    let low : a < 2 = mod_below _ 2 (omega arith) in
    let more : 1 + n ≡ suc n = omega arith in
    let split : x % 2 ^ suc n ≡ a * 2 ^ n + x % 2 ^ n = ap (λ y. x % 2 ^ y) (sym more) ∙ mod-pow-add x 1 n in
    let counted : ones (x % 2 ^ suc n) ≡ a + ones (x % 2 ^ n)
    = ap ones split ∙ (ones_cat n a (x % 2 ^ n) (mod_below x (2 ^ n) (pow_pos n)) ∙ ap (λ y. y + ones (x % 2 ^ n)) (ones_bit a low)) in
    ap (λ y. eqb (y % 2) 1) counted
    ∙ (odd_sum a (ones (x % 2 ^ n)) low ∙ (ap (λ b. b ⊕ eqb a 1) (sum_is w i n) ∙ ap (λ y. sum_from w i n ⊕ eqb (y % 2) 1) (shr-shr w i n)))
