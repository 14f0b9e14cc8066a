-- Numbers and their bits.
-- Assumes nothing.
use Rattle.std.proofs.Common.{◌≡◌, ℕ, zero, suc, ◌+◌, ◌-◌, ◌*◌, ◌/◌, ◌%◌, ◌^◌, ◌<◌, ◌≤◌, Bool, true, false, eqb, refl, ap, ◌∙◌, ⊎_elim, add-one, arith, lit<, lit≤}
use native.Mathlib.Nat.{add-mul-div_right, div-eq_of_lt}
use mir.Val.{bool_byte}
use Rattle.std.proofs.lemmas.Nat.{pow_pos, pow-add, mul-le, shl_whole, mod-pow-add, mod_below}
use Rattle.std.proofs.lemmas.Bool.{cases_lt}
use Rattle.codebits.specs.Bits.{one, bit_at, number_at}

pub one_small : (b : Bool) → one b ≤ 1
one_small true = lit≤ tt
one_small false = lit≤ tt

pub one_eqb : (x : ℕ) → x < 2 → one (eqb x 1) ≡ x
one_eqb zero h = refl
one_eqb (suc zero) h = refl
one_eqb (suc (suc x)) h = absurd (omega arith)

pub eqb_one : (b : Bool) → eqb (one b) 1 ≡ b
eqb_one true = refl
eqb_one false = refl

-- a number from its bits
pub number_mod : (s : ℕ → Bool) (i n g : ℕ) → ((r : ℕ) → r < g → s (i + r) ≡ bit_at n r) → number_at s i g ≡ n % 2 ^ g
unfolding number_at
number_mod s i n zero h = omega arith
number_mod s i n (suc g) h =
    let front = number_mod s i n g (λ r l. h r (omega arith)) in
    let bit : one (s (i + g)) ≡ n / 2 ^ g % 2 = ap one (h g (omega arith)) ∙ one_eqb (n / 2 ^ g % 2) (mod_below _ 2 (omega arith)) in
    let split = mod-pow-add n 1 g in
    let more : 1 + g ≡ suc g = omega arith in
    rw (front, bit) (omega (arith, split, ap (λ x. n % 2 ^ x) more))

-- a higher bit adds an even number above bit r
higher : (b : Bool) (g r : ℕ) → r < g → (m : ℕ) × (one b * 2 ^ g ≡ 2 * m * 2 ^ r)
higher false g r h = (0, omega arith)
higher true g r h =
    let d : ℕ = g - r - 1 in
    let e : 1 + d + r ≡ g = omega arith in
    (2 ^ d, omega (arith, ap (λ x. 2 ^ x) e, pow-add 2 (1 + d) r, ap (λ x. x * 2 ^ r) (pow-add 2 1 d)))

lower_kept : (v a m r : ℕ) → a ≡ 2 * m * 2 ^ r → (v + a) / 2 ^ r % 2 ≡ v / 2 ^ r % 2
lower_kept v a m r e =
    let shift = add-mul-div_right v (2 * m) (pow_pos r) in
    ap (λ x. (v + x) / 2 ^ r % 2) e ∙ (ap (λ x. x % 2) shift ∙ omega arith)

highest : (v g : ℕ) (b : Bool) → v < 2 ^ g → (v + one b * 2 ^ g) / 2 ^ g % 2 ≡ one b
highest v g b h =
    let shift = add-mul-div_right v (one b) (pow_pos g) in
    ap (λ x. x % 2) shift ∙ omega (arith, div-eq_of_lt h, one_small b)

module _ (s : ℕ → Bool) (i : ℕ) where
  pub number_below : (g : ℕ) → number_at s i g < 2 ^ g
  unfolding number_at
  number_below zero = lit< tt
  number_below (suc g) =
      let twice : 2 ^ (g + 1) ≡ 2 ^ g * 2 = pow-add 2 g 1 in
      let most = mul-le (one (s (i + g))) (2 ^ g) 1 (2 ^ g) (one_small (s (i + g))) (omega arith) in
      omega (arith, number_below g)

  -- bit r of the number is the r-th of the bits
  pub number_bit : (g r : ℕ) → r < g → bit_at (number_at s i g) r ≡ s (i + r)
  unfolding number_at
  number_bit zero r h = absurd (omega arith)
  number_bit (suc g) r h =
      ⊎_elim
      (λ below.
      let high = higher (s (i + g)) g r below in
      ap (λ x. eqb x 1) (lower_kept (number_at s i g) _ high.0 r high.1) ∙ number_bit g r below)
      (λ top.
      let e : r ≡ g = omega arith in
      rw e (ap (λ x. eqb x 1) (highest (number_at s i g) g (s (i + g)) (number_below g)) ∙ eqb_one (s (i + g))))
      (cases_lt r g)

-- streams that agree give the same number
pub number_same : (s t : ℕ → Bool) (i j g : ℕ) → ((r : ℕ) → r < g → s (i + r) ≡ t (j + r)) → number_at s i g ≡ number_at t j g
unfolding number_at
number_same s t i j zero h = refl
number_same s t i j (suc g) h =
    let front = number_same s t i j g (λ r l. h r (omega arith)) in
    let bit = h g (omega arith) in
    cc

-- a bit as the code's number
pub byte_one : (b : Bool) → bool_byte b ≡ one b
byte_one true = refl
byte_one false = refl

-- one bit more, shifted to its place in a word of w bits
pub number_more : (w : ℕ) (s : ℕ → Bool) (from i v x : ℕ) → v ≡ number_at s from i → v < 2 ^ i → x ≡ one (s (from + i)) → i < w →
    (v + (x * 2 ^ i) % 2 ^ w ≡ number_at s from (i + 1)) × (v + (x * 2 ^ i) % 2 ^ w < 2 ^ (i + 1))
unfolding number_at
number_more w s from i v x is below bit few =
    let small : x < 2 ^ 1 = omega (arith, one_small (s (from + i))) in
    let whole : (x * 2 ^ i) % 2 ^ w ≡ x * 2 ^ i = shl_whole x 1 i w small (omega arith) in
    let twice : 2 ^ (i + 1) ≡ 2 ^ i * 2 = pow-add 2 i 1 in
    let most : x * 2 ^ i ≤ 1 * 2 ^ i = mul-le x (2 ^ i) 1 (2 ^ i) (omega arith) (omega arith) in
    let next : number_at s from (i + 1) ≡ number_at s from i + one (s (from + i)) * 2 ^ i = rw add-one refl in
    (omega (arith, ap (λ (y : ℕ). y * 2 ^ i) bit), omega arith)
