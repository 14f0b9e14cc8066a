-- Numbers that are made of the bits of a stream, more bits at a time.
-- Assumes nothing.
use Rattle.std.proofs.Common.{◌≡◌, ℕ, zero, suc, ◌+◌, ◌-◌, ◌*◌, ◌%◌, ◌^◌, ◌<◌, ◌≤◌, Bool, true, false, cond, sym, ap, ◌∙◌, mul_assoc, mul_comm, add-mul, arith, lit<}
use Rattle.std.proofs.lemmas.Nat.{one_shl, shl_whole, pow-add, pow_pos, mul-le}
use Rattle.codebits.specs.Bits.{one, number_at}
use Rattle.trellis.specs.Memory.{word_of}

-- a bit in its place
cond_one : (b : Bool) (x : ℕ) → cond b x 0 ≡ one b * x
cond_one true x = omega arith
cond_one false x = omega arith

pub number_push : (s : ℕ → Bool) (i n w : ℕ) (b : Bool) → w ≡ number_at s i n → b ≡ s (i + n) → w + cond b (2 ^ n) 0 ≡ number_at s i (suc n)
unfolding number_at
number_push s i n w b e at = rw (cond_one b (2 ^ n), e, at)

-- the first g bits, and then h more
pub number_join : (s : ℕ → Bool) (i g h : ℕ) → number_at s i (g + h) ≡ number_at s i g + number_at s (i + g) h * 2 ^ g
unfolding number_at
number_join s i g zero = let at : g + 0 ≡ g = omega arith in rw at (omega arith)
number_join s i g (suc h) =
    let at : g + suc h ≡ suc (g + h) = omega arith in
    let place : i + (g + h) ≡ i + g + h = omega arith in
    rw (at, number_join s i g h, place, pow-add 2 g h)
    (omega (arith, add-mul (number_at s (i + g) h) (one (s (i + g + h)) * 2 ^ h) (2 ^ g), ap (λ n. one (s (i + g + h)) * n) (mul_comm (2 ^ g) (2 ^ h)), mul_assoc (one (s (i + g + h))) (2 ^ h) (2 ^ g)))

-- the word of two halves
pub word_halves : (took : ℕ → Bool) (low high w : ℕ) → low ≡ number_at took 0 32 → high ≡ number_at took 32 32 → w ≡ low + high * 2 ^ 32 → w ≡ word_of took
unfolding word_of
word_halves took low high w at_low at_high both = rw (both, at_low, at_high) (sym (number_join took 0 32 32))

-- the bits of the two states of butterfly i in the word of 16 of them
pub one_at : (i : ℕ) → i < 16 → (1 * 2 ^ (2 * i)) % 2 ^ 32 ≡ 2 ^ (2 * i)
one_at i h = one_shl (2 * i) 32 (omega arith)

pub two_at : (i : ℕ) → i < 16 → (2 * 2 ^ (2 * i)) % 2 ^ 32 ≡ 2 ^ suc (2 * i)
two_at i h = shl_whole 2 2 (2 * i) 32 (lit< tt) (omega arith) ∙ omega arith

-- both bits of butterfly i of those from `base` on
pub pushed_two :
    (s : ℕ → Bool) (base i w : ℕ) (x y : Bool) (u v : ℕ) → i < 16 → w ≡ number_at s (2 * base) (2 * i) → x ≡ s (2 * (base + i)) → y ≡ s (2 * (base + i) + 1) →
    u ≡ cond x ((1 * 2 ^ (2 * i)) % 2 ^ 32) 0 → v ≡ cond y ((2 * 2 ^ (2 * i)) % 2 ^ 32) 0 → w + (u + v) ≡ number_at s (2 * base) (2 * (i + 1))
pushed_two s base i w x y u v few e is_x is_y is_u is_v =
    let end : 2 * (i + 1) ≡ suc (suc (2 * i)) = omega arith in
    let place : 2 * (base + i) ≡ 2 * base + 2 * i = omega arith in
    let place_1 : 2 * (base + i) + 1 ≡ 2 * base + suc (2 * i) = omega arith in
    let pushed = number_push s (2 * base) (2 * i) w x e (is_x ∙ ap s place) in
    let sum : w + (u + v) ≡ w + cond x (2 ^ (2 * i)) 0 + cond y (2 ^ suc (2 * i)) 0 = rw (is_u, is_v, one_at i few, two_at i few) (omega arith) in
    rw end (sum ∙ number_push s (2 * base) (suc (2 * i)) _ y pushed (is_y ∙ ap s place_1))

pub power_room : (i : ℕ) → i < 16 → 4 * 2 ^ (2 * i) ≤ 2 ^ 32
power_room i h =
    let rest = 30 - 2 * i in
    let split : 2 * i + rest ≡ 30 = omega arith in
    let whole : 2 ^ (2 * i) * 2 ^ rest ≡ 2 ^ 30 = sym (pow-add 2 (2 * i) rest) ∙ ap (λ n. 2 ^ n) split in
    let least : 2 ^ (2 * i) * 1 ≤ 2 ^ (2 * i) * 2 ^ rest = mul-le (2 ^ (2 * i)) 1 (2 ^ (2 * i)) (2 ^ rest) (omega arith) (pow_pos rest) in
    omega (arith, whole, least)

pub cond_le : (b : Bool) (w : ℕ) → cond b w 0 ≤ w
cond_le true w = omega arith
cond_le false w = omega arith
