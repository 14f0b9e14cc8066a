-- The state of the trellis after k steps of a message, and how a step moves it.
-- Assumes nothing.
use Rattle.std.proofs.Common.{◌≡◌, ℕ, suc, ◌+◌, ◌*◌, ◌/◌, ◌%◌, ◌^◌, ◌<◌, ◌≤◌, Bool, false, refl, ap, ◌∙◌, zero-add, arith, lit<}
use Rattle.codebits.specs.Bits.{one, bit_at, number_at}
use Rattle.codebits.specs.Convolution.{back, first, second}
use Rattle.codebits.proofs.Numbers.{one_small, number_below, number_bit, number_same}
use Rattle.nearest.specs.Messages.{ZeroFrom, SameBelow}
use Rattle.nearest.specs.Trellis.{before, first_of, second_of}
use Rattle.nearest.proofs.Coding.{back_suc, back_zero, back_same, back_zeros}
use Rattle.nearest.proofs.Numbers.{bit_is, bit_under, bit_top, bit_half, bit_value, number_front}

-- the six bits before place k, as a number
abbrev pub window : (ℕ → Bool) → ℕ → ℕ
window m k = number_at (λ d. back m k (suc d)) 0 6

module _ (m : ℕ → Bool) (k : ℕ) where
  pub window_bit : (d : ℕ) → d < 6 → bit_at (window m k) d ≡ back m k (suc d)
  window_bit d h = number_bit (λ d. back m k (suc d)) 0 6 d h ∙ ap (λ i. back m k (suc i)) (zero-add d)

  -- the five newest bits before place k
  newer : ℕ
  newer = number_at (λ d. back m k (suc d)) 0 5

  window_now : window m k ≡ newer + 32 * one (back m k 6)
  unfolding newer number_at
  window_now = omega arith

  window_suc : window m (suc k) ≡ one (m k) + 2 * newer
  unfolding newer
  window_suc =
      number_front (λ d. back m (suc k) (suc d)) 0 5
      ∙ (ap (λ b. one b + 2 * number_at (λ d. back m (suc k) (suc d)) 1 5) (back_suc m k 0 ∙ back_zero m k)
      ∙ ap (λ n. one (m k) + 2 * n) (number_same (λ d. back m (suc k) (suc d)) (λ d. back m k (suc d)) 1 0 5 (λ r l.
      let at : 1 + r ≡ suc (0 + r) = omega arith in
      rw at (back_suc m k (suc (0 + r))))))

  -- the newest bit of a state, and the state before it
  pub window_newest : bit_at (window m (suc k)) 0 ≡ m k
  window_newest = bit_is (window m (suc k)) 0 (m k) (rw window_suc (omega (arith, one_small (m k))))

  pub window_before : before (window m (suc k)) (back m k 6) ≡ window m k
  window_before = rw (window_suc, window_now) (omega (arith, one_small (m k)))

  pub window_next : window m (suc k) ≡ 2 * (window m k % 32) + one (m k)
  unfolding newer
  window_next = rw (window_suc, window_now) (omega (arith, number_below (λ d. back m k (suc d)) 0 5, one_small (back m k 6)))

  pub window_first : first_of (window m k) (m k) ≡ first m k
  unfolding first_of first
  window_first = cc (back_zero m k, window_bit 1 (lit< tt), window_bit 2 (lit< tt), window_bit 4 (lit< tt), window_bit 5 (lit< tt))

  pub window_second : second_of (window m k) (m k) ≡ second m k
  unfolding second_of second
  window_second = cc (back_zero m k, window_bit 0 (lit< tt), window_bit 1 (lit< tt), window_bit 2 (lit< tt), window_bit 5 (lit< tt))

  -- where the state before was that before s, and the newest bit is that of s, the state is s
  pub window_comes : (s : ℕ) (c : Bool) → s < 64 → window m k ≡ before s c → m k ≡ bit_at s 0 → window m (suc k) ≡ s
  window_comes s c h e n = rw (window_next, e) (omega (arith, ap one n, bit_value s 0, one_small c))

pub window_zero : (m : ℕ → Bool) → window m 0 ≡ 0
unfolding back number_at
window_zero m = refl

pub window_same : (x y : ℕ → Bool) (k : ℕ) → SameBelow k x y → window x k ≡ window y k
window_same x y k h = number_same (λ d. back x k (suc d)) (λ d. back y k (suc d)) 0 0 6 (λ r l. back_same x y k (0 + r) h)

-- a message that is zero from e on is in state zero six places later
pub window_settled : (e : ℕ) (m : ℕ → Bool) → ZeroFrom e m → (k : ℕ) → e + 6 ≤ k → window m k ≡ 0
window_settled e m z k h =
    number_same (λ d. back m k (suc d)) (λ d. false) 0 0 6 (λ r l. back_zeros e m z k (suc (0 + r)) (omega arith)) ∙ unfold number_at in refl

before_is : (s : ℕ) (c : Bool) (d : ℕ) → bit_at (before s c) d ≡ bit_at (s / 2 + one c * 2 ^ 5) d
before_is s c d = ap (λ n. bit_at n d) (omega arith)

-- both states before s have the five newer bits of s
pub before_bit : (s d : ℕ) (c : Bool) → d < 5 → bit_at (before s c) d ≡ bit_at s (suc d)
before_bit s d c h = before_is s c d ∙ (bit_under (s / 2) 5 d c h ∙ bit_half s d)

pub before_oldest : (s : ℕ) (c : Bool) → s < 64 → bit_at (before s c) 5 ≡ c
before_oldest s c h = before_is s c 5 ∙ bit_top (s / 2) 5 c (omega arith)
