-- The distance of the code: messages that differ have code bits that differ in ten places or more.
-- Assumes nothing.
use Rattle.std.specs.Prelude.{◌≡◌, ℕ, ◌+◌, ◌*◌, ◌≤◌, Bool, false, ◌≢◌, ◌==◌}
use Rattle.codebits.specs.Bits.{differences}
use Rattle.codebits.specs.Convolution.{code_bit}
use Rattle.codebits.specs.Message.{tail_bits}
use Rattle.nearest.specs.Messages.{ZeroFrom}

-- a single 1 at the first place
abbrev pub impulse : ℕ → Bool
impulse k = k == 0

-- Of messages that are zero from place e on, with six places or more after it, two that differ have code bits that differ in ten places, and some two in no more.
pub record DistanceTen : Type 0 where
  pub at_least : (e n : ℕ) (x y : ℕ → Bool) → e + tail_bits ≤ n → ZeroFrom e x → ZeroFrom e y → (k : ℕ) → x k ≢ y k →
      10 ≤ differences (code_bit x) (code_bit y) (2 * n)
  pub reached : (n : ℕ) → 1 + tail_bits ≤ n → differences (code_bit impulse) (code_bit (λ k. false)) (2 * n) ≡ 10
