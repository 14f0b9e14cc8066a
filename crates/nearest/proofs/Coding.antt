-- The convolutional code place by place: which message bits the code bits of a place go by.
-- Assumes nothing.
use Rattle.std.proofs.Common.{◌≡◌, ℕ, suc, ◌+◌, ◌-◌, ◌*◌, ◌/◌, ◌%◌, ◌≤◌, Bool, true, false, cond, ◌&&◌, ltb, leb, sym, refl, arith}
use native.Mathlib.Nat.{sub-zero, suc-sub-suc}
use lib.Dec.{leb-suc-suc, leb-zero}
use Rattle.std.proofs.lemmas.Bool.{leb-true, le-leb, ltb-false, eq-eqb, ne_eqb, true≢false}
use Rattle.codebits.specs.Convolution.{back, first, second, code_bit}
use Rattle.nearest.specs.Messages.{ZeroFrom, SameBelow}
use Rattle.nearest.specs.Trellis.{free}

pub twice_suc : (k : ℕ) → 2 * suc k ≡ suc (suc (2 * k))
twice_suc k = omega arith

pub code_first : (m : ℕ → Bool) (k : ℕ) → code_bit m (2 * k) ≡ first m k
unfolding code_bit
code_first m k =
    let even : 2 * k % 2 ≡ 0 = omega arith in
    let half : 2 * k / 2 ≡ k = omega arith in
    rw (eq-eqb (2 * k % 2) 0 even, half)

pub code_second : (m : ℕ → Bool) (k : ℕ) → code_bit m (suc (2 * k)) ≡ second m k
unfolding code_bit
code_second m k =
    let odd : suc (2 * k) % 2 ≡ 0 → ⊥ = λ e. omega arith in
    let half : suc (2 * k) / 2 ≡ k = omega arith in
    rw (ne_eqb (suc (2 * k) % 2) 0 odd, half)

-- a message bit seen from the next place is one place further back
pub back_suc : (m : ℕ → Bool) (k d : ℕ) → back m (suc k) (suc d) ≡ back m k d
unfolding back
back_suc m k d = rw (leb-suc-suc d k, suc-sub-suc k d)

pub back_zero : (m : ℕ → Bool) (k : ℕ) → back m k 0 ≡ m k
unfolding back
back_zero m k = rw (leb-zero k, sub-zero k)

pub back_at : (m : ℕ → Bool) (k d : ℕ) → d ≤ k → back m k d ≡ m (k - d)
unfolding back
back_at m k d h = rw (le-leb d k h)

-- a bit that is not zero is one of the message
pub back_true : (m : ℕ → Bool) (k d : ℕ) → back m k d ≡ true → d ≤ k
unfolding back
back_true m k d t = go (leb d k) refl t
  where
    go : (b : Bool) → leb d k ≡ b → cond b (m (k - d)) false ≡ true → d ≤ k
    go true e t = leb-true d k e
    go false e t = absurd (true≢false (sym t))

-- where two messages agree below k, so do the bits before place k
pub back_same : (x y : ℕ → Bool) (k d : ℕ) → SameBelow k x y → back x k (suc d) ≡ back y k (suc d)
unfolding back
back_same x y k d h = go (leb (suc d) k) refl
  where
    go : (t : Bool) → leb (suc d) k ≡ t → cond t (x (k - suc d)) false ≡ cond t (y (k - suc d)) false
    go true e = h (k - suc d) (omega (arith, leb-true (suc d) k e))
    go false e = refl

pub back_zeros : (e : ℕ) (m : ℕ → Bool) → ZeroFrom e m → (k d : ℕ) → e + d ≤ k → back m k d ≡ false
unfolding back
back_zeros e m z k d h = rw (le-leb d k (omega arith)) (z (k - d) (omega arith))

-- a bit that is dropped and is not free is zero
pub dropped_zero : (e : ℕ) (m : ℕ → Bool) → ZeroFrom e m → (k : ℕ) → free e k ≡ false → back m k 6 ≡ false
unfolding free back
dropped_zero e m z k f = go (leb 6 k) refl (ltb k (e + 6)) refl f
  where
    go : (a : Bool) → leb 6 k ≡ a → (b : Bool) → ltb k (e + 6) ≡ b → a && b ≡ false → cond a (m (k - 6)) false ≡ false
    go true ea true eb e1 = absurd (true≢false e1)
    go true ea false eb e1 = z (k - 6) (omega (arith, leb-true 6 k ea, ltb-false k (e + 6) eb))
    go false ea b eb e1 = refl
