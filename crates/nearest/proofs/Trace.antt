-- Tracing back: the bits that a trace gives, and at which place two messages differ latest.
-- Assumes nothing.
use Rattle.std.proofs.Common.{◌≡◌, ℕ, zero, suc, ◌-◌, ◌<◌, ◌≤◌, Bool, true, false, cond, eqb, ◌⊎◌, sym, refl, ap, ◌∙◌, inl, inr, arith, lit<}
use Rattle.std.proofs.lemmas.Bool.{cases_lt, eq-eqb, ne_eqb}
use Rattle.codebits.specs.Bits.{bit_at}
use Rattle.codebits.specs.Convolution.{back}
use Rattle.codebits.proofs.Numbers.{one_small}
use Rattle.nearest.specs.Messages.{ZeroFrom, SameBelow}
use Rattle.nearest.specs.Nearest.{OneLatest}
use Rattle.nearest.specs.Trellis.{before, traced}
use Rattle.nearest.proofs.Coding.{back_at, back_true}
use Rattle.nearest.proofs.Window.{window, window_bit, before_bit, before_oldest}

pub traced_here : (took : ℕ → ℕ → Bool) (k s : ℕ) → traced took (suc k) s k ≡ bit_at s 0
unfolding traced
traced_here took k s = rw (eq-eqb k k refl)

pub traced_below : (took : ℕ → ℕ → Bool) (k s : ℕ) → SameBelow k (traced took (suc k) s) (traced took k (before s (took k s)))
unfolding traced
traced_below took k s i h = rw (ne_eqb i k (λ e. omega arith))

pub traced_past : (took : ℕ → ℕ → Bool) (k s i : ℕ) → k ≤ i → traced took k s i ≡ false
unfolding traced
traced_past took zero s i h = refl
traced_past took (suc k) s i h = rw (ne_eqb i k (λ e. omega arith)) (traced_past took k (before s (took k s)) i (omega arith))

before_small : (s : ℕ) (d : Bool) → s < 64 → before s d < 64
before_small s d h = omega (arith, one_small d)

-- the trace goes by what was taken at its steps, by the 64 states
pub traced_same :
    (took other : ℕ → ℕ → Bool) (k s : ℕ) → s < 64 → ((i : ℕ) → i < k → (t : ℕ) → t < 64 → took i t ≡ other i t) →
    traced took k s ≡ traced other k s
unfolding traced
traced_same took other zero s small h = refl
traced_same took other (suc k) s small h =
    ap (λ m i. cond (eqb i k) (bit_at s 0) (m i))
    (ap (λ d. traced took k (before s d)) (h k (omega arith) s small)
    ∙ traced_same took other k (before s (other k s)) (before_small s (other k s) small) (λ i l. h i (omega arith)))

-- y has 1 and x has 0 at the latest of the places below n where they differ
abbrev pub OneLater : ℕ → (ℕ → Bool) → (ℕ → Bool) → Type 0
OneLater n x y = (j : ℕ) × (j < n) × (x j ≡ false) × (y j ≡ true) × ((i : ℕ) → j < i → i < n → x i ≡ y i)

abbrev pub SameOrLater : ℕ → (ℕ → Bool) → (ℕ → Bool) → Type 0
SameOrLater n x y = SameBelow n x y ⊎ OneLater n x y

-- what has been said below k is said below k + 1, where the two agree at k too
pub extend : (k : ℕ) (x x' y : ℕ → Bool) → SameBelow k x x' → x k ≡ y k → SameOrLater k x' y → SameOrLater (suc k) x y
extend k x x' y h here (inl same) = inl (λ i l. elim (cases_lt i k) [ inl lt ↦ h i lt ∙ same i lt | inr ge ↦ let e : i ≡ k = omega arith in rw e here ])
extend k x x' y h here (inr (j, l, xj, yj, rest)) =
    inr (j, omega arith, h j l ∙ xj, yj, λ i a b. elim (cases_lt i k) [ inl lt ↦ h i lt ∙ rest i a lt | inr ge ↦ let e : i ≡ k = omega arith in rw e here ])

-- messages that are zero from e on, and have their first n places compared, are compared at all places
pub everywhere : (e n : ℕ) (x y : ℕ → Bool) → e ≤ n → ZeroFrom e x → ZeroFrom e y → SameOrLater n x y → ((i : ℕ) → x i ≡ y i) ⊎ OneLatest x y
everywhere e n x y h zx zy (inl same) = inl (λ i. elim (cases_lt i n) [ inl lt ↦ same i lt | inr ge ↦ zx i (omega arith) ∙ sym (zy i (omega arith)) ])
everywhere e n x y h zx zy (inr (j, l, xj, yj, rest)) =
    inr (j, xj, yj, λ i a. elim (cases_lt i n) [ inl lt ↦ rest i a lt | inr ge ↦ zx i (omega arith) ∙ sym (zy i (omega arith)) ])

-- the states before s with oldest bit 0 and 1: the two messages differ first, from the latest place back, at place k - 6
pub parted : (k s : ℕ) (x y : ℕ → Bool) → s < 64 → window x k ≡ before s false → window y k ≡ before s true → back y k 6 ≡ true → x k ≡ y k → OneLater (suc k) x y
parted k s x y small wx wy t here =
    let six : 6 ≤ k = back_true y k 6 t in
    let oldest : back x k 6 ≡ false = sym (window_bit x k 5 (lit< tt)) ∙ (ap (λ v. bit_at v 5) wx ∙ before_oldest s false small) in
    (k - 6, omega arith, sym (back_at x k 6 six) ∙ oldest, sym (back_at y k 6 six) ∙ t, between)
  where
    near : (d : ℕ) → d < 5 → back x k (suc d) ≡ back y k (suc d)
    near d l =
        sym (window_bit x k d (omega arith)) ∙ (ap (λ v. bit_at v d) wx ∙ (before_bit s d false l ∙ (sym (before_bit s d true l) ∙ (sym (ap (λ v. bit_at v d) wy) ∙ window_bit y k d (omega arith)))))

    between : (i : ℕ) → k - 6 < i → i < suc k → x i ≡ y i
    between i a b = elim (cases_lt i k) [
      | inl lt ↦
          let d = k - suc i in
          let six : 6 ≤ k = back_true y k 6 t in
          let at : k - suc d ≡ i = omega arith in
          let le : suc d ≤ k = omega arith in
          (rw at at (sym (back_at x k (suc d) le) ∙ (near d (omega arith) ∙ back_at y k (suc d) le)))
      | inr ge ↦ let e : i ≡ k = omega arith in rw e here
    ]
