-- The least distance of the words of a position, and that it depends on their distances alone.
-- Assumes nothing.
use Rattle.std.proofs.Common.{◌≡◌, ℕ, zero, suc, ◌-◌, ◌^◌, ◌<◌, ◌≤◌, sym, refl, ap, ◌∙◌, ⊎_elim, arith}
use Rattle.std.proofs.lemmas.Bool.{cases_lt, cases_order}
use Rattle.linecode.specs.Codes.{Code, Lawful, distance, least, least_distance}
use Rattle.linecode.specs.Promises.{IsLeastDistance}
use Rattle.linecode.proofs.Metric.{distance_sym}

least_le : (f : ℕ → ℕ) (n i : ℕ) → i ≤ n → least f n ≤ f i
unfolding least
least_le f zero i h = let e : i ≡ 0 = omega arith in rw e (omega arith)
least_le f (suc n) i h =
    ⊎_elim
    (λ below. omega (arith, least_le f n i (omega arith)))
    (λ (top : suc n ≤ i). let e : i ≡ suc n = omega arith in rw e (omega arith))
    (cases_lt i (suc n))

least_at : (f : ℕ → ℕ) (n : ℕ) → (i : ℕ) × (i ≤ n) × (f i ≡ least f n)
unfolding least
least_at f zero = (0, omega arith, refl)
least_at f (suc n) =
    let below = least_at f n in
    ⊎_elim
    (λ less. (suc n, omega arith, omega arith))
    (λ more. (below.0, omega (arith, below.1), omega (arith, below.2)))
    (cases_lt (f (suc n)) (least f n))

module _ (k : Code) (l : Lawful k) (p : ℕ) (hp : p < 2 ^ 32) where
  far : ℕ → ℕ → ℕ
  far w v = distance (k.word p v) (k.word p (suc w))

  two : 2 ≤ 2 ^ k.bits
  two = ⊎_elim (λ e. rw e (omega arith)) (⊎_elim (λ e. rw e (omega arith)) (⊎_elim (λ e. rw e (omega arith)) (λ e. rw e (omega arith)))) l.width

  ordered : (v w : ℕ) → v < w → w < 2 ^ k.bits → least_distance k p ≤ distance (k.word p v) (k.word p w)
  unfolding least_distance far
  ordered v zero h hw = absurd (omega arith)
  ordered v (suc w) h hw =
      omega (arith, least_le (λ u. least (far u) u) (2 ^ k.bits - 2) w (omega arith), least_le (far w) w v (omega arith))

  same_length : (v w : ℕ) → v < 2 ^ k.bits → w < 2 ^ k.bits → distance (k.word p w) (k.word p v) ≡ distance (k.word p v) (k.word p w)
  same_length v w hv hw = distance_sym (k.word p w) (k.word p v) (l.sized p w hp hw ∙ sym (l.sized p v hp hv))

  pub is_least : IsLeastDistance k p (least_distance k p)
  unfolding least_distance far
  is_least = record {
    none_nearer = λ v w hv hw ne.
        ⊎_elim (λ e. absurd (ne e)) (⊎_elim (λ lt. ordered v w lt hw) (λ gt. omega (arith, ordered w v gt hv, same_length v w hv hw))) (cases_order v w);
    reached =
        let outer = least_at (λ u. least (far u) u) (2 ^ k.bits - 2) in
        let inner = least_at (far outer.0) outer.0 in
        (inner.0, suc outer.0, omega (arith, two, inner.1, outer.1), omega (arith, two, outer.1), (λ e. omega (arith, inner.1)), inner.2 ∙ outer.2);
  }

-- positions whose words are as far apart have one least distance
least_same : (f h : ℕ → ℕ) (n : ℕ) → ((i : ℕ) → f i ≡ h i) → least f n ≡ least h n
unfolding least
least_same f h zero e = e 0
least_same f h (suc n) e = omega (arith, least_same f h n e, e (suc n))

pub distance_same : (a b : Code) (p : ℕ) → a.bits ≡ b.bits → ((v w : ℕ) → distance (a.word p v) (a.word p w) ≡ distance (b.word p v) (b.word p w)) → least_distance a p ≡ least_distance b p
unfolding least_distance
distance_same a b p bits e =
    least_same _ (λ w. least (λ v. distance (b.word p v) (b.word p (suc w))) w) (2 ^ a.bits - 2) (λ w. least_same _ _ w (λ v. e v (suc w)))
    ∙ ap (λ g. least (λ w. least (λ v. distance (b.word p v) (b.word p (suc w))) w) (2 ^ g - 2)) bits

pub words_same : (a b : Code) (p : ℕ) → a.bits ≡ b.bits → ((v : ℕ) → a.word p v ≡ b.word p v) → least_distance a p ≡ least_distance b p
words_same a b p bits e = distance_same a b p bits (λ v w. ap (λ x. distance x (a.word p w)) (e v) ∙ ap (distance (b.word p v)) (e w))
