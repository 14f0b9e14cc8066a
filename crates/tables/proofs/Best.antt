-- The best so far of a search for the nearest of words, over the values below k: words of at most 128 chips differ in no more.
-- Assumes nothing.
use Rattle.std.proofs.Common.{◌≡◌, ℕ, zero, suc, ◌<◌, ◌≤◌, Bool, false, true, sym, refl, arith}
use Rattle.linecode.specs.Codes.{nearest}
use Rattle.linecode.proofs.Nearness.{nearest_none, nearest_takes, nearest_ties, nearest_keeps}

abbrev pub Best : (ℕ → ℕ) → ℕ → ℕ × Bool → ℕ → Type 0
Best d zero best least = (best ≡ (0, false)) × (128 < least)
Best d (suc k) best least = (best ≡ nearest d k) × (least ≡ d best.0) × (best.0 ≤ k)

module _ (d : ℕ → ℕ) (best : ℕ × Bool) (least found : ℕ) (small : found ≤ 128) where
  pub best_takes : (k : ℕ) → Best d k best least → found ≡ d k → found < least → Best d (suc k) (k, false) found
  best_takes zero so_far is lt = (sym (nearest_none d), is, omega arith)
  best_takes (suc k) so_far is lt =
      let near = so_far.1 in
      (nearest_takes d k (suc k) (suc k) best refl refl so_far.0 (omega arith), is, omega arith)

  pub best_ties : (k : ℕ) → Best d k best least → found ≡ d k → found ≡ least → Best d (suc k) (best.0, true) least
  best_ties zero so_far is e = let far = so_far.1 in absurd (omega arith)
  best_ties (suc k) so_far is e =
      let near = so_far.1 in
      let low = so_far.2 in
      (nearest_ties d k (suc k) (suc k) best refl refl so_far.0 (omega arith), near, omega arith)

  pub best_keeps : (k : ℕ) → Best d k best least → found ≡ d k → least < found → Best d (suc k) best least
  best_keeps zero so_far is gt = let far = so_far.1 in absurd (omega arith)
  best_keeps (suc k) so_far is gt =
      let near = so_far.1 in
      let low = so_far.2 in
      (nearest_keeps d k (suc k) (suc k) best refl refl so_far.0 (omega arith), near, omega arith)
