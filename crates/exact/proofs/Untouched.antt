-- Code bits that are observed as claimed wherever they are not touched: no more of them are wrong or doubtful than are touched.
-- Assumes nothing.
use Rattle.std.proofs.Common.{◌≡◌, ℕ, zero, suc, ◌+◌, ◌<◌, ◌≤◌, Bool, true, false, refl, arith, lit≤}
use Rattle.codebits.specs.Bits.{◌⊕◌, one, count, differences}
use Rattle.costs.specs.Differences.{sure_differences}
use Rattle.costs.specs.Kinds.{differs, surely_differs}
use Rattle.costs.specs.Observed.{doubt_of, bits_of, doubts_of}
use Rattle.costs.specs.declared.Observation.{Observation}
use Rattle.costs.specs.declared.Observation.TheVariants.{Sure, Doubtful}
use Rattle.codebits.proofs.Numbers.{one_small}

-- at one place
place : (o : Observation) (c t : Bool) → (t ≡ false → o ≡ Sure c) → (one (differs o c) ≤ one t) × (one (surely_differs o c) + one (doubt_of o) ≤ one t)
place (Sure b) c true h = (one_small (b ⊕ c), omega (arith, one_small (b ⊕ c)))
place (Doubtful b) c true h = (one_small (b ⊕ c), lit≤ tt)
place o true false h = rw (h refl) (lit≤ tt, lit≤ tt)
place o false false h = rw (h refl) (lit≤ tt, lit≤ tt)

module _ (o : ℕ → Observation) (claimed touched : ℕ → Bool) where
  pub no_more : (n : ℕ) → ((j : ℕ) → j < n → touched j ≡ false → o j ≡ Sure (claimed j)) →
      (differences (bits_of o) claimed n ≤ count touched n) × (sure_differences o claimed n + count (doubts_of o) n ≤ count touched n)
  unfolding differences sure_differences count
  no_more zero h = (lit≤ tt, lit≤ tt)
  no_more (suc n) h =
      let before = no_more n (λ j l. h j (omega arith)) in
      let here = place (o n) (claimed n) (touched n) (h n (omega arith)) in
      (omega (arith, before.0, here.0), omega (arith, before.1, here.1))
