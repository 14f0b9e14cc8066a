-- The costs of the two kinds are the numbers of differences, as long as those are below 2^32.
-- Assumes nothing.
use Rattle.std.proofs.Common.{◌≡◌, ℕ, zero, suc, ◌+◌, ◌^◌, ◌<◌, Bool, refl, arith}
use Rattle.codebits.specs.Bits.{one, count, differences}
use Rattle.costs.specs.Kind.{cost_of}
use Rattle.costs.specs.Kinds.{grown, differs, surely_differs, doubtfully_differs}
use Rattle.costs.specs.Differences.{sure_differences, doubtful_differences, CountIsTheDifferences, GradedIsTheDifferences}
use Rattle.codebits.proofs.Numbers.{one_small}
use Rattle.costs.proofs.Counts.{count_below}

tally : (f : ℕ → Bool) (n : ℕ) → suc n < 2 ^ 32 → grown (count f n) (f n) ≡ count f n + one (f n)
tally f n h = omega (arith, count_below f n, one_small (f n))

pub count_is : CountIsTheDifferences
unfolding cost_of differences count
count_is o c zero h = refl
count_is o c (suc n) h = rw (count_is o c n (omega arith), tally (λ j. differs (o j) (c j)) n h)

pub graded_is : GradedIsTheDifferences
unfolding cost_of sure_differences doubtful_differences count
graded_is o c zero h = refl
graded_is o c (suc n) h =
    rw (graded_is o c n (omega arith), tally (λ j. surely_differs (o j) (c j)) n h, tally (λ j. doubtfully_differs (o j) (c j)) n h)
