-- Counts of the places that pass a test.
-- Assumes nothing.
use Rattle.std.proofs.Common.{ℕ, zero, suc, ◌≤◌, Bool, arith, lit≤}
use Rattle.codebits.specs.Bits.{count}
use Rattle.codebits.proofs.Numbers.{one_small}

pub count_below : (f : ℕ → Bool) (n : ℕ) → count f n ≤ n
unfolding count
count_below f zero = lit≤ tt
count_below f (suc n) = omega (arith, count_below f n, one_small (f n))
