-- The trellis: 64 states, each the last six message bits as a number whose newest bit counts one, and the step that takes their costs one message bit further.
-- Assumes nothing.
use Rattle.std.specs.Prelude.{ℕ, zero, suc, ◌+◌, ◌*◌, ◌/◌, Bool, true, false, cond, not, ◌&&◌, ◌==◌, nat_le, nat_lt}
use Rattle.codebits.specs.Bits.{◌⊕◌, one, bit_at}
use Rattle.codebits.specs.Message.{tail_bits}
use Rattle.costs.specs.Kind.{Kind}

-- the state that comes to s and whose oldest bit is d
abbrev pub before : ℕ → Bool → ℕ
before s d = s / 2 + 32 * one d

-- the two code bits claimed where message bit b follows state s
unfoldable pub first_of : ℕ → Bool → Bool
first_of s b = b ⊕ bit_at s 1 ⊕ bit_at s 2 ⊕ bit_at s 4 ⊕ bit_at s 5

unfoldable pub second_of : ℕ → Bool → Bool
second_of s b = b ⊕ bit_at s 0 ⊕ bit_at s 1 ⊕ bit_at s 2 ⊕ bit_at s 5

-- Step k drops the message bit of place k - 6: it is free where that is a place below e, and zero elsewhere.
unfoldable pub free : ℕ → ℕ → Bool
free e k = nat_le tail_bits k && nat_lt k (e + tail_bits)

module _ {O C : Type 0} (kind : Kind O C) where
  -- a cost charged for both code bits of a step, of which a and b are observed
  abbrev pub charged_both : O → O → C → Bool → Bool → C
  charged_both a b c x y = kind.charge (kind.charge c a x) b y

  -- the cost of coming to s from the state with oldest bit d, where the states cost as `costs` has it
  unfoldable pub candidate : O → O → (ℕ → C) → ℕ → Bool → C
  candidate a b costs s d = charged_both a b (costs (before s d)) (first_of (before s d) (bit_at s 0)) (second_of (before s d) (bit_at s 0))

  -- whether s takes the one with oldest bit 1: only where that bit is free, and only if it is cheaper
  unfoldable pub takes : O → O → Bool → (ℕ → C) → ℕ → Bool
  takes a b is_free costs s = is_free && not (kind.at_most (candidate a b costs s false) (candidate a b costs s true))

  -- the cost of s after the step, by the way that it takes
  unfoldable pub stepped : O → O → Bool → (ℕ → C) → ℕ → C
  stepped a b is_free costs s = candidate a b costs s (takes a b is_free costs s)

module _ {O C : Type 0} (kind : Kind O C) (observed : ℕ → O) (e : ℕ) where
  -- the cost of each state after k steps, where the message is zero from place e on
  unfoldable pub metric : ℕ → ℕ → C
  metric zero s = kind.nothing
  metric (suc k) s = stepped kind (observed (2 * k)) (observed (suc (2 * k))) (free e k) (metric k) s

  -- whether s came from the state with oldest bit 1 at step k
  unfoldable pub survivor : ℕ → ℕ → Bool
  survivor k s = takes kind (observed (2 * k)) (observed (suc (2 * k))) (free e k) (metric k) s

-- the message that is traced back from state s after k steps, where `took` tells which way each state came
unfoldable pub traced : (ℕ → ℕ → Bool) → ℕ → ℕ → ℕ → Bool
traced took zero s = λ i. false
traced took (suc k) s = λ i. cond (i == k) (bit_at s 0) (traced took k (before s (took k s)) i)
