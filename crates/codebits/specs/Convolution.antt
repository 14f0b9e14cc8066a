-- The convolutional code: two code bits for each message bit, from it and the six before it.
-- Assumes nothing.
use Rattle.std.specs.Prelude.{ℕ, ◌-◌, ◌/◌, ◌%◌, Bool, false, cond, ◌==◌, nat_le}
use Rattle.codebits.specs.Bits.{◌⊕◌}

-- the message bit d places before place k; before the first place it is zero
unfoldable pub back : (ℕ → Bool) → ℕ → ℕ → Bool
back m k d = cond (nat_le d k) (m (k - d)) false

-- the two code bits of message bit k
unfoldable pub first : (ℕ → Bool) → ℕ → Bool
first m k = back m k 0 ⊕ back m k 2 ⊕ back m k 3 ⊕ back m k 5 ⊕ back m k 6

unfoldable pub second : (ℕ → Bool) → ℕ → Bool
second m k = back m k 0 ⊕ back m k 1 ⊕ back m k 2 ⊕ back m k 3 ⊕ back m k 6

-- code bit j of a message: its places in turn, the first and then the second bit of each
unfoldable pub code_bit : (ℕ → Bool) → ℕ → Bool
code_bit m j = cond (j % 2 == 0) (first m (j / 2)) (second m (j / 2))
