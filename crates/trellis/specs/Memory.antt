-- The memory that the trellis works in: two banks of 64 costs, one for each state, and a word of survivors for each step.
-- Assumes nothing.
use Rattle.std.specs.Prelude.{◌≡◌, ℕ, ◌+◌, ◌<◌, ◌≤◌, Bool, false, ◌⊎◌, List, map, slice_index_or}
use Rattle.std.specs.List.{range_with_len}
use Rattle.codebits.specs.Bits.{number_at}
use Rattle.costs.specs.Kind.{Kind}
use Rattle.costs.specs.declared.Observation.{Observation}
use Rattle.costs.specs.declared.Observation.TheVariants.{Sure}
use Rattle.nearest.specs.Trellis.{takes}

-- how many states there are, and so how many costs a bank has
abbrev pub state_count : ℕ
state_count = 64

-- the cost of state s in the bank that begins at place `from`
abbrev pub cost_in : {O C : Type 0} → Kind O C → List C → ℕ → ℕ → C
cost_in kind costs from s = slice_index_or costs (from + s) kind.nothing

-- a bank that holds the cost of each state
unfoldable pub bank_of : {C : Type 0} → (ℕ → C) → List C
bank_of cost = map cost (range_with_len 0 state_count)

-- the word whose bit s is that of state s
unfoldable pub word_of : (ℕ → Bool) → ℕ
word_of took = number_at took 0 state_count

-- code bit j of those observed
abbrev pub observed_at : List Observation → ℕ → Observation
observed_at observed j = slice_index_or observed j (Sure false)

-- From one bank to the other only the states from lo to hi have changed, and each of these has its cost there.
pub record Written {C : Type 0} (none : C) (cost : ℕ → C) (lo hi : ℕ) (old new : List C) : Type 0 where
  pub here : (s : ℕ) → lo ≤ s → s < hi → slice_index_or new s none ≡ cost s
  pub elsewhere : (s : ℕ) → (s < lo) ⊎ (hi ≤ s) → slice_index_or new s none ≡ slice_index_or old s none

-- the word of the step
abbrev pub step_word : {O C : Type 0} → Kind O C → O → O → Bool → ℕ → List C → ℕ
step_word kind a b is_free from costs = word_of (takes kind a b is_free (cost_in kind costs from))
