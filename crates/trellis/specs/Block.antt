-- What a block of 88 steps makes of the costs of the states, and which way each state takes at each step.
-- Assumes nothing.
use Rattle.std.specs.Prelude.{ℕ, zero, suc, ◌+◌, ◌-◌, ◌*◌, Bool, List, ◌++◌, map, take, drop}
use Rattle.std.specs.List.{range_with_len}
use Rattle.codebits.specs.Message.{block_bits}
use Rattle.costs.specs.Kind.{Kind}
use Rattle.costs.specs.declared.Observation.{Observation}
use Rattle.nearest.specs.Trellis.{free, takes, stepped}
use Rattle.trellis.specs.Memory.{state_count, cost_in, bank_of, word_of, observed_at}

module _ {O C : Type 0} (kind : Kind O C) (observed : ℕ → O) (e first : ℕ) (start : ℕ → C) where
  -- the cost of each state after n steps from step `first` on, where the states cost as `start` has it before them
  unfoldable pub ran : ℕ → ℕ → C
  ran zero s = start s
  ran (suc n) s = stepped kind (observed (2 * n)) (observed (suc (2 * n))) (free e (first + n)) (ran n) s

  -- whether s takes the state with oldest bit 1 at the n-th of these steps
  unfoldable pub took : ℕ → ℕ → Bool
  took n s = takes kind (observed (2 * n)) (observed (suc (2 * n))) (free e (first + n)) (ran n) s

  -- the two banks after a block: the costs after its last step in bank one, and those before it in bank two
  unfoldable pub banks : List C
  banks = bank_of (ran block_bits) ++ bank_of (ran (block_bits - 1))

  -- the words of its steps
  unfoldable pub took_word : ℕ → ℕ
  took_word n = word_of (took n)

  unfoldable pub block_words : List ℕ
  block_words = map took_word (range_with_len 0 block_bits)

-- what the states cost before a block: nothing before the frame's first, whatever the memory holds, else what bank one has
abbrev pub start_of : {O C : Type 0} → Kind O C → ℕ → List C → ℕ → C
start_of kind zero costs s = kind.nothing
start_of kind (suc block) costs s = cost_in kind costs 0 s

-- the memory after a block of the frame of a PSDU: the costs, and the words
unfoldable pub costs_after : {C : Type 0} → Kind Observation C → List Observation → ℕ → ℕ → List C → List C
costs_after kind observed octets block costs =
    banks kind (observed_at observed) (8 * octets) (block_bits * block) (start_of kind block costs) ++ drop (2 * state_count) costs

unfoldable pub words_after : {C : Type 0} → Kind Observation C → List Observation → ℕ → ℕ → List C → List ℕ → List ℕ
words_after kind observed octets block costs words =
    take (block_bits * block) words
    ++ (block_words kind (observed_at observed) (8 * octets) (block_bits * block) (start_of kind block costs) ++ drop (block_bits * block + block_bits) words)
