-- What the memory holds after the blocks of a frame, and what it then tells: the nearest PSDU and its cost.
-- Assumes nothing.
use Rattle.std.specs.Prelude.{◌≡◌, ℕ, zero, suc, ◌+◌, ◌*◌, ◌/◌, ◌%◌, ◌<◌, ◌≤◌, List, length}
use Rattle.codebits.specs.Message.{block_bits, block_code_bits, blocks, message_length}
use Rattle.costs.specs.Kind.{Kind}
use Rattle.costs.specs.declared.Observation.{Observation}
use Rattle.nearest.specs.Messages.{longest_psdu, SameBelow}
use Rattle.nearest.specs.Nearest.{NearestPsdu}
use Rattle.nearest.specs.Path.{traced_psdu, traced_psdu_cost}
use Rattle.nearest.specs.Trellis.{metric, survivor}
use Rattle.trellis.specs.Memory.{state_count, cost_in, observed_at}
use Rattle.trellis.specs.Block.{start_of, costs_after, words_after}
use Rattle.trellis.specs.Trace.{took_by, traced_by}

-- The memory holds the first blocks of a frame whose code bits are observed as `all`: the costs of the states, and the survivors of each step so far. Before the first block it holds them, whatever is in it.
pub record Holds {C : Type 0} (kind : Kind Observation C) (all : ℕ → Observation) (octets block : ℕ) (costs : List C) (words : List ℕ) : Type 0 where
  pub state_costs : (s : ℕ) → s < state_count → start_of kind block costs s ≡ metric kind all (8 * octets) (block_bits * block) s
  pub survivors : (k : ℕ) → k < block_bits * block → (s : ℕ) → s < state_count → took_by words k s ≡ survivor kind all (8 * octets) k s

-- the memory after the first blocks of a frame, of which block b is observed as `observed b`
module _ {C : Type 0} (kind : Kind Observation C) (octets : ℕ) (observed : ℕ → List Observation) (costs : List C) (words : List ℕ) where
  unfoldable pub costs_after_blocks : ℕ → List C
  costs_after_blocks zero = costs
  costs_after_blocks (suc block) = costs_after kind (observed block) octets block (costs_after_blocks block)

  unfoldable pub words_after_blocks : ℕ → List ℕ
  words_after_blocks zero = words
  words_after_blocks (suc block) = words_after kind (observed block) octets block (costs_after_blocks block) (words_after_blocks block)

-- the code bits of all blocks, in order
unfoldable pub in_order : (ℕ → List Observation) → ℕ → Observation
in_order observed j = observed_at (observed (j / block_code_bits)) (j % block_code_bits)

-- Block by block the memory comes to hold the whole frame, and then its words trace the nearest PSDU and its first cost is that PSDU's.
pub record BlocksRunTheTrellis {C : Type 0} (kind : Kind Observation C) : Type 0 where
  pub none : (all : ℕ → Observation) (octets : ℕ) (costs : List C) (words : List ℕ) → Holds kind all octets 0 costs words
  pub more :
      (all : ℕ → Observation) (octets block : ℕ) (costs : List C) (words : List ℕ) (observed : List Observation) → block_bits * suc block ≤ length words →
      ((j : ℕ) → j < block_code_bits → observed_at observed j ≡ all (block_code_bits * block + j)) → Holds kind all octets block costs words →
      Holds kind all octets (suc block) (costs_after kind observed octets block costs) (words_after kind observed octets block costs words)
  -- what is observed later changes nothing
  pub by_what_came :
      (all later : ℕ → Observation) (octets block : ℕ) (costs : List C) (words : List ℕ) → SameBelow (block_code_bits * block) all later →
      Holds kind all octets block costs words → Holds kind later octets block costs words
  pub traces :
      (all : ℕ → Observation) (octets : ℕ) (costs : List C) (words : List ℕ) → Holds kind all octets (blocks octets) costs words →
      (traced_by octets words ≡ traced_psdu kind all octets) × (cost_in kind costs 0 0 ≡ traced_psdu_cost kind all octets)
  pub nearest :
      (all : ℕ → Observation) (octets : ℕ) (costs : List C) (words : List ℕ) → octets ≤ longest_psdu → Holds kind all octets (blocks octets) costs words →
      NearestPsdu kind all octets (traced_by octets words) (cost_in kind costs 0 0)
  -- whatever the memory held before the frame
  pub whole_frame :
      (octets : ℕ) (observed : ℕ → List Observation) (costs : List C) (words : List ℕ) → octets ≤ longest_psdu → message_length octets ≤ length words →
      NearestPsdu kind (in_order observed) octets
      (traced_by octets (words_after_blocks kind octets observed costs words (blocks octets)))
      (cost_in kind (costs_after_blocks kind octets observed costs words (blocks octets)) 0 0)
