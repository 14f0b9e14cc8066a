-- What reading a block answers and leaves.
-- Assumes nothing.
use Rattle.std.specs.Prelude.{ℕ, Bool, List, map, Ok, Err, Result}
use Rattle.std.specs.List.{range_with_len}
use Rattle.faults.specs.declared.Fault.{Fault}
use Rattle.faults.specs.declared.Layer.TheVariants.{Frame}
use Rattle.linecode.specs.Chips.{judged, unless_refused}
use Rattle.linecode.specs.Codes.{Code}
use Rattle.frames.specs.Sent.{block_chips}
use Rattle.frames.specs.Heard.{encoded_bit, encoded_doubt}
use Rattle.frames.specs.Joined.{block_observed, block_doubtful}
use Rattle.costs.specs.Observed.{observation, bit_of, doubt_of}
use Rattle.costs.specs.declared.Observation.{Observation}

-- what is observed of code bit j of a block whose first group stands at position `first`, after the encoded bit `last`
abbrev pub block_seen : Code → Bool → Observation → ℕ → List ℕ → ℕ → Observation
block_seen k d last first chips j = observation (block_observed k d (bit_of last) first chips j) (block_doubtful k d (doubt_of last) first chips j)

-- and of its last encoded bit
abbrev pub last_seen : Code → ℕ → List ℕ → Observation
last_seen k first chips = observation (encoded_bit k first chips 175) (encoded_doubt k first chips 175)

-- reading a block answers its last encoded bit, unless its chips are refused
abbrev pub read_answer : Code → ℕ → List ℕ → Result Observation Fault
read_answer k first chips = unless_refused (judged Frame (block_chips k) chips) (last_seen k first chips)

-- and leaves what is observed of its code bits; a refusal leaves what was there
abbrev pub read_after : Result Observation Fault → Code → Bool → Observation → ℕ → List ℕ → List Observation → List Observation
read_after (Ok r) k d last first chips old = map (block_seen k d last first chips) (range_with_len 0 176)
read_after (Err e) k d last first chips old = old
