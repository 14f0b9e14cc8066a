-- What the values of a block's groups say of its encoded and decoded bits.
-- Assumes nothing.
use Rattle.std.specs.Prelude.{ℕ, ◌/◌, ◌%◌, Bool, false, List, map, length, Ok, Err, Result, slice_index_or}
use Rattle.std.specs.List.{range_with_len}
use Rattle.faults.specs.declared.Fault.{Fault}
use Rattle.linecode.specs.Codes.{Code}
use Rattle.codebits.specs.Bits.{bit_at}
use Rattle.codebits.specs.Differential.{decoded_bit, decoded_doubt}
use Rattle.frames.specs.Heard.{heard}
use Rattle.costs.specs.Observed.{observation, bits_of, doubts_of, bit_of, doubt_of}
use Rattle.costs.specs.declared.Observation.{Observation}

-- the values of the groups of a block, unless its chips were refused
abbrev pub values_after : Result (Unit {0}) Fault → Code → ℕ → List ℕ → List (ℕ × Bool) → List (ℕ × Bool)
values_after (Ok u) k first xs vs = map (heard k first xs) (range_with_len 0 (length vs))
values_after (Err e) k first xs vs = vs

-- encoded bit i, from the values of the groups, of g bits each
abbrev pub encoded_seen : List (ℕ × Bool) → ℕ → ℕ → Observation
encoded_seen values g i = observation (bit_at (slice_index_or values (i / g) (0, false)).0 (i % g)) (slice_index_or values (i / g) (0, false)).1

-- decoded bit i of what is observed of encoded bits, after the encoded bit `last`
abbrev pub decoded_seen : Bool → Observation → (ℕ → Observation) → ℕ → Observation
decoded_seen d last s i = observation (decoded_bit d (bit_of last) (bits_of s) i) (decoded_doubt d (doubt_of last) (doubts_of s) i)
