-- What is observed of a code bit: the bit, and whether it is doubtful.
-- Assumes nothing.
use Rattle.std.specs.Prelude.{ℕ, Bool, true, false}
use Rattle.costs.specs.declared.Observation.{Observation}
use Rattle.costs.specs.declared.Observation.TheVariants.{Sure, Doubtful}

-- a bit that is read, and whether it is in doubt
abbrev pub observation : Bool → Bool → Observation
observation b true = Doubtful b
observation b false = Sure b

abbrev pub bit_of : Observation → Bool
bit_of (Sure b) = b
bit_of (Doubtful b) = b

abbrev pub doubt_of : Observation → Bool
doubt_of (Sure b) = false
doubt_of (Doubtful b) = true

-- the bits and the doubts of a stream of observations
abbrev pub bits_of : (ℕ → Observation) → ℕ → Bool
bits_of observed j = bit_of (observed j)

abbrev pub doubts_of : (ℕ → Observation) → ℕ → Bool
doubts_of observed j = doubt_of (observed j)
