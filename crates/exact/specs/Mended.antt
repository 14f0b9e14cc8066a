-- How many wrong and doubtful code bits each kind of cost mends.
-- Assumes nothing.
use Rattle.std.specs.Prelude.{◌≡◌, ℕ, ◌+◌, ◌*◌, ◌≤◌, false, ◌≢◌, List}
use Rattle.codebits.specs.Bits.{count, differences}
use Rattle.codebits.specs.Message.{IsPsdu}
use Rattle.costs.specs.Differences.{sure_differences}
use Rattle.costs.specs.Kind.{Kind}
use Rattle.costs.specs.Kinds.{count_kind, graded_kind}
use Rattle.costs.specs.Observed.{bits_of, doubts_of}
use Rattle.costs.specs.declared.Observation.{Observation}
use Rattle.nearest.specs.Messages.{longest_psdu, psdu_bits, code_length}
use Rattle.nearest.specs.Nearest.{psdu_cost, NearestPsdu}

-- every other PSDU of L octets is dearer than p, so p is what is returned
pub record AloneNearest {O C : Type 0} (kind : Kind O C) (observed : ℕ → O) (L : ℕ) (p : List ℕ) : Type 0 where
  pub others_dearer : (q : List ℕ) → IsPsdu L q → q ≢ p → kind.at_most (psdu_cost kind observed L q) (psdu_cost kind observed L p) ≡ false
  pub returned : (q : List ℕ) (told : C) → NearestPsdu kind observed L q told → q ≡ p

abbrev pub FourWrongBitsMended : Type 0
FourWrongBitsMended =
    (observed : ℕ → Observation) (L : ℕ) (p : List ℕ) → L ≤ longest_psdu → IsPsdu L p →
    differences (bits_of observed) (psdu_bits p) (code_length L) ≤ 4 →
    AloneNearest count_kind observed L p

abbrev pub ErrorsAndErasuresMended : Type 0
ErrorsAndErasuresMended =
    (observed : ℕ → Observation) (L : ℕ) (p : List ℕ) → L ≤ longest_psdu → IsPsdu L p →
    2 * sure_differences observed (psdu_bits p) (code_length L) + count (doubts_of observed) (code_length L) ≤ 9 →
    AloneNearest graded_kind observed L p
