-- Code bits that the channel may have touched: how many of them are mended, and that interleaving keeps their number.
-- Assumes nothing.
use Rattle.std.specs.Prelude.{◌≡◌, ℕ, ◌*◌, ◌<◌, ◌≤◌, Bool, false, List}
use Rattle.codebits.specs.Bits.{count}
use Rattle.codebits.specs.Interleaving.{moved}
use Rattle.codebits.specs.Message.{IsPsdu, block_code_bits}
use Rattle.costs.specs.Kind.{Kind}
use Rattle.costs.specs.declared.Observation.{Observation}
use Rattle.costs.specs.declared.Observation.TheVariants.{Sure}
use Rattle.nearest.specs.Messages.{longest_psdu, psdu_bits, code_length}
use Rattle.nearest.specs.Nearest.{psdu_cost}
use Rattle.exact.specs.Mended.{AloneNearest}

-- code bit j is observed as the PSDU has it, and is sure
abbrev pub AsSent : (ℕ → Observation) → List ℕ → ℕ → Type 0
AsSent observed p j = observed j ≡ Sure (psdu_bits p j)

-- every code bit that is not touched is observed as sent
abbrev pub TouchedOnly : (ℕ → Bool) → (ℕ → Observation) → ℕ → List ℕ → Type 0
TouchedOnly touched observed L p = (j : ℕ) → j < code_length L → touched j ≡ false → AsSent observed p j

abbrev pub FewTouchedMended : {C : Type 0} → Kind Observation C → Type 0
FewTouchedMended kind =
    (touched : ℕ → Bool) (observed : ℕ → Observation) (L : ℕ) (p : List ℕ) → L ≤ longest_psdu → IsPsdu L p →
    TouchedOnly touched observed L p → count touched (code_length L) ≤ 4 →
    AloneNearest kind observed L p

abbrev pub CleanCostsNothing : {C : Type 0} → Kind Observation C → Type 0
CleanCostsNothing kind =
    (observed : ℕ → Observation) (L : ℕ) (p : List ℕ) → ((j : ℕ) → j < code_length L → AsSent observed p j) →
    psdu_cost kind observed L p ≡ kind.nothing

-- as many code bits are touched before interleaving as after it
abbrev pub MoveKeepsCount : Type 0
MoveKeepsCount = (touched : ℕ → Bool) (blocks : ℕ) → count (λ j. touched (moved j)) (block_code_bits * blocks) ≡ count touched (block_code_bits * blocks)
