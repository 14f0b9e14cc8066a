-- The costs of the two kinds are numbers of differences between the observed bits and the claimed ones.
-- Assumes nothing.
use Rattle.std.specs.Prelude.{◌≡◌, ℕ, ◌^◌, ◌<◌, Bool}
use Rattle.codebits.specs.Bits.{count, differences}
use Rattle.costs.specs.Kind.{cost_of}
use Rattle.costs.specs.Kinds.{surely_differs, doubtfully_differs, count_kind, graded_kind}
use Rattle.costs.specs.Observed.{bits_of}
use Rattle.costs.specs.declared.Observation.{Observation}

-- in how many places below n the claimed bits differ from observed ones that are sure, and from doubtful ones
unfoldable pub sure_differences : (ℕ → Observation) → (ℕ → Bool) → ℕ → ℕ
sure_differences observed claimed n = count (λ j. surely_differs (observed j) (claimed j)) n

unfoldable pub doubtful_differences : (ℕ → Observation) → (ℕ → Bool) → ℕ → ℕ
doubtful_differences observed claimed n = count (λ j. doubtfully_differs (observed j) (claimed j)) n

abbrev pub CountIsTheDifferences : Type 0
CountIsTheDifferences =
    (observed : ℕ → Observation) (claimed : ℕ → Bool) (n : ℕ) → n < 2 ^ 32 →
    cost_of count_kind observed claimed n ≡ record { differing = differences (bits_of observed) claimed n }

abbrev pub GradedIsTheDifferences : Type 0
GradedIsTheDifferences =
    (observed : ℕ → Observation) (claimed : ℕ → Bool) (n : ℕ) → n < 2 ^ 32 →
    cost_of graded_kind observed claimed n ≡ record { sure = sure_differences observed claimed n; doubtful = doubtful_differences observed claimed n }
