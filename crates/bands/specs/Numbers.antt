-- The numbers of the bands and of the rate modes.
-- Assumes nothing.
use Rattle.std.specs.Prelude.{◌≡◌, ◌≢◌, ℕ, List, ◌++◌, Ok, Result, MatchResult, codes, decimal}
use Rattle.bands.specs.declared.band.Band.{Band}
use Rattle.bands.specs.declared.band.Band.TheVariants.{Mhz780, Mhz868, Mhz915, Mhz2450}
use Rattle.bands.specs.declared.band.RateMode.{RateMode}
use Rattle.bands.specs.declared.band.RateMode.TheVariants.{Mode0, Mode1, Mode2, Mode3}
use Rattle.bands.specs.declared.band.UnknownBand.{UnknownBand}
use Rattle.bands.specs.declared.band.UnknownMode.{UnknownMode}

abbrev pub band_number : Band → ℕ
band_number Mhz780 = 780
band_number Mhz868 = 868
band_number Mhz915 = 915
band_number Mhz2450 = 2450

abbrev pub mode_number : RateMode → ℕ
mode_number Mode0 = 0
mode_number Mode1 = 1
mode_number Mode2 = 2
mode_number Mode3 = 3

-- a number is read as the band that has it, or is refused, whole, where none has it
abbrev pub ReadsBand : ℕ → Result Band UnknownBand → Type 0
ReadsBand number r = MatchResult r (λ band. band_number band ≡ number) (λ e. (e.0 ≡ number) × ((band : Band) → band_number band ≢ number))

-- the same of rate modes
abbrev pub ReadsMode : ℕ → Result RateMode UnknownMode → Type 0
ReadsMode number r = MatchResult r (λ mode. mode_number mode ≡ number) (λ e. (e.0 ≡ number) × ((mode : RateMode) → mode_number mode ≢ number))

pub record NumbersReadBack : Type 0 where
  pub by_band : (band : Band) (r : Result Band UnknownBand) → ReadsBand (band_number band) r → r ≡ Ok band
  pub by_mode : (mode : RateMode) (r : Result RateMode UnknownMode) → ReadsMode (mode_number mode) r → r ≡ Ok mode

-- what a refused number is shown as
abbrev pub unknown_band : UnknownBand → List ℕ
unknown_band e = codes "no band is at " ++ (decimal e.0 ++ codes " MHz")

abbrev pub unknown_mode : UnknownMode → List ℕ
unknown_mode e = codes "no rate mode has the number " ++ decimal e.0
