-- The letters of the settings.
-- Assumes nothing.
use Rattle.std.specs.Prelude.{ℕ, cond, Some, None, Option, ◌==◌}
use Rattle.bands.specs.declared.band.Band.{Band}
use Rattle.bands.specs.declared.band.Band.TheVariants.{Mhz780, Mhz868, Mhz915, Mhz2450}
use Rattle.captures.specs.declared.settings.CostChoice.{CostChoice}
use Rattle.captures.specs.declared.settings.CostChoice.TheVariants.{Count, Graded}

-- the octets that write A, B, C and D
abbrev pub band_of : ℕ → Option Band
band_of c = cond (c == 65) (Some Mhz780) (cond (c == 66) (Some Mhz868) (cond (c == 67) (Some Mhz915) (cond (c == 68) (Some Mhz2450) None)))

-- those that write p and g
abbrev pub choice_of : ℕ → Option CostChoice
choice_of c = cond (c == 112) (Some Count) (cond (c == 103) (Some Graded) None)
