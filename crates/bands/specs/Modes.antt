-- The table of bands and modes: what each band sends a header and a PSDU by.
-- Assumes nothing.
use Rattle.std.specs.Prelude.{Bool, true, false, Some, None, Option}
use Rattle.linecode.specs.Codes.{Code}
use Rattle.linecode.specs.Straight.{straight}
use Rattle.tables.specs.Codes.{code_of}
use Rattle.tables.specs.declared.code.TableCode.TheVariants.{Dsss4x1, Dsss16x1k0, Dsss16x1k1, Dsss32x1k0, Dsss32x1k1, Dsss64x1, Dsss128x1, Dsss8x4, Dsss16x4, Dsss32x4}
use Rattle.layers.specs.Whitening.{whitened}
use Rattle.layers.specs.Layers.{alternating}
use Rattle.bands.specs.Lines.{line_code}
use Rattle.bands.specs.declared.line.BandLine.{BandLine}
use Rattle.bands.specs.declared.band.Band.{Band}
use Rattle.bands.specs.declared.band.Band.TheVariants.{Mhz780, Mhz868, Mhz915, Mhz2450}
use Rattle.bands.specs.declared.band.RateMode.{RateMode}
use Rattle.bands.specs.declared.band.RateMode.TheVariants.{Mode0, Mode1, Mode2, Mode3}

-- how a PSDU is sent: its line code, and whether its bits are coded differentially
pub record Sending : Type 0 where
  pub line : Code
  pub differential : Bool

abbrev plainly : Code → Option Sending
plainly k = Some (record { line = k; differential = false })

abbrev differentially : Code → Option Sending
differentially k = Some (record { line = k; differential = true })

-- the modes of the bands at 780 and 915 MHz
abbrev thousand : RateMode → Option Sending
thousand Mode0 = differentially (alternating (code_of Dsss16x1k0) (code_of Dsss16x1k1))
thousand Mode1 = plainly (code_of Dsss16x4)
thousand Mode2 = plainly (whitened (code_of Dsss8x4))
thousand Mode3 = plainly (whitened straight)

-- the modes of each band; one that a band lacks is None
abbrev pub sending : Band → RateMode → Option Sending
sending Mhz780 mode = thousand mode
sending Mhz915 mode = thousand mode
sending Mhz868 Mode0 = differentially (whitened (code_of Dsss4x1))
sending Mhz868 Mode1 = plainly (whitened straight)
sending Mhz868 Mode2 = None
sending Mhz868 Mode3 = None
sending Mhz2450 Mode0 = differentially (alternating (code_of Dsss32x1k0) (code_of Dsss32x1k1))
sending Mhz2450 Mode1 = plainly (code_of Dsss32x4)
sending Mhz2450 Mode2 = plainly (code_of Dsss16x4)
sending Mhz2450 Mode3 = plainly (whitened (code_of Dsss8x4))

abbrev line_sent : Option Sending → Option Code
line_sent (Some s) = Some s.line
line_sent None = None

-- the line code of a PSDU, where the band has the mode
abbrev pub psdu_line : Band → RateMode → Option Code
psdu_line band mode = line_sent (sending band mode)

abbrev pub held : Option BandLine → Option Code
held (Some x) = Some (line_code x)
held None = None

abbrev coded : Option Sending → Bool
coded (Some s) = s.differential
coded None = false

-- whether a PSDU is coded differentially
abbrev pub psdu_differential : Band → RateMode → Bool
psdu_differential band mode = coded (sending band mode)

-- the line code of a header
abbrev pub header_code : Band → Code
header_code Mhz780 = code_of Dsss64x1
header_code Mhz868 = code_of Dsss16x1k0
header_code Mhz915 = code_of Dsss64x1
header_code Mhz2450 = code_of Dsss128x1
