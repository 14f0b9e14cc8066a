-- A line code that is chosen at run time means what the code that it holds means.
-- Assumes nothing.
use Rattle.linecode.specs.Codes.{Code, Lawful}
use Rattle.linecode.specs.Straight.{straight, straight_lawful}
use Rattle.tables.specs.Codes.{code_of}
use Rattle.tables.specs.CodeLaws.{code_lawful}
use Rattle.layers.specs.Whitening.{whitened}
use Rattle.layers.specs.WhiteningLaws.{whitened_lawful}
use Rattle.layers.specs.Layers.{alternating}
use Rattle.layers.specs.LayerLaws.{alternating_lawful}
use Rattle.bands.specs.declared.line.BandLine.{BandLine}
use Rattle.bands.specs.declared.line.BandLine.TheVariants.{Table, WhitenedTable, AlternatingTables, WhitenedStraight}

abbrev pub line_code : BandLine → Code
line_code (Table t) = code_of t
line_code (WhitenedTable w) = whitened (code_of w.line)
line_code (AlternatingTables a) = alternating (code_of a.even) (code_of a.odd)
line_code (WhitenedStraight w) = whitened straight

pub line_lawful : (x : BandLine) → Lawful (line_code x)
line_lawful (Table t) = code_lawful t
line_lawful (WhitenedTable w) = whitened_lawful _ (code_lawful w.line)
line_lawful (AlternatingTables a) = alternating_lawful _ _ (code_lawful a.even) (code_lawful a.odd)
line_lawful (WhitenedStraight w) = whitened_lawful _ straight_lawful
