-- Each table is sound, so its code is a line code.
-- Assumes nothing.
use Rattle.std.specs.Prelude.{T}
use Rattle.linecode.specs.Codes.{Lawful}
use Rattle.tables.specs.Tables.{sound_table}
use Rattle.tables.specs.TableLaws.{table_lawful}
use Rattle.tables.specs.Codes.{words, group_bits, word_chips, code_of}
use Rattle.tables.specs.declared.code.TableCode.{TableCode}
use Rattle.tables.specs.declared.code.TableCode.TheVariants.{Dsss4x1, Dsss16x1k0, Dsss16x1k1, Dsss32x1k0, Dsss32x1k1, Dsss64x1, Dsss128x1, Dsss8x4, Dsss16x4, Dsss32x4}

-- the test of soundness, computed at each table
pub tables_sound : (t : TableCode) → T (sound_table (group_bits t) (word_chips t) (words t))
tables_sound Dsss4x1 = tt
tables_sound Dsss16x1k0 = tt
tables_sound Dsss16x1k1 = tt
tables_sound Dsss32x1k0 = tt
tables_sound Dsss32x1k1 = tt
tables_sound Dsss64x1 = tt
tables_sound Dsss128x1 = tt
tables_sound Dsss8x4 = tt
tables_sound Dsss16x4 = tt
tables_sound Dsss32x4 = tt

pub code_lawful : (t : TableCode) → Lawful (code_of t)
code_lawful t = table_lawful (group_bits t) (word_chips t) (words t) (tables_sound t)
