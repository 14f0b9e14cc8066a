use Rattle.std.proofs.Common.{◌≡◌, ℕ, refl}
use Rattle.linecode.specs.Codes.{least, least_distance}
use Rattle.tables.specs.Codes.{code_of}
use Rattle.tables.specs.Facts.{table_distance}
use Rattle.tables.specs.declared.code.TableCode.{TableCode}
use Rattle.tables.specs.declared.code.TableCode.TheVariants.{Dsss4x1, Dsss16x1k0, Dsss16x1k1, Dsss32x1k0, Dsss32x1k1, Dsss64x1, Dsss128x1, Dsss8x4, Dsss16x4, Dsss32x4}
use Rattle.tables.proofs.facts.tables_keep_their_distances.Goals as goal

-- computed at each table
by_table : (t : TableCode) (p : ℕ) → least_distance (code_of t) p ≡ table_distance t
unfolding least least_distance
by_table Dsss4x1 p = refl
by_table Dsss16x1k0 p = refl
by_table Dsss16x1k1 p = refl
by_table Dsss32x1k0 p = refl
by_table Dsss32x1k1 p = refl
by_table Dsss64x1 p = refl
by_table Dsss128x1 p = refl
by_table Dsss8x4 p = refl
by_table Dsss16x4 p = refl
by_table Dsss32x4 p = refl

pub returns : goal.returns
unfolding least least_distance
returns c = record { by_table = by_table; by_straight = λ p. refl }
