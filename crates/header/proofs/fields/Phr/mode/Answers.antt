use Rattle.std.proofs.Common.{◌≡◌, ℕ, zero, suc, ◌<◌, Ok, Err, Result, refl, sym, ap, ◌∙◌, arith, rules}
use Rattle.bands.specs.declared.band.RateMode.{RateMode}
use Rattle.bands.specs.declared.band.UnknownMode.{UnknownMode}
use Rattle.bands.specs.Numbers.{mode_number, ReadsMode}
use Rattle.header.specs.Phr.{mode_numbered}
use Rattle.header.proofs.Phrs.{numbered_back}
use Rattle.header.proofs.fields.Phr.mode.Goals as goal

-- each number below four is a mode's
number_back : (n : ℕ) → n < 4 → mode_number (mode_numbered n) ≡ n
number_back zero h = refl
number_back (suc zero) h = refl
number_back (suc (suc zero)) h = refl
number_back (suc (suc (suc n))) h = omega arith

-- and is read as that mode
read_as : (n : ℕ) → n < 4 → (r : Result RateMode UnknownMode) → ReadsMode n r → r ≡ Ok (mode_numbered n)
read_as n h (Ok m) reads = ap Ok (sym (numbered_back m) ∙ ap mode_numbered reads)
read_as n h (Err e) reads = absurd (reads.1 (mode_numbered n) (number_back n h))

pub unwrap-requires : goal.unwrap-requires
unwrap-requires c = let e = read_as _ (omega arith) c.try_from.result c.try_from.ensures in search rules

pub returns : goal.returns
returns c = let e = read_as _ (omega arith) c.try_from.result c.try_from.ensures in let u = c.unwrap.ensures in cc
