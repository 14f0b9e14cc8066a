-- A section that is there.
-- Assumes nothing.
use Rattle.std.proofs.Common.{◌≡◌, ℕ, ◌≤◌, List, length, drop, Ok, arith}
use Rattle.std.proofs.lemmas.Bool.Decides.{nat_tests}
use Rattle.captures.specs.Sections.{count_of, section_start}

pub found : (number n : ℕ) (bs : List ℕ) → 4 ≤ length bs → count_of bs ≡ n → section_start number n bs ≡ Ok (drop 4 bs)
found number n bs four is = grind (arith, nat_tests)
