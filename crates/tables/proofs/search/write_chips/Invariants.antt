use Rattle.std.proofs.Common.{◌≡◌, ℕ, ◌<◌, get_or}
use Rattle.linecode.specs.Chips.{chip_of}
use Rattle.tables.proofs.search.write_chips.Given as goal

abbrev pub invariant-loop-i : goal.invariant-loop-i
invariant-loop-i l = (k : ℕ) → k < l.i → get_or l.chips k 0 ≡ chip_of (get_or l.word k 0)
