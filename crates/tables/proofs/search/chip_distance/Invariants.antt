use Rattle.std.proofs.Common.{◌≡◌, ◌+◌, ◌≤◌, drop, length}
use Rattle.linecode.specs.Codes.{distance}
use Rattle.linecode.specs.Chips.{word_of}
use Rattle.tables.proofs.search.chip_distance.Given as goal

abbrev pub invariant-loop-digit : goal.invariant-loop-digit
invariant-loop-digit l =
    (l.differing ≤ length l.yielded) × (distance (word_of l.word) l.chips ≡ l.differing + distance (drop (length l.yielded) (word_of l.word)) (drop (length l.yielded) l.chips))
