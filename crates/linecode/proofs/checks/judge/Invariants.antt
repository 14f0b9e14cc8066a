use Rattle.std.proofs.Common.{◌≡◌, ◌+◌, drop}
use Rattle.std.specs.List.{prefix_len}
use Rattle.linecode.specs.Chips.{is_chip}
use Rattle.linecode.proofs.checks.judge.Given as goal

abbrev pub invariant-loop-i : goal.invariant-loop-i
invariant-loop-i l = prefix_len is_chip l.chips ≡ l.i + prefix_len is_chip (drop l.i l.chips)
