use Rattle.std.proofs.Common.{◌≡◌, ◌+◌, ◌++◌, take, drop}
use Rattle.layers.specs.Whitening.{whiten}
use Rattle.layers.proofs.whitening.whiten_group.Given as goal

abbrev pub invariant-loop-i : goal.invariant-loop-i
invariant-loop-i l = whiten l.start l.initial.chips ≡ take l.i l.chips ++ whiten (l.start + l.i) (drop l.i l.chips)
