use Rattle.std.proofs.Common.{◌≡◌, ℕ, ◌<◌, false, get_or}
use Rattle.frames.specs.Heard.{heard}
use Rattle.reading.proofs.despread_groups.Given as goal

abbrev pub invariant-loop-j : goal.invariant-loop-j
invariant-loop-j g l = (i : ℕ) → i < l.j → get_or l.values i (0, false) ≡ heard (g.L.LineCode.code l.line) l.first l.chips i
