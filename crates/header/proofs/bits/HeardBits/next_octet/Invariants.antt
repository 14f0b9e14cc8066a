use Rattle.std.proofs.Common.{◌≡◌, ◌+◌, ◌^◌, ◌<◌}
use Rattle.codebits.specs.Bits.{number_at}
use Rattle.header.specs.Reading.{decoded}
use Rattle.header.proofs.bits.HeardBits.next_octet.Given as goal

-- The octet so far is that of the bits before bit i.
abbrev pub invariant-loop-i : goal.invariant-loop-i
invariant-loop-i g l =
    (l.octet ≡ number_at (decoded (g.L.LineCode.code l.initial.self.line.now) l.initial.self.chips.now) l.initial.self.place l.i)
    × (l.octet < 2 ^ l.i)
    × (l.self.place ≡ l.initial.self.place + l.i)
    × (l.self.line ≡ l.initial.self.line)
    × (l.self.chips ≡ l.initial.self.chips)
