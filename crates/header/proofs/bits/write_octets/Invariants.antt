use Rattle.std.proofs.Common.{◌≡◌, ◌*◌, false, take}
use Rattle.codebits.specs.Bits.{previous}
use Rattle.frames.specs.Sent.{spread_groups}
use Rattle.header.specs.Headers.{octet_stream}
use Rattle.header.proofs.bits.write_octets.Given as goal

-- The words of the bits before j are written, and the last of them is kept.
abbrev pub invariant-loop-j : goal.invariant-loop-j
invariant-loop-j g l =
    (take (l.n * l.j) l.chips ≡ spread_groups (g.L.LineCode.code l.line) (octet_stream l.octets) 0 l.j)
    × (l.last ≡ previous false (octet_stream l.octets) l.j)
