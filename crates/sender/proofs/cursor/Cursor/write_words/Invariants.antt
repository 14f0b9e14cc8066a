use Rattle.std.proofs.Common.{◌≡◌, ◌*◌, take}
use Rattle.sender.specs.Sending.{block_words}
use Rattle.sender.proofs.cursor.Cursor.write_words.Given as goal

-- The words of the groups before j are written, and the bits after theirs come next.
abbrev pub invariant-loop-j : goal.invariant-loop-j
invariant-loop-j g l =
    (take (l.n * l.j) l.chips ≡ block_words (g.L.LineCode.code l.line) l.fn.self l.j)
    × (l.bits.place ≡ l.g * l.j)
    × (l.bits.cursor.now ≡ l.fn.self)
