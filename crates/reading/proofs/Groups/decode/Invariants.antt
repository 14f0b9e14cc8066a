use Rattle.std.proofs.Common.{◌≡◌, ℕ, ◌<◌, length, get_or}
use Rattle.codebits.specs.Interleaving.{moved_in}
use Rattle.reading.specs.Groups.{encoded_seen, decoded_seen}
use Rattle.reading.proofs.Groups.decode.Given as goal

abbrev pub invariant-loop-j : goal.invariant-loop-j
invariant-loop-j l =
    ((k : ℕ) → k < l.j → get_or l.observed k l.self.last ≡ decoded_seen l.self.differential l.self.last (encoded_seen l.self.values.now l.self.bits) (moved_in k))
    × (length l.observed ≡ 176)
