use Rattle.std.proofs.Common.{◌≡◌, ◌+◌, ◌*◌, ◌^◌, ◌<◌}
use Rattle.codebits.specs.Bits.{number_at}
use Rattle.sender.specs.Sending.{sent_stream}
use Rattle.sender.proofs.cursor.bits.SentBits.next_value.Given as goal

-- The value so far is that of the bits before bit i.
abbrev pub invariant-loop-i : goal.invariant-loop-i
invariant-loop-i l =
    (l.value ≡ number_at (sent_stream l.initial.self.cursor.now) (176 * l.initial.self.cursor.now.block + l.initial.self.place) l.i)
    × (l.value < 2 ^ l.i)
    × (l.self.place ≡ l.initial.self.place + l.i)
    × (l.self.cursor ≡ l.initial.self.cursor)
