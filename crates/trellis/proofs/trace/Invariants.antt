-- The octets from i on are written, and the trace has come to the state before them.
use Rattle.std.proofs.Common.{◌≡◌, ℕ, ◌*◌, ◌<◌, ◌≤◌, get_or, drop}
use Rattle.codebits.specs.Message.{message_length, octet_of}
use Rattle.nearest.specs.Trellis.{traced}
use Rattle.trellis.specs.Trace.{ComesTo, took_by}
use Rattle.trellis.proofs.trace.Given as goal

abbrev pub invariant-loop-i : goal.invariant-loop-i
invariant-loop-i l =
    ComesTo l.words (message_length l.octets) 0 (8 * l.i) l.state.number
    × ((t : ℕ) → l.i ≤ t → t < l.octets → get_or l.psdu t 0 ≡ octet_of (traced (took_by l.words) (message_length l.octets) 0) t)
    × (drop l.octets l.psdu ≡ drop l.octets l.initial.psdu)
