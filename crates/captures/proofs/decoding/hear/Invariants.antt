use Rattle.std.proofs.Common.{◌≡◌, ◌+◌, ◌*◌, length, drop}
use Rattle.std.specs.Iterator.Adapters.{take_source, take_count}
use Rattle.std.specs.Slice.Iter.{chunks_exact_rest, chunks_exact_size}
use Rattle.codebits.specs.Message.{blocks}
use Rattle.frames.specs.Sent.{block_chips}
use Rattle.receiver.specs.Receiver.{octets}
use Rattle.captures.specs.Decoding.{state_of, Heard}
use Rattle.captures.proofs.decoding.hear.Given as goal

-- The blocks so far were accepted, and the iterator has what follows them.
abbrev pub invariant-loop-chips : goal.invariant-loop-chips
invariant-loop-chips g l =
    let k = g.L.LineCode.code l.line in
    let chunks = take_source l.chips-iterator in
    Heard g.K.CostKind.kind k l.fn.header l.fn.costs l.fn.words l.fn.input (length l.yielded) (state_of k l.frame l.costs l.words)
    × ((length l.yielded + take_count l.chips-iterator ≡ blocks (octets l.fn.header))
    × ((chunks_exact_size chunks ≡ block_chips k) × (chunks_exact_rest chunks ≡ drop (length l.yielded * block_chips k) l.fn.input)))
