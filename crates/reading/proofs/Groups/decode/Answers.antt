use Rattle.std.proofs.Common.{arith}
use Rattle.std.proofs.lemmas.List.FromFn.{fill_by_all}
use Rattle.codebits.specs.Interleaving.{moved_in}
use Rattle.reading.specs.Groups.{encoded_seen, decoded_seen}
use Rattle.reading.proofs.Groups.decode.Goals as goal

pub returns : goal.returns
returns c =
    let groups = c.args.self.now in
    fill_by_all (λ k. decoded_seen groups.differential groups.last (encoded_seen groups.values.now groups.bits) (moved_in k))
    c.loop-j.observed 176 groups.last c.loop-j.invariant.1 (λ k h. c.loop-j.invariant.0 k (omega arith))
