-- One word more is read a turn, from the last on.
use Rattle.std.proofs.Common.{◌-◌, length, take, drop}
use Rattle.std.proofs.lemmas.Iterator.Adapters.{YieldsList-from_rev_slice}
use Rattle.std.proofs.lemmas.Iterator.Consumers.{YieldsList-turn}
use Rattle.std.proofs.lemmas.List.{length_push}
use Rattle.trellis.proofs.Going.{comes_read}
use Rattle.trellis.proofs.back.settle.Goals as goal

pub loop-word-preserved : goal.loop-word-preserved
loop-word-preserved c =
    let part = take (c.args.end - c.args.start) (drop c.args.start c.args.words.now) in
    comes_read c.args.words.now c.args.end 0 c.args.start (length c.loop-word.yielded) c.loop-word.state.number _ c.in-Some.word.now _
    c.requires.0 c.requires.1 (length_push c.loop-word.yielded c.in-Some.word)
    (YieldsList-turn (YieldsList-from_rev_slice part cc) c.loop-word.yielded _ c.loop-word.yielded_by _ _ c.in-Some.word c.in-Some.is c.next.ensures.steps)
    c.loop-word.invariant.1 c.previous-state.ensures c.previous-state.result.small
