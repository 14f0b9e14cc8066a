use Rattle.std.proofs.Common.{◌*◌, length, sym, ap, ◌∙◌, rules}
use Rattle.layers.specs.Whitening.{whiten}
use Rattle.layers.proofs.Sequence.{whiten_more, whiten_all}
use Rattle.layers.proofs.whitening.whiten_group.Goals as goal

pub loop-i-preserved : goal.loop-i-preserved
loop-i-preserved c = c.loop-i.invariant ∙ whiten_more _ _ _ _ (search rules) c.sequence_chip.ensures

pub returns : goal.returns
returns c =
    let n = length c.args.chips.now in
    sym (c.loop-i.invariant ∙ whiten_all _ _ _ (search rules)) ∙ ap (λ p. whiten (p * n) c.args.chips.now) c.from.ensures
