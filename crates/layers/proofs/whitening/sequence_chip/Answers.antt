use Rattle.std.proofs.Common.{◌<◌, length, sym, ◌∙◌, arith, rules}
use Rattle.std.proofs.lemmas.List.{get_or-map, length-map}
use Rattle.linecode.specs.Chips.{chip_of, word_of}
use Rattle.layers.proofs.Sequence.{period_at}
use Rattle.layers.proofs.whitening.sequence_chip.Goals as goal

pub returns : goal.returns
returns c =
    let digits = c.period.result.now in
    let i = c.args.index in
    let within : i < length digits = search rules in
    let long = length-map digits chip_of in
    sym (get_or-map chip_of digits i 0 0 within) ∙ period_at (word_of digits) c.period.ensures i (omega arith)
