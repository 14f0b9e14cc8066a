use Rattle.std.proofs.Common.{ℕ, length, get_or, sym, ◌∙◌, rules}
use Rattle.std.proofs.lemmas.List.FromFn.{fill_by_all}
use Rattle.std.proofs.lemmas.List.{get_or-map, length-map}
use Rattle.linecode.specs.Chips.{chip_of, word_of}
use Rattle.tables.proofs.search.write_chips.Goals as goal

pub returns : goal.returns
returns c =
    let digits = c.args.word.now in
    let f : ℕ → ℕ = λ k. chip_of (get_or digits k 0) in
    let long = length-map digits chip_of in
    fill_by_all f c.loop-i.chips (length digits) 0 (search rules) (λ k h. c.loop-i.invariant k (search rules))
    ∙ sym (fill_by_all f (word_of digits) (length digits) 0 long (λ k h. get_or-map chip_of digits k 0 0 h))
