use Rattle.std.proofs.Common.{sym, ap, ◌∙◌, arith}
use Rattle.linecode.specs.Codes.{Code}
use Rattle.linecode.proofs.Answers.{accepted}
use Rattle.faults.specs.declared.Layer.TheVariants.{Header}
use Rattle.header.proofs.Bands.{one_bit}
use Rattle.header.proofs.model.reading.read_header.Goals as goal

pub new-heard-requires : goal.new-heard-requires
new-heard-requires c =
    let good = accepted Header c.header_chips.result c.args.chips.now _ (sym c.in_ok-judge.ensures) in
    record { single = ap (λ (k : Code). k.bits) c.header_line-line.ensures ∙ one_bit c.args.band; binary = λ i h. good.binary i (omega (arith, good.sized)) }
