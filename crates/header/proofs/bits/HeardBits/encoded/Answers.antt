use Rattle.std.proofs.Common.{◌≡◌, is_ok, ap, ◌∙◌}
use Rattle.linecode.specs.Codes.{Code, despread_answer, value_of}
use Rattle.frames.specs.Sent.{group_chips}
use Rattle.header.proofs.Singles.{bit_heard, group_slice, not_refused}
use Rattle.header.proofs.bits.HeardBits.encoded.Goals as goal

pub unwrap-value-requires : goal.unwrap-value-requires
unwrap-value-requires g c =
    let k : Code = g.L.LineCode.code c.args.self.now.line.now in
    let slice = group_slice k c.chips_per_group-n.result c.args.i c.args.self.now.chips.now c.chips_per_group-n.ensures in
    ap (λ r. is_ok r)
    (c.despread.ensures.answer ∙ (ap (despread_answer k c.args.i) slice ∙ not_refused k c.args.i c.args.i c.args.self.now.chips.now c.args.self.now.binary c.requires.within))

pub returns : goal.returns
returns g c =
    let k : Code = g.L.LineCode.code c.args.self.now.line.now in
    let slice = group_slice k c.chips_per_group-n.result c.args.i c.args.self.now.chips.now c.chips_per_group-n.ensures in
    let answer = c.despread.ensures.answer ∙ (ap (despread_answer k c.args.i) slice ∙ not_refused k c.args.i c.args.i c.args.self.now.chips.now c.args.self.now.binary c.requires.within) in
    let was = c.unwrap-value.ensures in
    let value : c.unwrap-value.result ≡ value_of k c.args.i (group_chips k c.args.self.now.chips.now c.args.i) = cc in
    bit_heard k c.args.self.now.single c.args.self.now.chips.now c.args.i _ (ap (λ r. r.0) value)
