use Rattle.std.proofs.Common.{refl, ap, ◌∙◌, rules}
use Rattle.linecode.specs.Codes.{despread_answer}
use Rattle.linecode.proofs.Hearing.{heard}
use Rattle.layers.specs.Layers.{in_use, alternating}
use Rattle.layers.specs.LayerLaws.{in_use_make, alternating_lawful}
use Rattle.layers.proofs.Alike.{despread_answer_alike}
use Rattle.layers.proofs.alternating.AlternatingLineCode.despread.Goals as goal

pub returns : goal.returns
returns g c =
    let even = c.args.self.now.even in
    let odd = c.args.self.now.odd in
    let a = g.A.LineCode.code even in
    let b = g.A.LineCode.code odd in
    let p = c.args.position in
    let xs = c.args.chips.now in
    let make = in_use_make a b p in
    let is =
    c.despread.ensures.answer ∙ ap (λ k. despread_answer k p xs) c.in_use.ensures ∙ despread_answer_alike (in_use a b p) (alternating a b) make.bits make.chips p xs (λ v. refl) in
    record { answer = is; promise = heard (alternating a b) (alternating_lawful a b (g.A.LineCode.lawful even) (g.A.LineCode.lawful odd)) p (search rules) xs _ is }
