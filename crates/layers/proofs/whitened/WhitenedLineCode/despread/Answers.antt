use Rattle.std.proofs.Common.{◌≡◌, ◌*◌, length, Ok, sym, ap, ◌∙◌, rules}
use Rattle.faults.specs.declared.Layer.TheVariants.{Line}
use Rattle.linecode.specs.Chips.{judged}
use Rattle.linecode.specs.Codes.{despread_answer}
use Rattle.linecode.proofs.Hearing.{heard}
use Rattle.linecode.proofs.Answers.{accepted}
use Rattle.layers.specs.Whitening.{whiten, whitened}
use Rattle.layers.specs.WhiteningLaws.{whitened_lawful}
use Rattle.layers.proofs.WhitenedAnswers.{whitened_despread}
use Rattle.layers.proofs.whitened.WhitenedLineCode.despread.Goals as goal

pub returns : goal.returns
returns g c =
    let a = g.L.LineCode.code c.args.self.now.line in
    let p = c.args.position in
    let xs = c.args.chips.now in
    let good : judged Line a.chips xs ≡ Ok c.in_ok-judge_chips.field-0 = sym c.judge_chips.ensures ∙ c.in_ok-judge_chips.was in
    let plain : c.whiten_group.new.chips ≡ whiten (p * a.chips) xs =
    c.whiten_group.ensures ∙ ap (λ ys. whiten (p * length ys) ys) c.copy_from_slice.ensures.after
    ∙ ap (λ n. whiten (p * n) xs) (accepted Line a.chips xs c.in_ok-judge_chips.field-0 good).sized in
    let is = c.despread.ensures.answer ∙ ap (despread_answer a p) plain ∙ whitened_despread a p xs c.in_ok-judge_chips.field-0 good in
    record { answer = is; promise = heard (whitened a) (whitened_lawful a (g.L.LineCode.lawful c.args.self.now.line)) p (search rules) xs _ is }
