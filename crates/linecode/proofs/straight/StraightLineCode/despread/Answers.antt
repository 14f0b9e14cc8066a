use Rattle.std.proofs.Common.{ℕ, false, List, get_or, sym, ap, ◌∙◌, arith, rules}
use Rattle.faults.specs.declared.Layer.TheVariants.{Line}
use Rattle.linecode.specs.Codes.{distance, nearest}
use Rattle.linecode.specs.Straight.{straight, straight_lawful}
use Rattle.linecode.proofs.Answers.{accepted, despread_ok}
use Rattle.linecode.proofs.Hearing.{heard}
use Rattle.linecode.proofs.StraightGroup.{straight_value, one_chip}
use Rattle.linecode.proofs.straight.StraightLineCode.despread.Goals as goal

pub returns : goal.returns
returns c =
    let xs = c.args.chips.now in
    let ok = sym c.judge_chips.ensures ∙ c.in_ok-judge_chips.was in
    let a = accepted Line 1 xs _ ok in
    let x = get_or xs 0 0 in
    let is =
    despread_ok straight c.args.position xs _ _ ok
    (ap (λ (v : ℕ). (v, false)) c.from.ensures ∙ straight_value x (a.binary 0 (omega arith))
    ∙ ap (λ (ys : List ℕ). nearest (λ v. distance (straight.word 0 v) ys) 1) (sym (one_chip xs a.sized))) in
    record { answer = is; promise = heard straight straight_lawful c.args.position (search rules) xs _ is }
