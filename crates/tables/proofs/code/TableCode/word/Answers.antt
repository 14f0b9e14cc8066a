use Rattle.std.proofs.Common.{◌≡◌, ◌+◌, ◌-◌, ◌*◌, take, drop, ap, ◌∙◌, arith}
use Rattle.linecode.specs.Chips.{word_of, part}
use Rattle.tables.proofs.Table.{word_at}
use Rattle.tables.proofs.code.TableCode.word.Goals as goal

pub returns-clause-chips : goal.returns-clause-chips
returns-clause-chips c =
    let digits = c.digits.result.now in
    let n = c.args.n in
    let start = c.args.value * n in
    let whole : start + n - start ≡ n = omega arith in
    ap (λ m. word_of (take m (drop start digits))) whole
    ∙ ap (λ m. word_of (part m digits c.args.value)) c.requires.long
    ∙ word_at c.args.self digits c.digits.ensures c.args.value c.requires.known
