use Rattle.std.proofs.Common.{◌≡◌, ℕ, ◌+◌, ◌*◌, min, length, refl, ap, ◌∙◌}
use Rattle.linecode.specs.Codes.{Code}
use Rattle.frames.specs.Sent.{block_chips}
use Rattle.sender.specs.Sending.{State}
use Rattle.sender.proofs.Filling.{step_answer, step_state, step_filled}
use Rattle.sender.proofs.cursor.Cursor.next_in_frame.Goals as goal

pub returns : goal.returns
returns g c =
    let k : Code = g.L.LineCode.code c.args.line.now in
    let l = g.L.LineCode.lawful c.args.line.now in
    let s = c.args.self.now in
    let size = c.block_chips-size.ensures.answer in
    let b : ℕ = c.self.inside.block in
    let from = ap (λ (t : State). t.block * c.block_chips-size.result) c.self.view_is ∙ ap (λ n. s.block * n) size in
    let end : c.min-end.result ≡ min (length c.args.chips.now) (b * c.block_chips-size.result + block_chips k)
    = c.min-end.ensures ∙ ap (λ n. min (length c.args.chips.now) (b * c.block_chips-size.result + n)) size in
    let step = c.next_block.ensures in
    record {
      answer = step.answer ∙ step_answer k l s _ _ c.args.chips.now _ c.requires.filled c.requires.room from end refl;
      state = step.state ∙ step_state k l s _ _ c.args.chips.now _ c.requires.filled c.requires.room from end refl;
      filled = step_filled k l s _ _ c.args.chips.now _ c.requires.filled c.requires.room from end refl _ _ step.state step.memory;
    }
