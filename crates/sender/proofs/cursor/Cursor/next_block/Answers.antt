use Rattle.std.proofs.Common.{◌≡◌, ℕ, ◌<◌, length, ap, sym, ◌∙◌, arith, Ok, Some}
use Rattle.std.proofs.lemmas.Bool.{cond-true}
use Rattle.linecode.specs.Codes.{Code, Lawful}
use Rattle.frames.specs.Sent.{block_chips}
use Rattle.sender.specs.Sending.{State, blocks_to_send}
use Rattle.sender.proofs.Steps.{next_is, is_written, answer_written, state_written}
use Rattle.sender.proofs.cursor.Cursor.next_block.Goals as goal

pub returns : goal.returns
returns g c =
    let k : Code = g.L.LineCode.code c.args.line.now in
    let l : Lawful k = g.L.LineCode.lawful c.args.line.now in
    let s : State = c.args.self.now in
    let room : ℕ = length c.args.chips.now in
    let at = ap (λ (t : State). t.block) c.self.view_is in
    let blocks = ap (λ (t : State). blocks_to_send (length t.psdu)) c.self.view_is in
    let left : s.block < blocks_to_send (length s.psdu) = omega (arith, c.blocks_to_send-blocks.ensures.value, at, blocks) in
    let fits : room ≡ block_chips k = c.if-chips-block_chips.false ∙ c.block_chips.ensures.answer in
    record {
      answer = ap (λ b. Ok (Some b)) at ∙ sym (answer_written k s room left fits);
      memory = c.advance.ensures.chips ∙ sym (cond-true _ _ _ (is_written k s room left fits) ∙ next_is k l s left);
      state = c.advance.ensures.state ∙ sym (state_written k s room left fits);
    }
