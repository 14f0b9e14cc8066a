use Rattle.std.proofs.Common.{◌≡◌, ℕ, ◌+◌, ◌*◌, Bool, [], ◌∷◌, ap, ◌∙◌, arith, length-set}
use Rattle.codebits.specs.Message.{message_bit}
use Rattle.codebits.specs.Convolution.{code_bit}
use Rattle.sender.specs.Stored.{last_six}
use Rattle.sender.proofs.Turns.{turn_register, turn_pair, fill_pair}
use Rattle.sender.proofs.coding.encode_block.Goals as goal

pub loop-k-preserved : goal.loop-k-preserved
loop-k-preserved c =
    let m : ℕ → Bool = message_bit c.args.psdu.now in
    let n : ℕ = 88 * c.args.block + c.loop-k.k in
    let is_bit : c.message_bit-m.result ≡ m n = c.message_bit-m.ensures.answer in
    let is_six : c.loop-k.register.bits ≡ last_six m n = c.loop-k.invariant.0 in
    let at : 2 * n ≡ 176 * c.args.block + 2 * c.loop-k.k = omega arith in (
      turn_register m n _ _ is_bit is_six _ c.push.ensures ∙ ap (last_six m) (omega arith),
      fill_pair (λ i. code_bit m (176 * c.args.block + 2 * i) ∷ code_bit m (176 * c.args.block + 2 * i + 1) ∷ []) c.loop-k.coded c.loop-k.k _ (omega arith) c.loop-k.invariant.1
          (turn_pair m n _ _ is_bit is_six _ c.code_pair.ensures ∙ ap (λ (x : ℕ). code_bit m x ∷ code_bit m (x + 1) ∷ []) at),
      simp length-set (omega arith),
    )
