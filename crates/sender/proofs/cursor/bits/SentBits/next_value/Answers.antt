use Rattle.std.proofs.Common.{◌≡◌, ℕ, ◌+◌, ◌*◌, refl, sym, ap, ◌∙◌, add-zero, arith}
use Rattle.codebits.specs.Bits.{one, number_at}
use Rattle.codebits.proofs.Numbers.{byte_one, number_more}
use Rattle.sender.specs.Sending.{State, sent_stream}
use Rattle.sender.proofs.cursor.bits.SentBits.next_value.Goals as goal

pub loop-i-init : goal.loop-i-init
unfolding number_at
loop-i-init c = (refl, omega arith, sym (add-zero c.args.self.now.place), refl)

pub loop-i-preserved : goal.loop-i-preserved
loop-i-preserved c =
    let s : State = c.args.self.now.cursor.now in
    let p : ℕ = 176 * s.block + c.args.self.now.place in
    let so_far = c.loop-i.invariant in
    let at : 176 * s.block + c.loop-i.self.place ≡ p + c.loop-i.i = omega (arith, so_far.2) in
    let bit : c.next_bit.result ≡ sent_stream s (p + c.loop-i.i)
    = c.next_bit.ensures.bit ∙ (ap (λ r. sent_stream r.now (176 * r.now.block + c.loop-i.self.place)) so_far.3 ∙ ap (sent_stream s) at) in
    let more = number_more 32 (sent_stream s) p c.loop-i.i c.loop-i.value c.from.result so_far.0 so_far.1 (c.from.ensures ∙ (byte_one _ ∙ ap one bit)) (omega arith) in
    (more.0, more.1, omega (arith, c.next_bit.ensures.place, so_far.2), c.next_bit.ensures.cursor ∙ so_far.3)
