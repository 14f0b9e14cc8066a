use Rattle.std.proofs.Common.{◌≡◌, ℕ, ◌+◌, refl, sym, ap, ◌∙◌, add-zero, arith}
use Rattle.linecode.specs.Codes.{Code}
use Rattle.codebits.specs.Bits.{one, number_at}
use Rattle.codebits.proofs.Numbers.{byte_one, number_more}
use Rattle.header.specs.Reading.{decoded}
use Rattle.header.proofs.bits.HeardBits.next_octet.Goals as goal

pub loop-i-init : goal.loop-i-init
unfolding number_at
loop-i-init g c = (refl, omega arith, sym (add-zero c.args.self.now.place), refl, refl)

pub loop-i-preserved : goal.loop-i-preserved
loop-i-preserved g c =
    let k : Code = g.L.LineCode.code c.args.self.now.line.now in
    let chips = c.args.self.now.chips.now in
    let p : ℕ = c.args.self.now.place in
    let i : ℕ = c.loop-i.i in
    let so_far = c.loop-i.invariant in
    let bit : c.next_bit.result ≡ decoded k chips (p + i)
    = c.next_bit.ensures.bit
    ∙ (ap (λ r. decoded (g.L.LineCode.code r.now) c.loop-i.self.chips.now c.loop-i.self.place) so_far.3
    ∙ (ap (λ r. decoded k r.now c.loop-i.self.place) so_far.4 ∙ ap (decoded k chips) so_far.2)) in
    let more = number_more 8 (decoded k chips) p i c.loop-i.octet c.from.result so_far.0 so_far.1 (c.from.ensures ∙ (byte_one _ ∙ ap one bit)) (omega arith) in
    (more.0, more.1, omega (arith, c.next_bit.ensures.place, so_far.2), c.next_bit.ensures.line ∙ so_far.3, c.next_bit.ensures.chips ∙ so_far.4)
