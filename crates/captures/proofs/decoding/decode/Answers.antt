use Rattle.std.proofs.Common.{◌≡◌, ◌≤◌, length, Option, Result, ap, ◌∙◌, arith, rules}
use Rattle.faults.specs.declared.Fault.{Fault}
use Rattle.linecode.specs.Codes.{Code}
use Rattle.bands.specs.Lines.{line_code, line_lawful}
use Rattle.frames.specs.Sent.{Frame}
use Rattle.header.specs.View.{view}
use Rattle.header.specs.declared.model.Header.{Header}
use Rattle.trellis.proofs.Frames.{blocks_run}
use Rattle.receiver.specs.Receiver.{octets, differential, frame_by, close_step}
use Rattle.captures.specs.Captures.{code_or, frame_after}
use Rattle.captures.specs.Decoding.{state_of, decoded, told}
use Rattle.captures.proofs.Heard.{closed}
use Rattle.captures.proofs.decoding.decode.Goals as goal

pub returns-in-Ok : goal.returns-in-Ok
returns-in-Ok g c =
    let kind = g.K.CostKind.kind in
    let k : Code = line_code c.line-line.result in
    let h : Header = c.args.header in
    let input = c.args.input.now in
    let room = c.args.psdu.now in
    let s = state_of k c.hear.new.frame c.hear.new.costs c.hear.new.words in
    let heard = c.hear.ensures.state c.in-Ok.is in
    let short : octets h ≤ length room = omega (arith, c.requires.short, c.fits-psdu) in
    let is = closed kind (blocks_run kind g.met.K.CostKind.lawful) k (line_lawful c.line-line.result) h _ _ input (search rules) (omega (arith, c.requires.short)) s heard room short in
    let by_header : frame_by k h ≡ frame_after (view h) = let made : Option Code → Frame = λ o. record { code = code_or o; differential = differential h; last = (view h).last; octets = octets h } in ap made c.line-line.ensures.answer in
    let r = close_step kind s.receiver s.costs s.words room in
    record { answer = ap (λ (x : Result g.row.K.Denot Fault). told (octets h) x c.close-cost.new.psdu) c.close-cost.ensures.answer ∙ (ap (told (octets h) r.answer) c.close-cost.ensures.memory ∙ (is ∙ ap (λ f. decoded kind f input) by_header)) }
