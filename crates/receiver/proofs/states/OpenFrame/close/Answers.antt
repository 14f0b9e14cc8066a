use Rattle.std.proofs.Common.{◌≡◌, ◌<◌, length, Ok, sym, ap, ◌∙◌, arith}
use Rattle.std.proofs.lemmas.List.{get_or_read}
use Rattle.trellis.specs.Memory.{cost_in}
use Rattle.trellis.specs.Trace.{psdu_after}
use Rattle.trellis.proofs.Frames.{blocks_run}
use Rattle.receiver.specs.Receiver.{Closed, Open, octets, close_by, close_step}
use Rattle.receiver.proofs.Passing.{closable}
use Rattle.receiver.proofs.Promised.{every_list}
use Rattle.receiver.proofs.states.OpenFrame.close.Goals as goal

pub returns-in-Ok : goal.returns-in-Ok
returns-in-Ok g c =
    let kind = g.K.CostKind.kind in
    let f = c.args.self in
    let costs = c.args.costs.now in
    let words = c.args.words.now in
    let psdu = c.args.psdu.now in
    let judged = sym c.judge_close-judged.ensures ∙ c.in-Ok.is in
    let fine = closable (octets f.header) f.accepted (length costs) (length words) (length psdu) c.in-Ok.field-0 judged in
    let step : close_step kind f costs words psdu ≡ close_by kind f costs words psdu (Ok c.in-Ok.field-0) = ap (close_by kind f costs words psdu) judged in
    let some : 0 < length costs = omega (arith, fine.costs) in
    let first : c.index-costs-0.result ≡ cost_in kind costs 0 0 = get_or_read costs 0 _ some c.index-costs-0.is kind.nothing in
    let told = ap Ok first ∙ sym (ap (λ (b : Closed g.row.K.Denot). b.answer) step) in
    let wrote = c.trace.ensures.memory ∙ (ap (λ n. psdu_after n words psdu) (c.length-octets.ensures.answer ∙ ap (λ (o : Open). octets o.header) c.self.view_is) ∙ sym (ap (λ (b : Closed g.row.K.Denot). b.psdu) step)) in
    record {
      answer = told;
      memory = wrote;
      promise = λ t ok before earlier k lawful cs found.
          every_list kind (blocks_run kind g.met.K.CostKind.lawful) k lawful before earlier cs _ psdu c.trace.new.psdu t found (sym told ∙ ok) wrote;
    }
