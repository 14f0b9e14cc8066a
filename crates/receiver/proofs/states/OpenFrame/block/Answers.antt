use Rattle.std.proofs.Common.{◌≡◌, ◌+◌, map, Ok, sym, ap, ◌∙◌, rules}
use Rattle.std.specs.List.{range_with_len}
use Rattle.costs.specs.declared.Observation.{Observation}
use Rattle.reading.specs.Reading.{block_seen, read_answer}
use Rattle.trellis.specs.Block.{costs_after, words_after}
use Rattle.receiver.specs.Receiver.{Blocked, Open, octets, position, shown}
use Rattle.receiver.specs.Inside.{open_of}
use Rattle.receiver.proofs.Steps.{accepted_step}
use Rattle.receiver.proofs.states.OpenFrame.block.Goals as goal

pub returns : goal.returns
returns g c =
    let k = g.L.LineCode.code c.args.line.now in
    let f = c.args.self.now in
    let i : Open = open_of c.self.inside in
    let same : i ≡ f = c.self.view_is in
    let costs = c.args.costs.now in
    let words = c.args.words.now in
    let chips = c.args.chips.now in
    let room = sym c.judge_room.ensures ∙ c.in_ok-judge_room.was in
    let read : read_answer k (position k f) chips ≡ Ok c.in_ok-last.last
    = ap (λ (o : Open). read_answer k (position k o) chips) (sym same) ∙ (sym c.read_block.ensures.answer ∙ c.in_ok-last.was) in
    let both = accepted_step g.K.CostKind.kind k f costs words chips _ room c.in_ok-last.last read in
    let step = both.0 in
    let made : Open → Observation → Open = λ o x. record { header = o.header; accepted = o.accepted + 1; last = x } in
    let seen : c.read_block.new.observed ≡ shown k f chips =
    c.in_ok-last.ensures.memory
    ∙ (ap (λ d. map (block_seen k d i.last (position k i) chips) (range_with_len 0 176)) c.differential-differential.ensures.answer
    ∙ ap (λ (o : Open). shown k o chips) same) in
    let L = c.length-octets.ensures.answer ∙ ap (λ (o : Open). octets o.header) same in
    let at = ap (λ (o : Open). o.accepted) same in
    record {
      answer = sym (ap (λ (b : Blocked g.row.K.Denot). b.answer) step);
      state = ap (λ (o : Open). made o c.in_ok-last.last) same ∙ (ap (made f) both.1 ∙ sym (ap (λ (b : Blocked g.row.K.Denot). b.frame) step));
      costs = c.run_block.ensures.memory.0 ∙ (ap (λ n. costs_after g.K.CostKind.kind c.read_block.new.observed n i.accepted costs) L ∙ (ap (λ b. costs_after g.K.CostKind.kind c.read_block.new.observed (octets f.header) b costs) at) ∙ (ap (λ os. costs_after g.K.CostKind.kind os (octets f.header) f.accepted costs) seen ∙ sym (ap (λ (b : Blocked g.row.K.Denot). b.costs) step)));
      words = c.run_block.ensures.memory.1 ∙ (ap (λ n. words_after g.K.CostKind.kind c.read_block.new.observed n i.accepted costs words) L ∙ (ap (λ b. words_after g.K.CostKind.kind c.read_block.new.observed (octets f.header) b costs words) at) ∙ (ap (λ os. words_after g.K.CostKind.kind os (octets f.header) f.accepted costs words) seen ∙ sym (ap (λ (b : Blocked g.row.K.Denot). b.words) step)));
      room = search rules;
    }
