use Rattle.std.proofs.Common.{◌≡◌, ℕ, ◌+◌, ◌*◌, ◌<◌, ◌≤◌, List, [], ◌∷◌, ◌++◌, length, drop, Err, sym, ap, ◌∙◌, arith, length-append}
use Rattle.std.proofs.lemmas.Result.{err_from_is_err_and}
use Rattle.std.specs.Iterator.Adapters.{take_source, take_count}
use Rattle.std.specs.Slice.Iter.{chunks_exact_rest, chunks_exact_size}
use Rattle.linecode.specs.Codes.{Code}
use Rattle.codebits.specs.Message.{blocks}
use Rattle.frames.specs.Sent.{block_chips}
use Rattle.header.specs.declared.model.Header.{Header}
use Rattle.trellis.proofs.Frames.{blocks_run}
use Rattle.receiver.specs.Receiver.{Open, octets, block_step}
use Rattle.receiver.specs.Runs.{State, within}
use Rattle.captures.specs.Decoding.{heard_answer, state_of}
use Rattle.captures.proofs.Blocks.{all_good}
use Rattle.captures.proofs.Heard.{heard_none, heard_bad, heard_on, left_on, heard_short, heard_whole}
use Rattle.captures.proofs.decoding.hear.Goals as goal

pub loop-chips-init : goal.loop-chips-init
loop-chips-init g c =
    let k : Code = g.L.LineCode.code c.args.line.now in
    let made : Open → State g.row.K.Denot (within k) = λ o. record { receiver = o; costs = c.args.costs.now; words = c.args.words.now } in
    let chunks = ap take_source c.into_iter-chips-iterator.ensures.into_iter_gives ∙ c.take-chips-items.ensures.source in
    let none : drop (0 * block_chips k) c.args.input.now ≡ c.args.input.now = let z : 0 * block_chips k ≡ 0 = omega arith in ap (λ i. drop i c.args.input.now) z in (
      heard_none g.K.CostKind.kind k c.args.header c.args.costs.now c.args.words.now c.args.input.now _ (ap made c.requires.begun),
      (
        omega (arith, ap take_count c.into_iter-chips-iterator.ensures.into_iter_gives ∙ (c.take-chips-items.ensures.count ∙ (c.block_count-count.ensures.answer ∙ ap blocks c.length.ensures.answer))),
        (
          ap chunks_exact_size chunks ∙ (c.chunks_exact.ensures.size ∙ c.block_chips-size.ensures.answer),
          ap chunks_exact_rest chunks ∙ (c.chunks_exact.ensures.rest ∙ sym none),
        ),
      ),
    )

pub loop-chips-preserved : goal.loop-chips-preserved
loop-chips-preserved g c =
    let kind = g.K.CostKind.kind in
    let k : Code = g.L.LineCode.code c.args.line.now in
    let h : Header = c.args.header in
    let b = length c.loop-chips.yielded in
    let s = state_of k c.loop-chips.frame c.loop-chips.costs c.loop-chips.words in
    let i = c.loop-chips.invariant in
    let step = c.in-Some.ensures.steps in
    let chips = c.in-Some.chips.now in
    let more = chunks_exact_rest (take_source c.next.new.self) in
    let lt : b < blocks (octets h) = omega (arith, i.1.0, step.1) in
    let cut = sym i.1.1.1 ∙ step.0.1.0 in
    let long = step.0.1.1 ∙ i.1.1.0 in
    let r = block_step kind k s.receiver s.costs s.words chips in
    let made : Open → List g.row.K.Denot → List ℕ → State g.row.K.Denot (within k) = λ o cs ws. record { receiver = o; costs = cs; words = ws } in
    let after = ap (λ o. made o c.block.new.costs c.block.new.words) c.block.ensures.state
    ∙ (ap (λ cs. made r.frame cs c.block.new.words) c.block.ensures.costs ∙ ap (made r.frame r.costs) c.block.ensures.words) in
    let on = heard_on kind (blocks_run kind g.met.K.CostKind.lawful) k (g.L.LineCode.lawful c.args.line.now) h c.args.costs.now c.args.words.now c.args.input.now c.requires.memory.0 c.requires.memory.1
    b s i.0 lt chips more cut long (sym c.in_ok-block.ensures.answer) (state_of k c.block.new.self c.block.new.costs c.block.new.words) after in
    let left = left_on kind (blocks_run kind g.met.K.CostKind.lawful) k (g.L.LineCode.lawful c.args.line.now) h c.args.costs.now c.args.words.now c.args.input.now c.requires.memory.0 c.requires.memory.1
    b s i.0 lt chips more cut long in
    let one : length (c.loop-chips.yielded ++ c.in-Some.chips ∷ []) ≡ b + 1 = length-append c.loop-chips.yielded (c.in-Some.chips ∷ []) in
    rw one (on, (omega (arith, i.1.0, step.1), (step.0.0 ∙ i.1.1.0, left)))

pub returns-in_err-block-clause-answer : goal.returns-in_err-block-clause-answer
returns-in_err-block-clause-answer g c =
    let kind = g.K.CostKind.kind in
    let k : Code = g.L.LineCode.code c.args.line.now in
    let h : Header = c.args.header in
    let b = length c.loop-chips.yielded in
    let s = state_of k c.loop-chips.frame c.loop-chips.costs c.loop-chips.words in
    let i = c.loop-chips.invariant in
    let step = c.in-Some.ensures.steps in
    let chips = c.in-Some.chips.now in
    let lt : b < blocks (octets h) = omega (arith, i.1.0, step.1) in
    let p = err_from_is_err_and c.from_residual.result c.from_residual.ensures.1 in
    let refused : (block_step kind k s.receiver s.costs s.words chips).answer ≡ Err p.0 = sym c.in_err-block.ensures.answer ∙ ap Err (sym p.2) in
    let is = heard_bad kind (blocks_run kind g.met.K.CostKind.lawful) k (g.L.LineCode.lawful c.args.line.now) h c.args.costs.now c.args.words.now c.args.input.now c.requires.memory.0 c.requires.memory.1
    b s i.0 lt chips (chunks_exact_rest (take_source c.next.new.self)) (sym i.1.1.1 ∙ step.0.1.0) (step.0.1.1 ∙ i.1.1.0) p.0 refused in
    p.1 ∙ ap heard_answer (sym is)

pub returns-then-input-count-clause-answer : goal.returns-then-input-count-clause-answer
returns-then-input-count-clause-answer g c =
    let kind = g.K.CostKind.kind in
    let k : Code = g.L.LineCode.code c.args.line.now in
    let h : Header = c.args.header in
    let i = c.loop-chips.invariant in
    let few : length c.args.input.now < blocks (octets h) * block_chips k = let n = c.block_count-count.ensures.answer ∙ ap blocks c.length.ensures.answer in let m = c.block_chips-size.ensures.answer in rw (n, m) at c.if-input-count.true in
    let stop : 0 < take_count c.loop-chips.chips-iterator → length (drop (length c.loop-chips.yielded * block_chips k) c.args.input.now) < block_chips k = λ p. let q = (c.in-None.ensures.steps p).1.0 in rw (i.1.1.1, i.1.1.0) at q in
    let is = heard_short kind (blocks_run kind g.met.K.CostKind.lawful) k (g.L.LineCode.lawful c.args.line.now) h c.args.costs.now c.args.words.now c.args.input.now c.requires.memory.0 c.requires.memory.1
    (length c.loop-chips.yielded) (take_count c.loop-chips.chips-iterator) _ i.0 i.1.0 stop few in
    ap Err c.refusal.ensures.answer ∙ ap heard_answer (sym is)

pub returns : goal.returns
returns g c =
    let kind = g.K.CostKind.kind in
    let k : Code = g.L.LineCode.code c.args.line.now in
    let h : Header = c.args.header in
    let i = c.loop-chips.invariant in
    let enough : blocks (octets h) * block_chips k ≤ length c.args.input.now = let n = c.block_count-count.ensures.answer ∙ ap blocks c.length.ensures.answer in let m = c.block_chips-size.ensures.answer in rw (n, m) at c.if-input-count.false in
    let stop : 0 < take_count c.loop-chips.chips-iterator → length (drop (length c.loop-chips.yielded * block_chips k) c.args.input.now) < block_chips k = λ p. let q = (c.in-None.ensures.steps p).1.0 in rw (i.1.1.1, i.1.1.0) at q in
    let whole = heard_whole kind (blocks_run kind g.met.K.CostKind.lawful) k (g.L.LineCode.lawful c.args.line.now) h c.args.costs.now c.args.words.now c.args.input.now c.requires.memory.0 c.requires.memory.1
    (length c.loop-chips.yielded) (take_count c.loop-chips.chips-iterator) _ i.0 i.1.0 stop enough in
    record {
      answer = ap heard_answer (sym (all_good (block_chips k) (blocks (octets h)) c.args.input.now whole.good));
      state = λ _. whole;
    }
