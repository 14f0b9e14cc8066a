-- A turn is one step, from the bank that has the latest costs to the other.
use Rattle.std.proofs.Common.{◌≡◌, ◌+◌, ◌*◌, drop, refl, ap, ◌∙◌, append_assoc, sym, arith}
use Rattle.std.proofs.lemmas.List.{drop-drop}
use Rattle.trellis.specs.Block.{start_of, costs_after}
use Rattle.trellis.specs.Memory.{cost_in, observed_at}
use Rattle.trellis.proofs.Banks.{Alike, starts_in_front}
use Rattle.trellis.proofs.Running.{Running, running_none, running_more, running_costs, running_words}
use Rattle.trellis.proofs.steps.run.Goals.{then-k-eq0, else-k-eq0}
use Rattle.trellis.proofs.steps.run.Goals as goal

pub loop-k-init : goal.loop-k-init
loop-k-init g c =
    let kind = g.K.CostKind.kind in
    let old = c.args.costs.now in
    let block = c.args.block in
    let begun : Alike (cost_in kind c.begin.new.one 0) (start_of kind block old) =
    λ s h. c.begin.ensures s (omega arith) ∙ (ap (λ l. start_of kind block l s) c.split_at_mut-one.ensures.front ∙ starts_in_front kind block old s h) in (
      λ p. running_none kind (observed_at c.args.observed.now) (8 * c.args.octets) (88 * block) (start_of kind block old) c.begin.new.one c.split_at_mut-two.result.0.now c.args.words.now (omega arith) (omega arith) begun,
      λ p. absurd (omega arith),
    )

pub loop-k-preserved : goal.loop-k-preserved
loop-k-preserved g c =
    let kind = g.K.CostKind.kind in
    let observed = observed_at c.args.observed.now in
    let e = 8 * c.args.octets in
    let first = 88 * c.args.block in
    let start = start_of kind c.args.block c.args.costs.now in
    let k = c.loop-k.k in
    elim c.if-k-eq0.branch [
      | then-k-eq0 w ↦ (
        λ p. absurd (omega (arith, w.if-k-eq0.true)),
        λ p. rw w.one-is (running_more kind observed e first start k c.loop-k.one c.loop-k.two c.loop-k.words (observed (2 * k)) (observed (2 * k + 1)) c.is_free.result c.if-k-eq0.two c.if-k-eq0.word
            (c.loop-k.invariant.0 w.if-k-eq0.true) refl refl c.is_free.ensures (omega arith) (w.two-is ∙ w.step.ensures.memory) (w.word-is ∙ w.step.ensures.answer)),
      )
      | else-k-eq0 w ↦ (
        λ p. rw w.two-is (running_more kind observed e first start k c.loop-k.two c.loop-k.one c.loop-k.words (observed (2 * k)) (observed (2 * k + 1)) c.is_free.result c.if-k-eq0.one c.if-k-eq0.word
            (c.loop-k.invariant.1 (omega (arith, p))) refl refl c.is_free.ensures (omega arith) (w.one-is ∙ w.step-else-k-eq0.ensures.memory) (w.word-is ∙ w.step-else-k-eq0.ensures.answer)),
        λ p. absurd (omega (arith, w.if-k-eq0.false)),
      )
    ]

pub returns : goal.returns
unfolding costs_after
returns g c =
    let kind = g.K.CostKind.kind in
    let observed = observed_at c.args.observed.now in
    let e = 8 * c.args.octets in
    let first = 88 * c.args.block in
    let start = start_of kind c.args.block c.args.costs.now in
    let all : c.loop-k.k ≡ 88 = omega arith in
    let end : Running kind observed e first start 88 c.loop-k.one c.loop-k.two c.loop-k.words = rw all at c.loop-k.invariant.0 (omega arith) in
    let rest = c.split_at_mut-two.result.1.now in
    let behind : rest ≡ drop 128 c.args.costs.now = c.split_at_mut-two.ensures.back ∙ (ap (drop 64) c.split_at_mut-one.ensures.back ∙ drop-drop 64 64 c.args.costs.now) in
    record {
      costs = sym (append_assoc c.loop-k.one c.loop-k.two rest) ∙ rw (running_costs kind observed e first start c.loop-k.one c.loop-k.two c.loop-k.words end, behind) refl;
      words = running_words kind observed e first start c.loop-k.one c.loop-k.two c.loop-k.words end (omega arith);
    }
