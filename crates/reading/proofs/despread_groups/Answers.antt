use Rattle.std.proofs.Common.{◌≡◌, ℕ, ◌<◌, false, ◌≢◌, length, Ok, Err, sym, ◌∙◌, arith, get_or-set_other, get_or-set_same, below_more}
use Rattle.std.proofs.lemmas.List.FromFn.{fill_by_all}
use Rattle.frames.specs.Heard.{heard}
use Rattle.reading.proofs.Cuts.{whole_good, group_read}
use Rattle.reading.proofs.despread_groups.Goals as goal

pub returns-in_err-value : goal.returns-in_err-value
returns-in_err-value g c =
    let k = g.L.LineCode.code c.args.line.now in
    let read = group_read k c.args.first (length c.args.values.now) c.chips_per_group-count.result c.args.chips.now
    c.chips_per_group-count.ensures _ (sym c.judge.ensures ∙ c.in_ok-judge.was) c.loop-j.j c.loop-j-test.true in
    let clash : Err c.in_err-value.field-0.0 ≡ Ok (heard k c.args.first c.args.chips.now c.loop-j.j) =
    sym c.in_err-value.was ∙ c.despread.ensures.answer ∙ read in
    let z : ◌≡◌ {A = ℕ} 0 1 = cc clash in
    absurd (omega arith)

pub loop-j-preserved : goal.loop-j-preserved
loop-j-preserved g c =
    let k = g.L.LineCode.code c.args.line.now in
    let vs = c.loop-j.values in
    let j = c.loop-j.j in
    let read = group_read k c.args.first (length c.args.values.now) c.chips_per_group-count.result c.args.chips.now
    c.chips_per_group-count.ensures _ (sym c.judge.ensures ∙ c.in_ok-judge.was) j c.loop-j-test.true in
    let same : Ok c.in_ok-value.field-0 ≡ Ok (heard k c.args.first c.args.chips.now j) =
    sym c.in_ok-value.was ∙ c.despread.ensures.answer ∙ read in
    let here : c.in_ok-value.field-0 ≡ heard k c.args.first c.args.chips.now j = cc same in
    let lt : j < length vs = omega arith in
    below_more _ _
    (λ i h. let ne : i ≢ j = omega arith in rw get_or-set_other (c.loop-j.invariant i h))
    (rw get_or-set_same here)

pub returns : goal.returns
returns g c =
    let k = g.L.LineCode.code c.args.line.now in
    let m = length c.args.values.now in
    record {
      answer = whole_good k c.args.first m c.chips_per_group-count.result c.args.chips.now c.chips_per_group-count.ensures _ (sym c.judge.ensures ∙ c.in_ok-judge.was);
      memory = fill_by_all (heard k c.args.first c.args.chips.now) c.loop-j.values m (0, false) c.loop-j.auto.values (λ i h. c.loop-j.invariant i (omega arith));
    }
