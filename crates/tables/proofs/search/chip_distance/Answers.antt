use Rattle.std.proofs.Common.{[], ◌∷◌, length, length-append, arith, rules}
use Rattle.std.proofs.lemmas.Slice.Zip.{zip_turn}
use Rattle.tables.proofs.Distances.{distance_agree, distance_differ}
use Rattle.tables.proofs.search.chip_distance.Goals as goal

pub loop-digit-preserved-then-chip-c : goal.loop-digit-preserved-then-chip-c
loop-digit-preserved-then-chip-c c =
    let word = c.args.word.now in
    let chips = c.args.chips.now in
    let so_far = c.loop-digit.yielded in
    let turn = zip_turn word chips so_far c.into_iter-digit-iterator.result c.loop-digit.digit-iterator c.next.new.self _ (search rules) (search rules) c.loop-digit.yielded_by _ c.in-Some.is c.next.ensures.steps in
    let next = length-append so_far ((c.in-Some.digit, c.in-Some.c) ∷ []) in
    let d = distance_differ word chips (length so_far) _ _ _ _ turn c.chip.ensures next c.if-chip-c.true in
    let before = c.loop-digit.invariant in
    (omega (arith, next, before.0), omega (arith, d, before.1))

pub loop-digit-preserved : goal.loop-digit-preserved
loop-digit-preserved c =
    let word = c.args.word.now in
    let chips = c.args.chips.now in
    let so_far = c.loop-digit.yielded in
    let turn = zip_turn word chips so_far c.into_iter-digit-iterator.result c.loop-digit.digit-iterator c.next.new.self _ (search rules) (search rules) c.loop-digit.yielded_by _ c.in-Some.is c.next.ensures.steps in
    let next = length-append so_far ((c.in-Some.digit, c.in-Some.c) ∷ []) in
    let d = distance_agree word chips (length so_far) _ _ _ _ turn c.chip.ensures next c.if-chip-c.false in
    let before = c.loop-digit.invariant in
    (omega (arith, next, before.0), omega (arith, d, before.1))
