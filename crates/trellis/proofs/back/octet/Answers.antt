-- The bits of an octet, its last bit first.
use Rattle.std.proofs.Common.{◌≡◌, ℕ, ◌+◌, ◌-◌, ◌*◌, ◌^◌, ◌<◌, ◌≤◌, Bool, List, length, get_or, take, drop, refl, arith, pow_mono}
use Rattle.std.proofs.lemmas.Iterator.Adapters.{YieldsList-from_rev_slice}
use Rattle.std.proofs.lemmas.Iterator.Consumers.{YieldsList-turn, YieldsList-end}
use Rattle.std.proofs.lemmas.List.{length_push}
use Rattle.codebits.specs.Bits.{number_at}
use Rattle.codebits.specs.Message.{octet_of}
use Rattle.codebits.proofs.Numbers.{number_below}
use Rattle.trellis.proofs.Going.{comes_none, comes_read, bits_read, behind, behind_length}
use Rattle.trellis.proofs.back.octet.Goals as goal

pub loop-word-init : goal.loop-word-init
unfolding number_at
loop-word-init c =
    let none : 8 * c.args.i + 8 - 0 ≡ 8 * c.args.i + 8 = omega arith in
    (omega arith, refl, rw none (comes_none c.args.words.now (8 * c.args.i + 8) c.args.state.number c.args.state.small))

-- seven bits or fewer leave room for one more
room : (words : List ℕ) (i m w : ℕ) (bits : ℕ → Bool) (k v : ℕ) → 8 * i + 8 ≤ length words →
    (m < length (behind words (8 * i) (8 * i + 8))) × (w ≡ get_or (behind words (8 * i) (8 * i + 8)) m w) → v ≡ number_at bits k m → v < 2 ^ 7
room words i m w bits k v long turn e =
    let le : m ≤ 7 = omega (arith, turn.0, behind_length words (8 * i) (8 * i + 8) long) in
    omega (arith, number_below bits k m, e, pow_mono le)

pub overflow_mul-value : goal.overflow_mul-value
overflow_mul-value c =
    let part = take (8 * c.args.i + 8 - 8 * c.args.i) (drop (8 * c.args.i) c.args.words.now) in
    let turn = YieldsList-turn (YieldsList-from_rev_slice part cc) c.loop-word.yielded _ c.loop-word.yielded_by _ _ c.in-Some.word c.in-Some.is c.next.ensures.steps in
    omega (arith, room c.args.words.now c.args.i (length c.loop-word.yielded) c.in-Some.word.now _ _ c.loop-word.value c.requires turn c.loop-word.invariant.1)

pub overflow_add-value : goal.overflow_add-value
overflow_add-value c =
    let part = take (8 * c.args.i + 8 - 8 * c.args.i) (drop (8 * c.args.i) c.args.words.now) in
    let turn = YieldsList-turn (YieldsList-from_rev_slice part cc) c.loop-word.yielded _ c.loop-word.yielded_by _ _ c.in-Some.word c.in-Some.is c.next.ensures.steps in
    omega (arith, room c.args.words.now c.args.i (length c.loop-word.yielded) c.in-Some.word.now _ _ c.loop-word.value c.requires turn c.loop-word.invariant.1)

pub loop-word-preserved : goal.loop-word-preserved
loop-word-preserved c =
    let words = c.args.words.now in
    let start = 8 * c.args.i in
    let end = 8 * c.args.i + 8 in
    let m = length c.loop-word.yielded in
    let more = length_push c.loop-word.yielded c.in-Some.word in
    let turn = YieldsList-turn (YieldsList-from_rev_slice (take (end - start) (drop start words)) cc) c.loop-word.yielded _ c.loop-word.yielded_by _ _ c.in-Some.word c.in-Some.is c.next.ensures.steps in
    let few : m < end = omega (arith, turn.0, behind_length words start end c.requires) in
    let read = comes_read words end c.args.state.number start m c.loop-word.at.number _ c.in-Some.word.now _ (omega arith) c.requires more turn c.loop-word.invariant.2 c.previous-at.ensures c.previous-at.result.small in
    (read.0, bits_read words end c.args.state.number m c.loop-word.at.number c.loop-word.value _ few more c.loop-word.invariant.2 c.loop-word.invariant.1, read.1)

pub returns : goal.returns
unfolding octet_of
returns c =
    let part = take (8 * c.args.i + 8 - 8 * c.args.i) (drop (8 * c.args.i) c.args.words.now) in
    let t = YieldsList-end (YieldsList-from_rev_slice part cc) c.loop-word.yielded _ c.loop-word.yielded_by _ _ c.in-None.is c.next.ensures.steps in
    let eight : length c.loop-word.yielded ≡ 8 = omega (arith, t.1, behind_length c.args.words.now (8 * c.args.i) (8 * c.args.i + 8) c.requires) in
    let start : 8 * c.args.i + 8 - 8 ≡ 8 * c.args.i = omega arith in
    record { answer = rw (eight, start) at c.loop-word.invariant.1; state = rw (eight, start) at c.loop-word.invariant.2 }
