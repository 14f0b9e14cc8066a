use Rattle.std.proofs.Common.{◌≡◌, ℕ, ◌+◌, ◌-◌, ◌*◌, ◌/◌, ◌^◌, ◌<◌, ◌≤◌, List, length, take, drop, sym, ap, ◌∙◌, subst, mul-zero, mul-add, arith}
use Rattle.std.proofs.lemmas.List.{length-take, length-drop}
use Rattle.linecode.specs.Codes.{Code, Lawful}
use Rattle.codebits.specs.Bits.{number_at}
use Rattle.sender.specs.Sending.{State, sent_stream}
use Rattle.frames.proofs.Writes.{word_is, words_none}
use Rattle.sender.proofs.Words.{within, block_word_more}
use Rattle.sender.proofs.cursor.Cursor.write_words.Goals as goal

pub loop-j-init : goal.loop-j-init
loop-j-init g c =
    (words_none _ _ _ c.chips_per_group-n.result c.args.chips.now, c.new-bits.ensures.place ∙ sym (mul-zero c.bits_per_group-g.result), ap (λ r. r.now) c.new-bits.ensures.cursor)

pub loop-j-preserved : goal.loop-j-preserved
loop-j-preserved g c =
    let k : Code = g.L.LineCode.code c.args.line.now in
    let l : Lawful k = g.L.LineCode.lawful c.args.line.now in
    let s : State = c.args.self.now in
    let n : ℕ = c.chips_per_group-n.result in
    let width : ℕ = c.bits_per_group-g.result in
    let j : ℕ = c.loop-j.j in
    let so_far = c.loop-j.invariant in
    let next = c.next_value-value.ensures in
    let value : ℕ = c.next_value-value.result in
    let value_is : value ≡ number_at (sent_stream s) (176 * s.block + width * j) width
    = next.value
    ∙ (ap (λ (t : State). number_at (sent_stream t) (176 * t.block + c.loop-j.bits.place) width) so_far.2
    ∙ ap (λ (p : ℕ). number_at (sent_stream s) (176 * s.block + p) width) so_far.1) in
    let ends : n * j + n ≤ length c.args.chips.now
    = within k l s width n j c.bits_per_group-g.ensures c.chips_per_group-n.ensures c.loop-j-test.true (length c.args.chips.now) c.requires.room in
    let slice : List ℕ = take (n * j + n - n * j) (drop (n * j) c.loop-j.chips) in
    let long : length slice ≡ n = simp (length-take, length-drop) (omega arith) in
    let fits : value < 2 ^ k.bits = subst (λ (b : ℕ). value < 2 ^ b) c.bits_per_group-g.ensures next.fits in
    let word : c.spread.new.chips ≡ k.word (s.block * (176 / width) + j) value
    = word_is k _ value slice c.spread.new.chips (long ∙ c.chips_per_group-n.ensures) fits c.spread.ensures.memory
    ∙ ap (λ (t : State). k.word (t.block * (176 / width) + j) value) c.self.view_is in (
      block_word_more k l s width n j c.bits_per_group-g.ensures c.chips_per_group-n.ensures _ c.loop-j.chips c.spread.new.chips value
          value_is word (c.spread.auto.chips ∙ long) (omega arith) so_far.0,
      omega (arith, next.place, so_far.1, mul-add width j 1),
      ap (λ r. r.now) next.cursor ∙ so_far.2,
    )
