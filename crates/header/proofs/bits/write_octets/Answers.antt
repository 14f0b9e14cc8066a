use Rattle.std.proofs.Common.{◌≡◌, ℕ, ◌+◌, ◌-◌, ◌*◌, ◌<◌, ◌≤◌, false, not, List, length, take, drop, sym, refl, ap, ◌∙◌, mul_comm, zero-add, arith, rules}
use mathlib.Core.Bool.{beq}
use Rattle.std.proofs.lemmas.List.{length-take, length-drop}
use Rattle.linecode.specs.Codes.{Code}
use Rattle.codebits.specs.Bits.{one, previous}
use Rattle.codebits.proofs.Numbers.{byte_one}
use Rattle.frames.specs.Sent.{group_value, spread_groups}
use Rattle.frames.proofs.Parts.{part_ends}
use Rattle.frames.proofs.Writes.{word_is, words_none, words_more, words_all}
use Rattle.header.specs.Headers.{octet_stream, octet_chips, last_encoded}
use Rattle.header.proofs.Singles.{value_one, bit_fits, bit_next, before_next}
use Rattle.header.proofs.bits.write_octets.Goals as goal

pub loop-j-init : goal.loop-j-init
loop-j-init g c = (words_none _ _ 0 c.chips_per_group-n.result c.args.chips.now, refl)

-- the part of group j ends within m groups of n chips
ends : (n k m j room : ℕ) → n ≡ k → room ≡ m * k → j < m → n * j + n ≤ room
ends n k m j room e r h = omega (arith, part_ends m k j h, mul_comm n j, ap (λ (x : ℕ). j * x) e)

pub slice_bounds-spread-end : goal.slice_bounds-spread-end
slice_bounds-spread-end g c =
    let within : c.chips_per_group-n.result * c.loop-j.j + c.chips_per_group-n.result ≤ length c.args.chips.now
    = ends _ _ (8 * length c.args.octets.now) c.loop-j.j _ c.chips_per_group-n.ensures c.requires.room (omega arith) in
    search rules

pub loop-j-preserved : goal.loop-j-preserved
loop-j-preserved g c =
    let k : Code = g.L.LineCode.code c.args.line.now in
    let os : List ℕ = c.args.octets.now in
    let n : ℕ = c.chips_per_group-n.result in
    let j : ℕ = c.loop-j.j in
    let within : n * j + n ≤ length c.args.chips.now = ends _ _ (8 * length os) j _ c.chips_per_group-n.ensures c.requires.room (omega arith) in
    let bit : not (beq c.message_bit.result c.loop-j.last) ≡ octet_stream os j = ap (λ b. not (beq b c.loop-j.last)) c.message_bit.ensures.answer ∙ bit_next os j c.loop-j.last c.loop-j.invariant.1 in
    let value : c.from.result ≡ one (octet_stream os j) = c.from.ensures ∙ (byte_one _ ∙ ap one bit) in
    let slice : List ℕ = take (n * j + n - n * j) (drop (n * j) c.loop-j.chips) in
    let long : length slice ≡ n = simp (length-take, length-drop) (omega arith) in
    let word : c.spread.new.chips ≡ k.word j c.from.result
    = word_is k j c.from.result slice c.spread.new.chips (long ∙ c.chips_per_group-n.ensures) (rw value (bit_fits k c.requires.single (octet_stream os j))) c.spread.ensures.memory in
    let group : k.word j c.from.result ≡ k.word (0 + j) (group_value k (octet_stream os) (0 + j))
    = ap (k.word j) (value ∙ sym (value_one k c.requires.single (octet_stream os) j)) ∙ ap (λ (x : ℕ). k.word x (group_value k (octet_stream os) x)) (sym (zero-add j)) in (
      words_more k (octet_stream os) 0 n c.loop-j.chips j _ c.spread.new.chips (word ∙ group) (c.spread.auto.chips ∙ long) (omega arith) c.loop-j.invariant.0,
      bit ∙ sym (before_next (octet_stream os) j),
    )

pub returns : goal.returns
unfolding octet_chips last_encoded
returns g c =
    let k : Code = g.L.LineCode.code c.args.line.now in
    let os : List ℕ = c.args.octets.now in
    let n : ℕ = c.chips_per_group-n.result in
    let j : ℕ = c.loop-j.j in
    let all : j ≡ 8 * length os = omega arith in
    let whole : length c.loop-j.chips ≤ n * j = omega (arith, c.loop-j.auto.chips, c.requires.room, mul_comm n j, ap (λ (x : ℕ). j * x) c.chips_per_group-n.ensures, ap (λ (x : ℕ). x * k.chips) all) in
    record {
      chips = words_all k (octet_stream os) 0 n c.loop-j.chips j whole c.loop-j.invariant.0 ∙ ap (spread_groups k (octet_stream os) 0) all;
      last = c.loop-j.invariant.1 ∙ ap (previous false (octet_stream os)) all;
    }
