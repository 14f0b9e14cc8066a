-- A turn writes the costs of two states and notes their bits.
use Rattle.std.proofs.Common.{◌≡◌, ℕ, suc, ◌+◌, ◌*◌, ◌^◌, ◌<◌, ◌≤◌, List, length, get_or, sym, refl, ap, ◌∙◌, zero-add, arith}
use Rattle.std.proofs.lemmas.List.{get_or_read}
use Rattle.codebits.specs.Bits.{number_at}
use Rattle.nearest.specs.Trellis.{takes, stepped}
use Rattle.codebits.proofs.Numbers.{number_below}
use Rattle.trellis.specs.Memory.{cost_in}
use Rattle.trellis.proofs.Banks.{written_none, written_two}
use Rattle.trellis.proofs.Flies.{chosen, even_zero, even_one, odd_zero, odd_one}
use Rattle.trellis.proofs.Numbered.{pushed_two, one_at, two_at, power_room, cond_le}
use Rattle.trellis.proofs.butterfly.half.Goals.{After-noted-in-loop-i}
use Rattle.trellis.proofs.butterfly.half.Goals as goal

-- what a bank has at a place, read
read : {C : Type 0} (bank : List C) (j : ℕ) (x none : C) → j < length bank → x ≡ get_or bank j x → x ≡ get_or bank (0 + j) none
read bank j x none h is = get_or_read bank j x h is none ∙ sym (ap (λ p. get_or bank p none) (zero-add j))

pub loop-i-init : goal.loop-i-init
unfolding number_at
loop-i-init g c =
    let kind = g.K.CostKind.kind in
    let section = c.args.section in
    let none : 2 * (c.args.base + 0) ≡ 2 * c.args.base = omega arith in (
      rw none (written_none kind.nothing (stepped kind section.first section.second section.free (cost_in kind c.args.from.now 0)) (2 * c.args.base) c.args.to.now),
      refl,
    )

-- the bits of a turn fit
turn : (g : _) (c : After-noted-in-loop-i g) → (c.noted.result ≤ 2 ^ (2 * c.loop-i.i)) × (c.noted-in-loop-i.result ≤ 2 ^ suc (2 * c.loop-i.i))
turn g c = (
  rw (c.noted.ensures, one_at c.loop-i.i c.loop-i-test.true) (cond_le c.choose-zero.result.1 (2 ^ (2 * c.loop-i.i))),
  rw (c.noted-in-loop-i.ensures, two_at c.loop-i.i c.loop-i-test.true) (cond_le c.choose-one.result.1 (2 ^ suc (2 * c.loop-i.i))),
)

pub overflow_add-word : goal.overflow_add-word
overflow_add-word g c = omega (arith, (turn g c).0, (turn g c).1, power_room c.loop-i.i c.loop-i-test.true)

pub overflow_add-word-in-loop-i : goal.overflow_add-word-in-loop-i
overflow_add-word-in-loop-i g c =
    let kind = g.K.CostKind.kind in
    let section = c.args.section in
    let below = number_below (takes kind section.first section.second section.free (cost_in kind c.args.from.now 0)) (2 * c.args.base) (2 * c.loop-i.i) in
    omega (arith, (turn g c).0, (turn g c).1, power_room c.loop-i.i c.loop-i-test.true, c.loop-i.invariant.1, below)

pub loop-i-preserved : goal.loop-i-preserved
loop-i-preserved g c =
    let kind = g.K.CostKind.kind in
    let a = c.args.section.first in
    let b = c.args.section.second in
    let free = c.args.section.free in
    let bank = cost_in kind c.args.from.now 0 in
    let i = c.loop-i.i in
    let base = c.args.base in
    let j = base + i in
    let small : j < 32 = omega arith in
    let low = c.index-from-j.result in
    let high = c.index-from-j-in-loop-i.result in
    let first = c.claims-x.ensures.0 in
    let second = c.claims-x.ensures.1 in
    let at : low ≡ bank j = read c.args.from.now j low kind.nothing (omega arith) c.index-from-j.is in
    let at_32 : high ≡ bank (j + 32) = read c.args.from.now (j + 32) high kind.nothing (omega arith) c.index-from-j-in-loop-i.is in
    let even = chosen kind a b free bank (2 * j) _ _ c.choose-zero.result.0 c.choose-zero.result.1
    (c.charge.ensures ∙ even_zero kind a b free bank j small _ _ first second low high at at_32)
    (c.charge-in-loop-i.ensures ∙ even_one kind a b free bank j small _ _ first second low high at at_32)
    c.choose-zero.ensures.0 c.choose-zero.ensures.1 in
    let odd = chosen kind a b free bank (2 * j + 1) _ _ c.choose-one.result.0 c.choose-one.result.1
    (c.charge-in-loop-i-2.ensures ∙ odd_zero kind a b free bank j small _ _ first second low high at at_32)
    (c.charge-in-loop-i-3.ensures ∙ odd_one kind a b free bank j small _ _ first second low high at at_32)
    c.choose-one.ensures.0 c.choose-one.ensures.1 in
    let written = written_two kind.nothing (stepped kind a b free bank) base i c.choose-zero.result.0 c.choose-one.result.0 c.args.to.now c.loop-i.to (omega arith) c.loop-i.invariant.0 even.1 odd.1 in
    let noted : c.loop-i.word + (c.noted.result + c.noted-in-loop-i.result) ≡ number_at (takes kind a b free bank) (2 * base) (2 * (i + 1))
    = pushed_two (takes kind a b free bank) base i c.loop-i.word _ _ c.noted.result c.noted-in-loop-i.result c.loop-i-test.true c.loop-i.invariant.1 even.0 odd.0 c.noted.ensures c.noted-in-loop-i.ensures in
    (written, noted)
