-- A turn writes an octet, from the last on.
use Rattle.std.proofs.Common.{◌≡◌, ◌+◌, ◌-◌, ◌*◌, ◌<◌, length, take, sym, ◌∙◌, inl, inr, arith}
use Rattle.std.proofs.lemmas.List.FromFn.{fill_by_all}
use Rattle.std.proofs.lemmas.List.{get_or-set_same, get_or-set_other, get_or-take, drop-set-lt, take-append-drop, length-take-le}
use Rattle.std.proofs.lemmas.Bool.{cases_eq}
use Rattle.codebits.specs.Message.{message_length, octet_of, octets_of}
use Rattle.nearest.specs.Trellis.{traced}
use Rattle.trellis.specs.Trace.{took_by, traced_by, psdu_after, ComesTo}
use Rattle.trellis.proofs.Going.{comes_join, octet_left}
use Rattle.trellis.proofs.trace.Goals as goal

pub loop-i-preserved : goal.loop-i-preserved
loop-i-preserved c =
    let words = c.args.words.now in
    let n = message_length c.args.octets in
    let i = c.loop-i.i - 1 in
    let psdu = c.loop-i.psdu in
    let value = c.octet.result.0 in
    let end : 8 * c.loop-i.i ≡ 8 * i + 8 = omega arith in
    let inside : i < length psdu = omega arith in
    let below : i < c.args.octets = omega arith in
    let comes : ComesTo words n 0 (8 * i + 8) c.loop-i.state.number = rw end at c.loop-i.invariant.0 in (
      comes_join words n 0 (8 * i + 8) c.loop-i.state.number (8 * i) _ (omega arith) comes c.octet.ensures.state,
      λ t a b. elim (cases_eq t i) [
        | inl e ↦ rw e (get_or-set_same psdu i value 0 inside ∙ octet_left words n 0 i c.loop-i.state.number value comes c.octet.ensures.answer)
        | inr ne ↦ get_or-set_other psdu i t value 0 ne ∙ c.loop-i.invariant.1 t (omega arith) b
      ],
      drop-set-lt c.args.octets psdu i value below ∙ c.loop-i.invariant.2,
    )

pub returns : goal.returns
unfolding psdu_after traced_by octets_of
returns c =
    let octets = c.args.octets in
    let psdu = c.loop-i.psdu in
    let octet = octet_of (traced (took_by c.args.words.now) (message_length octets) 0) in
    let front = fill_by_all octet (take octets psdu) octets 0 (length-take-le octets psdu (omega arith)) (λ k l. get_or-take octets psdu k 0 l ∙ c.loop-i.invariant.1 k (omega arith) l) in
    record { memory = sym (take-append-drop octets psdu) ∙ rw (front, c.loop-i.invariant.2) }
