-- The calls that receive a PSDU as it was sent are all accepted, and return it at a cost of nothing.
-- Assumes nothing.
use Rattle.std.proofs.Common.{◌≡◌, ℕ, zero, suc, ◌+◌, ◌*◌, ◌^◌, ◌<◌, ◌≤◌, List, ◌++◌, length, drop, Ok, Result, refl, ap, ◌∙◌, subst, mul_assoc, arith}
use Rattle.std.proofs.lemmas.List.{take_all}
use Rattle.faults.specs.declared.Fault.{Fault}
use Rattle.faults.specs.declared.Layer.TheVariants.{Frame as FrameLayer}
use Rattle.linecode.specs.Chips.{judged}
use Rattle.linecode.specs.Codes.{Code, Lawful}
use Rattle.linecode.specs.Judging.{judged_good, every_leading}
use Rattle.codebits.specs.Message.{IsPsdu, blocks, message_length}
use Rattle.frames.specs.Sent.{Frame, psdu_bit, spread_groups, block_groups, block_chips, sent_chips}
use Rattle.frames.proofs.Cuts.{sent_cut}
use Rattle.frames.proofs.Parts.{part_ends, groups_binary, groups_length}
use Rattle.frames.proofs.Widths.{groups_few}
use Rattle.costs.specs.Kind.{Kind}
use Rattle.costs.specs.Kinds.{count_kind, graded_kind}
use Rattle.costs.specs.declared.Observation.{Observation}
use Rattle.exact.specs.Mended.{AloneNearest}
use Rattle.header.specs.declared.model.Header.{Header}
use Rattle.nearest.specs.Nearest.{psdu_cost, NearestPsdu}
use Rattle.reading.specs.Frames.{frame_seen}
use Rattle.trellis.specs.Frame.{BlocksRunTheTrellis}
use Rattle.trellis.specs.Memory.{cost_in}
use Rattle.wrecked.specs.Mended.{Unharmed}
use Rattle.wrecked.proofs.Unharmed.{sent_unharmed}
use Rattle.receiver.specs.Receiver.{octets, frame_by, block_step, Closed, close_by, close_step}
use Rattle.receiver.specs.Runs.{listening, within, Calls, after}
use Rattle.receiver.specs.Book.{Entries, chips_of, book}
use Rattle.receiver.specs.Promise.{Returned}
use Rattle.receiver.proofs.Promised.{closes_nearest}
use Rattle.promise.specs.Parts.{page}
use Rattle.promise.specs.Clean.{sent_block, sent_calls, CleanFramesComeBack}
use Rattle.promise.proofs.Parts.{page_chips, next_judged, booked_more, close_passes}

-- the kinds that charge nothing for a clean frame, and return it
abbrev Clean : {C : Type 0} → Kind Observation C → Type 0
Clean kind =
    (f : Frame) (q chips : List ℕ) → Unharmed f q chips → AloneNearest kind (frame_seen f chips) f.octets q × (psdu_cost kind (frame_seen f chips) f.octets q ≡ kind.nothing)

module _ {C : Type 0} (kind : Kind Observation C) (runs : BlocksRunTheTrellis kind) (clean : Clean kind)
    (costs : List C) (words : List ℕ) (earlier : Calls listening) (h : Header) (k : Code) (lawful : Lawful k) (q room : List ℕ)
    (iq : IsPsdu (octets h) q) (hc : 128 ≤ length costs) (hw : message_length (octets h) ≤ length words) (hr : octets h ≤ length room)
  where
    abbrev frame : Frame
    frame = frame_by k h

    abbrev sent : List ℕ
    sent = sent_chips frame q

    abbrev calls : ℕ → Calls (within k)
    calls n = sent_calls earlier h k q n

    whole : length sent ≡ blocks (octets h) * block_chips k
    whole = sent_cut.whole frame q lawful h.most ∙ mul_assoc (blocks (octets h)) (block_groups k) k.chips

    -- each block has its chips
    good : (n : ℕ) → n < blocks (octets h) → judged FrameLayer (block_chips k) (sent_block h k q n) ≡ Ok tt
    good n lt =
        let s = psdu_bit frame q in
        let first = n * block_groups k in
        let is = sent_cut.block frame q lawful h.most n lt in
        let last : first + block_groups k ≤ 2 ^ 32 = omega (arith, part_ends (blocks (octets h)) (block_groups k) n lt, groups_few frame lawful h.most) in
        let chips = spread_groups k s first (block_groups k) in
        let long = groups_length k s lawful first (block_groups k) last in
        ap (judged FrameLayer (block_chips k)) is
        ∙ judged_good FrameLayer (block_chips k) chips long (every_leading chips (λ i li. groups_binary k s lawful first (block_groups k) last i (omega (arith, long))) ∙ long)

    booked : (n : ℕ) → n ≤ blocks (octets h) → book (length costs) (length words) (calls n) ≡ page h k sent n
    booked zero le = refl
    booked (suc n) le = booked_more kind runs k lawful costs words earlier h sent hc hw n (booked n (omega arith)) (omega arith) (good n (omega arith))

    pub blocks_accepted : (n : ℕ) → n < blocks (octets h) →
        let s = after kind costs words (calls n) in (block_step kind k s.receiver s.costs s.words (sent_block h k q n)).answer ≡ Ok tt
    blocks_accepted n lt = next_judged kind runs k lawful costs words earlier h sent hc hw n (booked n (omega arith)) lt ∙ good n lt

    -- all blocks: the book has the chips that were sent
    abbrev count : ℕ
    count = blocks (octets h)

    all_chips : chips_of (page h k sent count) ≡ sent
    all_chips = page_chips h k sent count ∙ take_all (count * block_chips k) sent (omega (arith, whole))

    pub closed : let s = after kind costs words (calls count) in
        close_step kind s.receiver s.costs s.words room ≡ record { answer = Ok kind.nothing; psdu = q ++ drop (octets h) room }
    closed =
        let s = after kind costs words (calls count) in
        let first = cost_in kind s.costs 0 0 in
        let r = close_step kind s.receiver s.costs s.words room in
        let judgement = close_passes kind runs k lawful costs words earlier h sent hc hw (length room) hr (booked count (omega arith)) in
        let told : r.answer ≡ Ok first = ap (λ j. (close_by kind s.receiver s.costs s.words room j).answer) judgement in
        let got = closes_nearest kind runs k lawful costs words (calls count) room first told in
        let on_page : Returned kind k (page h k sent count) first room r.psdu = subst (λ (e : Entries). Returned kind k e first room r.psdu) (booked count (omega arith)) got in
        let both = clean frame q sent (sent_unharmed frame lawful q h.most iq) in
        let near = subst (λ (c : List ℕ). NearestPsdu kind (frame_seen frame c) (octets h) on_page.psdu first) all_chips on_page.nearest in
        let same : on_page.psdu ≡ q = both.0.returned on_page.psdu first near in
        let cost : first ≡ kind.nothing = near.cost_told ∙ (ap (psdu_cost kind (frame_seen frame sent) (octets h)) same ∙ both.1) in
        let made : Result C Fault → List ℕ → Closed C = λ x y. record { answer = x; psdu = y } in
        ap (λ x. made x r.psdu) (told ∙ ap Ok cost) ∙ ap (made (Ok kind.nothing)) (on_page.written ∙ ap (λ p. p ++ drop (octets h) room) same)

clean_frames : {C : Type 0} (kind : Kind Observation C) → BlocksRunTheTrellis kind → Clean kind → CleanFramesComeBack kind
clean_frames kind runs clean costs words earlier h k lawful q room iq hc hw hr = record {
  accepted = blocks_accepted kind runs clean costs words earlier h k lawful q room iq hc hw hr;
  closed = closed kind runs clean costs words earlier h k lawful q room iq hc hw hr;
}

pub clean_by_count : BlocksRunTheTrellis count_kind → CleanFramesComeBack count_kind
clean_by_count runs = clean_frames count_kind runs (λ f q chips u. (u.returned.by_count, u.count_nothing))

pub clean_by_graded : BlocksRunTheTrellis graded_kind → CleanFramesComeBack graded_kind
clean_by_graded runs = clean_frames graded_kind runs (λ f q chips u. (u.returned.by_graded, u.graded_nothing))
