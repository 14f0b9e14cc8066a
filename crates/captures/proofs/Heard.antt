-- The calls that hand section 3 to a receiver: what they leave, and what the close then returns.
-- Assumes nothing.
use Rattle.std.proofs.Common.{◌≡◌, ℕ, zero, suc, ◌+◌, ◌*◌, ◌<◌, ◌≤◌, List, ◌++◌, length, take, drop, Ok, Err, Result, sym, refl, ap, ◌∙◌, subst, add-mul, add-one, arith, length-append, length-drop}
use Rattle.std.proofs.lemmas.List.FromFn.{length-map-range_with_len}
use Rattle.std.proofs.lemmas.List.{take_at, drop_at, drop-drop}
use Rattle.faults.specs.declared.Fault.{Fault}
use Rattle.faults.specs.declared.FaultKind.TheVariants.{Section}
use Rattle.faults.specs.declared.Layer.TheVariants.{Frame as FrameLayer}
use Rattle.linecode.specs.Chips.{judged, part}
use Rattle.linecode.specs.Codes.{Code, Lawful}
use Rattle.codebits.specs.Message.{blocks, message_length, octets_of}
use Rattle.frames.specs.Sent.{block_chips}
use Rattle.costs.specs.Kind.{Kind}
use Rattle.costs.specs.declared.Observation.{Observation}
use Rattle.header.specs.declared.model.Header.{Header}
use Rattle.nearest.specs.Path.{traced_psdu}
use Rattle.reading.specs.Frames.{frame_seen}
use Rattle.trellis.specs.Frame.{Holds, BlocksRunTheTrellis}
use Rattle.trellis.specs.Memory.{cost_in}
use Rattle.trellis.specs.Trace.{traced_by, psdu_after}
use Rattle.receiver.specs.Receiver.{octets, frame_by, begun, block_step, close_by, close_step}
use Rattle.receiver.specs.Runs.{within, start, State, after, after_block}
use Rattle.receiver.specs.Book.{Entries, chips_of}
use Rattle.receiver.proofs.Agreeing.{Agrees}
use Rattle.receiver.proofs.Promised.{agrees}
use Rattle.promise.specs.Parts.{part_calls, page}
use Rattle.promise.proofs.Parts.{page_count, page_chips, next_judged, booked_more, close_passes}
use Rattle.captures.specs.Sections.{bind, refuse}
use Rattle.captures.specs.Decoding.{Heard, chips_for, decided_by, decoded, told}
use Rattle.captures.specs.Chips.{Good}
use Rattle.captures.proofs.Blocks.{good_none, good_fits, all_good, good_more, short, bad}

pub heard_none : {C : Type 0} (kind : Kind Observation C) (k : Code) (h : Header) (costs : List C) (words input : List ℕ) (s : State C (within k)) →
    s ≡ record { receiver = begun h; costs = costs; words = words } → Heard kind k h costs words input 0 s
heard_none kind k h costs words input s e = record { state = e; good = good_none (block_chips k) input; booked = refl }

module _ {C : Type 0} (kind : Kind Observation C) (runs : BlocksRunTheTrellis kind) (k : Code) (lawful : Lawful k)
    (h : Header) (costs : List C) (words input : List ℕ) (hc : 128 ≤ length costs) (hw : message_length (octets h) ≤ length words)
  where
    abbrev size : ℕ
    size = block_chips k

    abbrev HeardOf : ℕ → State C (within k) → Type 0
    HeardOf = Heard kind k h costs words input

    abbrev count : ℕ
    count = blocks (octets h)

    -- the next block is judged by its chips alone
    module _ (b : ℕ) (s : State C (within k)) (heard : HeardOf b s) (lt : b < count) where
      abbrev chips : List ℕ
      chips = part size input b

      judged_next : (block_step kind k s.receiver s.costs s.words chips).answer ≡ judged FrameLayer size chips
      judged_next =
          ap (λ (t : State C (within k)). (block_step kind k t.receiver t.costs t.words chips).answer) heard.state
          ∙ next_judged kind runs k lawful costs words start h input hc hw b heard.booked lt

      -- as the loop meets it: a whole block is cut from what is left
      module _ (cs more : List ℕ) (cut : drop (b * size) input ≡ cs ++ more) (long : length cs ≡ size) where
        chips_are : chips ≡ cs
        chips_are = ap (take size) cut ∙ take_at cs more size long

        fits : size ≤ length (drop (b * size) input)
        fits = let whole = ap length cut ∙ length-append cs more in omega (arith, long)

        judged_as : (j : Result (Unit {0}) Fault) → (block_step kind k s.receiver s.costs s.words cs).answer ≡ j → judged FrameLayer size chips ≡ j
        judged_as j e = sym judged_next ∙ (ap (λ x. (block_step kind k s.receiver s.costs s.words x).answer) chips_are ∙ e)

        pub heard_bad : (x : Fault) → (block_step kind k s.receiver s.costs s.words cs).answer ≡ Err x → chips_for (frame_by k h) input ≡ Err x
        heard_bad x e = bad size b input heard.good count lt fits x (judged_as (Err x) e)

        pub heard_on : (block_step kind k s.receiver s.costs s.words cs).answer ≡ Ok tt → (t : State C (within k)) → t ≡ after_block kind k s cs → HeardOf (b + 1) t
        heard_on ok t e =
            let good = judged_as (Ok tt) ok in
            record {
              state = rw add-one (e ∙ (ap (after_block kind k s) (sym chips_are) ∙ ap (λ (x : State C (within k)). after_block kind k x chips) heard.state));
              good = good_more size b input heard.good count lt fits tt good;
              booked = rw add-one (booked_more kind runs k lawful costs words start h input hc hw b heard.booked lt good);
            }

        pub left_on : more ≡ drop ((b + 1) * size) input
        left_on =
            sym (drop_at cs more size long) ∙ (ap (drop size) (sym cut) ∙ (drop-drop size (b * size) input
            ∙ ap (λ i. drop i input) (let z : b * size + size ≡ b * size + 1 * size = omega arith in z ∙ sym (add-mul b 1 size))))

    -- the loop ends: `left` blocks are lacking, and where there are some, less than one is left
    pub heard_short : (b left : ℕ) (s : State C (within k)) → HeardOf b s → b + left ≡ count → (0 < left → length (drop (b * size) input) < size) →
        length input < count * size → chips_for (frame_by k h) input ≡ refuse Section 3
    heard_short b zero s heard all stop few = let same : b ≡ count = omega (arith, all) in let most = good_fits size count input (subst (λ (n : ℕ). Good size n input) same heard.good) in absurd (omega (arith, few))
    heard_short b (suc m) s heard all stop few = short size b input heard.good count (omega (arith, all)) (stop (omega arith))

    pub heard_whole : (b left : ℕ) (s : State C (within k)) → HeardOf b s → b + left ≡ count → (0 < left → length (drop (b * size) input) < size) →
        count * size ≤ length input → HeardOf count s
    heard_whole b zero s heard all stop enough = let same : b ≡ count = omega (arith, all) in subst (λ (n : ℕ). HeardOf n s) same heard
    heard_whole b (suc m) s heard all stop enough =
        let few = stop (omega arith) in
        let left = length-drop (b * size) input in
        let cut = ap (λ i. i * size) (sym all) ∙ (add-mul b (suc m) size) in
        let one = add-mul 1 m size in
        absurd (omega (arith, few, enough))

    -- all blocks
    module _ (s : State C (within k)) (heard : HeardOf count s) (room : List ℕ) (hr : octets h ≤ length room) where
      abbrev seen : ℕ → Observation
      seen = frame_seen (frame_by k h) (take (count * size) input)

      abbrev last : State C (within k)
      last = after kind costs words (part_calls start h k input count)

      agreed : Agrees kind k last.receiver last.costs last.words (page h k input count)
      agreed = subst (λ (e : Entries). Agrees kind k last.receiver last.costs last.words e) heard.booked (agrees kind runs k lawful costs words (part_calls start h k input count))

      held : Holds kind seen (octets h) count last.costs last.words
      held =
          subst (λ (x : List ℕ). Holds kind (frame_seen (frame_by k h) x) (octets h) count last.costs last.words) (page_chips h k input count)
          (subst (λ (n : ℕ). Holds kind (frame_seen (frame_by k h) (chips_of (page h k input count))) (octets h) n last.costs last.words) (page_count h k input count) agreed.holds)

      traced_long : (w : List ℕ) → length (traced_by (octets h) w) ≡ octets h
      unfolding traced_by octets_of
      traced_long w = length-map-range_with_len _ 0 (octets h)

      pub closed : let r = close_step kind s.receiver s.costs s.words room in
          told (octets h) r.answer r.psdu ≡ decoded kind (frame_by k h) input
      unfolding psdu_after
      closed =
          let L = octets h in
          let is : octets last.receiver.header ≡ L = ap octets agreed.header in
          let judgement = close_passes kind runs k lawful costs words start h input hc hw (length room) hr heard.booked in
          let both = runs.traces seen L last.costs last.words held in
          let pair : C → List ℕ → Result (C × List ℕ) Fault = λ x y. Ok (x, y) in
          let chips = all_good size count input heard.good in
          ap (λ (t : State C (within k)). let r = close_step kind t.receiver t.costs t.words room in told L r.answer r.psdu) heard.state
          ∙ (ap (λ j. let r = close_by kind last.receiver last.costs last.words room j in told L r.answer r.psdu) judgement
          ∙ (ap (λ n. pair (cost_in kind last.costs 0 0) (take L (traced_by n last.words ++ drop n room))) is
          ∙ (ap (pair (cost_in kind last.costs 0 0)) (take_at (traced_by L last.words) (drop L room) L (traced_long last.words) ∙ both.0)
          ∙ (ap (λ x. pair x (traced_psdu kind seen L)) both.1
          ∙ ap (λ (x : Result (List ℕ) Fault). bind x (decided_by kind (frame_by k h))) (sym chips)))))
