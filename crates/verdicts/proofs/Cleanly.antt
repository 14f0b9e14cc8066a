-- A clean capture is taken apart as it was put together.
-- Assumes nothing.
use Rattle.std.proofs.Common.{◌≡◌, ℕ, ◌*◌, ◌≤◌, true, leb, List, [], ◌∷◌, ◌++◌, length, take, drop, Ok, Result, refl, ap, ◌∙◌, mul_assoc, arith, length-append}
use Rattle.std.specs.List.{prefix_len}
use Rattle.std.proofs.lemmas.List.{take_at, drop_at}
use Rattle.std.proofs.lemmas.Bool.{cond-true, cond-false, le-leb, le-ltb, and_from}
use Rattle.faults.specs.declared.Fault.{Fault}
use Rattle.linecode.specs.Chips.{is_chip}
use Rattle.linecode.specs.Codes.{Lawful}
use Rattle.linecode.specs.Judging.{every_leading}
use Rattle.linecode.specs.Straight.{straight_lawful}
use Rattle.tables.specs.declared.code.TableCode.TheVariants.{Dsss4x1, Dsss16x1k0, Dsss16x1k1, Dsss32x1k0, Dsss32x1k1, Dsss8x4, Dsss16x4, Dsss32x4}
use Rattle.tables.specs.CodeLaws.{code_lawful}
use Rattle.layers.specs.WhiteningLaws.{whitened_lawful}
use Rattle.layers.specs.LayerLaws.{alternating_lawful}
use Rattle.bands.specs.declared.band.Band.{Band}
use Rattle.bands.specs.declared.band.Band.TheVariants.{Mhz780, Mhz868, Mhz915, Mhz2450}
use Rattle.bands.specs.declared.band.RateMode.{RateMode}
use Rattle.bands.specs.declared.band.RateMode.TheVariants.{Mode0, Mode1, Mode2, Mode3}
use Rattle.bands.specs.Modes.{psdu_line, header_code}
use Rattle.codebits.specs.Message.{IsPsdu, blocks}
use Rattle.frames.specs.Sent.{Frame, psdu_bit, block_groups, block_chips, groups, sent_chips}
use Rattle.frames.proofs.Cuts.{sent_cut}
use Rattle.frames.proofs.Parts.{groups_binary, groups_length}
use Rattle.frames.proofs.Widths.{groups_few}
use Rattle.costs.specs.Kind.{Kind}
use Rattle.costs.specs.Kinds.{count_kind, graded_kind}
use Rattle.costs.specs.declared.Observation.{Observation}
use Rattle.costs.specs.TwoKinds.{count_laws, graded_laws}
use Rattle.exact.specs.Mended.{AloneNearest}
use Rattle.header.specs.Phr.{has_mode}
use Rattle.header.specs.Headers.{header_bits, header_length, header_octets, octet_stream, octet_chips, header_chips}
use Rattle.header.specs.Reading.{Fields, read_answer}
use Rattle.header.proofs.Back.{headers_back}
use Rattle.header.proofs.Bands.{octets_long, few_preamble, header_lawful}
use Rattle.nearest.specs.Nearest.{psdu_cost, NearestPsdu}
use Rattle.nearest.specs.Path.{traced_psdu, traced_psdu_cost}
use Rattle.nearest.proofs.Path.{traces_psdu}
use Rattle.reading.specs.Frames.{frame_seen}
use Rattle.wrecked.proofs.Unharmed.{sent_unharmed}
use Rattle.captures.specs.declared.cost.Cost.{Cost}
use Rattle.captures.specs.declared.settings.CostChoice.{CostChoice}
use Rattle.captures.specs.declared.settings.CostChoice.TheVariants.{Count as ByCount, Graded as ByGraded}
use Rattle.captures.specs.Sections.{bind, count_of, settings_of, section_start, whole_of, section_of}
use Rattle.captures.specs.Chips.{good_chips}
use Rattle.captures.specs.Decoding.{chips_for, decided_by, decoded}
use Rattle.captures.specs.Costs.{told_count, told_graded, told_by}
use Rattle.captures.specs.Captures.{longest, code_or, decoded_as, Verdict, psdu_part, frame_part, header_part, verdict_of, lines_of}
use Rattle.captures.proofs.Blocks.{all_good}
use Rattle.captures.proofs.Found.{found}
use Rattle.verdicts.specs.Clean.{count_octets, section_octets, band_letter, cost_letter, fields_sent, frame_sent, clean_capture, no_cost, CleanCapturesComeBack}

-- every line code that a header can name; the two bands of 1000 kchip/s have the same
thousand_lawful : (m : RateMode) → Lawful (code_or (psdu_line Mhz780 m))
thousand_lawful Mode0 = alternating_lawful _ _ (code_lawful Dsss16x1k0) (code_lawful Dsss16x1k1)
thousand_lawful Mode1 = code_lawful Dsss16x4
thousand_lawful Mode2 = whitened_lawful _ (code_lawful Dsss8x4)
thousand_lawful Mode3 = whitened_lawful _ straight_lawful

lawful_of : (b : Band) (m : RateMode) → Lawful (code_or (psdu_line b m))
lawful_of Mhz780 m = thousand_lawful m
lawful_of Mhz915 m = thousand_lawful m
lawful_of Mhz868 Mode0 = whitened_lawful _ (code_lawful Dsss4x1)
lawful_of Mhz868 Mode1 = whitened_lawful _ straight_lawful
lawful_of Mhz868 Mode2 = straight_lawful
lawful_of Mhz868 Mode3 = straight_lawful
lawful_of Mhz2450 Mode0 = alternating_lawful _ _ (code_lawful Dsss32x1k0) (code_lawful Dsss32x1k1)
lawful_of Mhz2450 Mode1 = code_lawful Dsss32x4
lawful_of Mhz2450 Mode2 = code_lawful Dsss16x4
lawful_of Mhz2450 Mode3 = whitened_lawful _ (code_lawful Dsss8x4)

-- the settings are read
settings_back : (b : Band) (c : CostChoice) (rest : List ℕ) → settings_of (section_octets (band_letter b ∷ cost_letter c ∷ []) ++ rest) ≡ Ok (record { band = b; cost = c }, rest)
settings_back Mhz780 ByCount rest = refl
settings_back Mhz780 ByGraded rest = refl
settings_back Mhz868 ByCount rest = refl
settings_back Mhz868 ByGraded rest = refl
settings_back Mhz915 ByCount rest = refl
settings_back Mhz915 ByGraded rest = refl
settings_back Mhz2450 ByCount rest = refl
settings_back Mhz2450 ByGraded rest = refl

-- a count is read
count_back : (n : ℕ) (xs : List ℕ) → count_of (count_octets n ++ xs) ≡ n
count_back n xs = omega arith

start_back : (number n : ℕ) (xs rest : List ℕ) → length xs ≡ n → section_start number n (section_octets xs ++ rest) ≡ Ok (xs ++ rest)
start_back number n xs rest is = found number n (section_octets xs ++ rest) (omega arith) (count_back (length xs) (xs ++ rest) ∙ is)

-- a whole section is read
section_back : (number n : ℕ) (xs rest : List ℕ) → length xs ≡ n → section_of number n (section_octets xs ++ rest) ≡ Ok (xs, rest)
section_back number n xs rest is =
    let pair : List ℕ → List ℕ → Result (List ℕ × List ℕ) Fault = λ x y. Ok (x, y) in
    let long : n ≤ length (xs ++ rest) = omega (arith, length-append xs rest) in
    ap (λ r. bind r (whole_of number n)) (start_back number n xs rest is)
    ∙ (cond-true _ _ _ (le-leb n (length (xs ++ rest)) long)
    ∙ (ap (λ x. pair x (drop n (xs ++ rest))) (take_at xs rest n is) ∙ ap (pair xs) (drop_at xs rest n is)))

header_long : (b : Band) (m : RateMode) (l : ℕ) → length (header_chips b m l) ≡ header_length b
unfolding octet_chips
header_long b m l =
    let os = header_octets b m l in
    let whole : 8 * length os ≡ header_bits b = ap (λ (x : ℕ). 8 * x) (octets_long b m l) in
    let few = few_preamble b in
    groups_length (header_code b) (octet_stream os) (header_lawful b) 0 (8 * length os) (omega arith) ∙ ap (λ (x : ℕ). x * (header_code b).chips) whole

module _ (b : Band) (m : RateMode) (q : List ℕ) (short : length q ≤ 255) (iq : IsPsdu (length q) q) where
  abbrev frame : Frame
  frame = frame_sent b m q

  abbrev lawful : Lawful frame.code
  lawful = lawful_of b m

  abbrev size : ℕ
  size = block_chips frame.code

  abbrev sent : List ℕ
  sent = sent_chips frame q

  within : length q ≤ 2047
  within = omega arith

  sent_long : length sent ≡ blocks (length q) * size
  sent_long = sent_cut.whole frame q lawful within ∙ mul_assoc (blocks (length q)) (block_groups frame.code) frame.code.chips

  all_chips : prefix_len is_chip sent ≡ length sent
  all_chips =
      let few = groups_few frame lawful within in
      let cut = groups_length frame.code (psdu_bit frame q) lawful 0 (groups frame) (omega arith) in
      every_leading sent (λ i h. groups_binary frame.code (psdu_bit frame q) lawful 0 (groups frame) (omega arith) i (omega arith))

  -- section 3 has its chips
  chips_back : (more : List ℕ) → chips_for frame (sent ++ more) ≡ Ok sent
  unfolding good_chips
  chips_back more =
      let front : take (blocks (length q) * size) (sent ++ more) ≡ sent = take_at sent more (blocks (length q) * size) sent_long in
      all_good size (blocks (length q)) (sent ++ more) (ap (prefix_len is_chip) front ∙ (all_chips ∙ sent_long)) ∙ ap Ok front

  -- and they decode to the PSDU, at no cost
  module _ {C : Type 0} (kind : Kind Observation C) (near : NearestPsdu kind (frame_seen frame sent) (length q) (traced_psdu kind (frame_seen frame sent) (length q)) (traced_psdu_cost kind (frame_seen frame sent) (length q)))
      (alone : AloneNearest kind (frame_seen frame sent) (length q) q) (none : psdu_cost kind (frame_seen frame sent) (length q) q ≡ kind.nothing) where
    decided_back : decided_by kind frame sent ≡ Ok (kind.nothing, q)
    decided_back =
        let seen = frame_seen frame sent in
        let L = length q in
        let same : traced_psdu kind seen L ≡ q = alone.returned (traced_psdu kind seen L) (traced_psdu_cost kind seen L) near in
        let cost : traced_psdu_cost kind seen L ≡ kind.nothing = near.cost_told ∙ (ap (psdu_cost kind seen L) same ∙ none) in
        let pair : C → List ℕ → Result (C × List ℕ) Fault = λ x y. Ok (x, y) in
        ap (λ x. pair x (traced_psdu kind seen L)) cost ∙ ap (pair kind.nothing) same

    decoded_back : (more : List ℕ) → decoded kind frame (sent ++ more) ≡ Ok (kind.nothing, q)
    decoded_back more = ap (λ r. bind r (decided_by kind frame)) (chips_back more) ∙ decided_back

  as_back : (c : CostChoice) (more : List ℕ) → decoded_as c frame (sent ++ more) ≡ Ok (no_cost c, q)
  as_back ByCount more =
      let u = sent_unharmed frame lawful q within iq in
      ap (told_by told_count) (decoded_back count_kind (traces_psdu count_kind count_laws (frame_seen frame sent) (length q) within) u.returned.by_count u.count_nothing more)
  as_back ByGraded more =
      let u = sent_unharmed frame lawful q within iq in
      ap (told_by told_graded) (decoded_back graded_kind (traces_psdu graded_kind graded_laws (frame_seen frame sent) (length q) within) u.returned.by_graded u.graded_nothing more)

  abbrev verdict : CostChoice → Verdict
  verdict c = record { mode = m; octets = length q; cost = no_cost c; psdu = q }

  abbrev fields : Fields
  fields = fields_sent b m (length q)

  psdu_back : (c : CostChoice) (more : List ℕ) → psdu_part c fields (section_octets sent ++ more) ≡ Ok (verdict c)
  psdu_back c more =
      let told : Cost × List ℕ → Result Verdict Fault = λ d. Ok (record { mode = m; octets = length q; cost = d.0; psdu = d.1 }) in
      ap (λ r. bind r (λ octets. bind (decoded_as c frame octets) told)) (start_back 3 (blocks (length q) * size) sent more sent_long)
      ∙ ap (λ r. bind r told) (as_back c more)

  frame_back : (c : CostChoice) (more : List ℕ) → frame_part c (section_octets sent ++ more) fields ≡ Ok (verdict c)
  frame_back c more = cond-false _ _ _ (le-ltb longest (length q) short) ∙ psdu_back c more

  module _ (known : has_mode b m ≡ true) (some : 4 ≤ length q) where
    read_back : read_answer b (header_chips b m (length q)) ≡ Ok fields
    read_back = (headers_back b m (length q) known (and_from (leb 4 (length q)) (leb (length q) 2047) (le-leb 4 (length q) some) (le-leb (length q) 2047 within))).clean

    header_back : (c : CostChoice) (more : List ℕ) → header_part (record { band = b; cost = c }) (section_octets (header_chips b m (length q)) ++ (section_octets sent ++ more)) ≡ Ok (verdict c)
    header_back c more =
        ap (λ r. bind r (λ t. bind (read_answer b t.0) (frame_part c t.1))) (section_back 2 (header_length b) (header_chips b m (length q)) (section_octets sent ++ more) (header_long b m (length q)))
        ∙ (ap (λ r. bind r (frame_part c (section_octets sent ++ more))) read_back ∙ frame_back c more)

    verdict_back : (c : CostChoice) (more : List ℕ) → verdict_of (clean_capture b c m q more) ≡ Ok (verdict c)
    verdict_back c more =
        ap (λ r. bind r (λ s. header_part s.0 s.1)) (settings_back b c (section_octets (header_chips b m (length q)) ++ (section_octets sent ++ more)))
        ∙ header_back c more

pub clean_back : CleanCapturesComeBack
clean_back b c m q more known some short iq = ap lines_of (verdict_back b m q short iq known some c more)
