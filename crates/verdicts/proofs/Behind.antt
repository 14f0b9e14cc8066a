-- A capture as long as the longest is judged by itself, whatever follows it.
-- Assumes nothing.
use Rattle.std.proofs.Common.{◌≡◌, ℕ, ◌+◌, ◌*◌, ◌/◌, ◌%◌, ◌<◌, ◌≤◌, Bool, true, false, cond, ◌&&◌, eqb, ltb, leb, List, [], ◌∷◌, ◌++◌, length, take, drop, Some, None, Ok, Err, Option, Result, sym, refl, ap, ◌∙◌, ⊎_elim, mul-le-mul_right, div-lt_iff_lt-mul, mul-le-mul, arith, lit<, lit≤, length-append, length-drop, length-take}
use Rattle.std.specs.List.{prefix_len}
use Rattle.std.proofs.lemmas.List.{take-append-le, drop-append-le, get_or_append_left}
use Rattle.std.proofs.lemmas.List.Sums.{prefix_len-le-length}
use Rattle.std.proofs.lemmas.Bool.{cases_Bool, cond-true, cond-false, le-leb, eqb-false, ltb-false}
use Rattle.faults.specs.declared.Fault.{Fault}
use Rattle.faults.specs.declared.FaultKind.TheVariants.{ChipValue, Section}
use Rattle.faults.specs.declared.Layer.TheVariants.{Frame as FrameLayer, Bench}
use Rattle.faults.specs.Refusals.{fault}
use Rattle.linecode.specs.Chips.{is_chip}
use Rattle.bands.specs.declared.band.Band.{Band}
use Rattle.bands.specs.declared.band.Band.TheVariants.{Mhz780, Mhz868, Mhz915, Mhz2450}
use Rattle.bands.specs.declared.band.RateMode.{RateMode}
use Rattle.bands.specs.declared.band.RateMode.TheVariants.{Mode0, Mode1, Mode2, Mode3}
use Rattle.bands.specs.Modes.{psdu_line}
use Rattle.codebits.specs.Message.{blocks}
use Rattle.frames.specs.Sent.{Frame, block_chips}
use Rattle.costs.specs.Kinds.{count_kind, graded_kind}
use Rattle.header.specs.Headers.{header_length}
use Rattle.header.specs.Reading.{Fields, read_answer}
use Rattle.captures.specs.declared.cost.Cost.{Cost}
use Rattle.captures.specs.declared.settings.CostChoice.{CostChoice}
use Rattle.captures.specs.declared.settings.CostChoice.TheVariants.{Count as ByCount, Graded as ByGraded}
use Rattle.captures.specs.declared.settings.Settings.{Settings}
use Rattle.captures.specs.Letters.{band_of, choice_of}
use Rattle.captures.specs.Sections.{bind, refuse, stands_for, exactly, octet_by, count_two, count_of, section_start, whole_of}
use Rattle.captures.specs.Chips.{good_chips, blocks_of}
use Rattle.captures.specs.Decoding.{chips_for, decided_by}
use Rattle.captures.specs.Costs.{told_count, told_graded, told_by}
use Rattle.captures.specs.Captures.{longest, code_or, frame_after, decoded_as, Verdict, psdu_part, frame_part, header_part, verdict_of, lines_of}
use Rattle.verdicts.specs.Unread.{NothingReadBehind}

-- A part of a capture reads the same with any octets behind it, if what follows it does: a check of an octet, and a letter.
through : {Y : Type 0} (t : Bool) (x : Fault) (us bs : List ℕ) (next : List ℕ → Result Y Fault) → next us ≡ next bs → bind (cond t (Ok us) (Err x)) next ≡ bind (cond t (Ok bs) (Err x)) next
through true x us bs next e = e
through false x us bs next e = refl

checked : {X Y : Type 0} (t : Bool) (x : Fault) (us bs : List ℕ) (part : List ℕ → Result X Fault) (next : X → Result Y Fault) →
    bind (part us) next ≡ bind (part bs) next → bind (bind (cond t (Ok us) (Err x)) part) next ≡ bind (bind (cond t (Ok bs) (Err x)) part) next
checked true x us bs part next e = e
checked false x us bs part next e = refl

lettered : {L X Y : Type 0} (o : Option L) (place : ℕ) (us bs : List ℕ) (part : L × List ℕ → Result X Fault) (next : X → Result Y Fault) →
    ((l : L) → bind (part (l, us)) next ≡ bind (part (l, bs)) next) → bind (bind (stands_for o place us) part) next ≡ bind (bind (stands_for o place bs) part) next
lettered (Some l) place us bs part next e = e l
lettered None place us bs part next e = refl

-- parts handed on one after the other
bound : {X Y Z : Type 0} (r : Result X Fault) (next : X → Result Y Fault) (last : Y → Result Z Fault) → bind (bind r next) last ≡ bind r (λ x. bind (next x) last)
bound (Ok x) next last = refl
bound (Err e) next last = refl

-- section 1 goes by its six octets
module _ (a b c d e f : ℕ) (us bs : List ℕ) (same : (s : Settings) → header_part s us ≡ header_part s bs) where
  counted_same : {Y : Type 0} (next : List ℕ → Result Y Fault) → next (e ∷ f ∷ us) ≡ next (e ∷ f ∷ bs) → bind (count_two (a ∷ b ∷ c ∷ d ∷ e ∷ f ∷ us)) next ≡ bind (count_two (a ∷ b ∷ c ∷ d ∷ e ∷ f ∷ bs)) next
  counted_same next is =
      checked (eqb a 2) _ _ _ (λ bs1. bind (exactly 0 1 bs1) (λ bs2. bind (exactly 0 2 bs2) (λ bs3. exactly 0 3 bs3))) next
      (checked (eqb b 0) _ _ _ (λ bs2. bind (exactly 0 2 bs2) (λ bs3. exactly 0 3 bs3)) next
      (checked (eqb c 0) _ _ _ (λ bs3. exactly 0 3 bs3) next
      (through (eqb d 0) _ _ _ next is)))

  six_same : verdict_of (a ∷ b ∷ c ∷ d ∷ e ∷ f ∷ us) ≡ verdict_of (a ∷ b ∷ c ∷ d ∷ e ∷ f ∷ bs)
  six_same =
      let costed : Band → CostChoice × List ℕ → Result (Settings × List ℕ) Fault = λ x k. Ok (record { band = x; cost = k.0 }, k.1) in
      let banded : Band × List ℕ → Result (Settings × List ℕ) Fault = λ x. bind (octet_by choice_of 5 x.1) (costed x.0) in
      let letters : List ℕ → Result (Settings × List ℕ) Fault = λ bs4. bind (octet_by band_of 4 bs4) banded in
      let rest : Settings × List ℕ → Result Verdict Fault = λ s. header_part s.0 s.1 in
      let both = lettered (band_of e) 4 (f ∷ us) (f ∷ bs) banded rest (λ x. lettered (choice_of f) 5 us bs (costed x) rest (λ k. same (record { band = x; cost = k }))) in
      bound (count_two (a ∷ b ∷ c ∷ d ∷ e ∷ f ∷ us)) letters rest
      ∙ (counted_same (λ bs4. bind (letters bs4) rest) both
      ∙ sym (bound (count_two (a ∷ b ∷ c ∷ d ∷ e ∷ f ∷ bs)) letters rest))

-- the count of a section
start_same : (number n : ℕ) (ys more : List ℕ) → 4 ≤ length ys →
    section_start number n (ys ++ more) ≡ cond (leb 4 (length ys) && eqb (count_of ys) n) (Ok (drop 4 ys ++ more)) (refuse Section number)
start_same number n ys more four =
    let at = λ (i : ℕ) (lt : i < 4). get_or_append_left ys more 0 i (omega arith) in
    let g0 = at 0 (omega arith) in
    let g1 = at 1 (omega arith) in
    let g2 = at 2 (omega arith) in
    let g3 = at 3 (omega arith) in
    let count : count_of (ys ++ more) ≡ count_of ys = omega (arith, g0, g1, g2, g3) in
    let long : 4 ≤ length (ys ++ more) = omega (arith, length-append ys more) in
    let test : (leb 4 (length (ys ++ more)) && eqb (count_of (ys ++ more)) n) ≡ (leb 4 (length ys) && eqb (count_of ys) n) =
    ap (λ t. t && eqb (count_of (ys ++ more)) n) (le-leb 4 (length (ys ++ more)) long ∙ sym (le-leb 4 (length ys) four)) ∙ ap (λ i. leb 4 (length ys) && eqb i n) count in
    ap (λ t. cond t (Ok (drop 4 (ys ++ more))) (refuse Section number)) test
    ∙ ap (λ (zs : List ℕ). cond (leb 4 (length ys) && eqb (count_of ys) n) (Ok zs) (refuse Section number)) (drop-append-le 4 ys more four)

-- what follows a section's count
section_same : {Y : Type 0} (number n : ℕ) (ys more : List ℕ) (next : List ℕ → Result Y Fault) → 4 ≤ length ys → next (drop 4 ys ++ more) ≡ next (drop 4 ys) →
    bind (section_start number n (ys ++ more)) next ≡ bind (section_start number n ys) next
section_same number n ys more next four e =
    ap (λ r. bind r next) (start_same number n ys more four)
    ∙ through (leb 4 (length ys) && eqb (count_of ys) n) (fault Section number Bench) (drop 4 ys ++ more) (drop 4 ys) next e

-- the block that an octet of n blocks stands in is one of them
whole_block : (size n i : ℕ) → 0 < size → i < n * size → (i / size + 1) * size ≤ n * size
whole_block size n i some lt =
    let less = (div-lt_iff_lt-mul some).1 lt in
    mul-le-mul_right size (let more : i / size + 1 ≤ n = omega arith in more)

-- section 3
blocks_same : (size n : ℕ) (zs more : List ℕ) → 0 < size → n * size ≤ length zs → blocks_of size n (zs ++ more) ≡ blocks_of size n zs
unfolding blocks_of good_chips
blocks_same size n zs more some fits =
    let front = take-append-le (n * size) zs more fits in
    let good = prefix_len is_chip (take (n * size) zs) in
    let few = prefix_len-le-length is_chip (take (n * size) zs) in
    let long = length-take (n * size) zs in
    let told : List ℕ → ℕ → Result (List ℕ) Fault = λ xs l.
    cond (eqb (prefix_len is_chip xs) (n * size)) (Ok xs) (cond (leb ((prefix_len is_chip xs / size + 1) * size) l) (Err (fault ChipValue (prefix_len is_chip xs % size) FrameLayer)) (refuse Section 3)) in
    ap (λ (xs : List ℕ). told xs (length (zs ++ more))) front
    ∙ ⊎_elim
    (λ (yes : eqb good (n * size) ≡ true). cond-true _ _ _ yes ∙ sym (cond-true _ _ _ yes))
    (λ (no : eqb good (n * size) ≡ false).
    let ne = eqb-false good (n * size) no in
    let whole : (good / size + 1) * size ≤ n * size = whole_block size n good some (omega arith) in
    cond-false _ _ _ no
    ∙ (cond-true _ _ _ (le-leb ((good / size + 1) * size) (length (zs ++ more)) (omega (arith, length-append zs more)))
    ∙ sym (cond-false _ _ _ no ∙ cond-true _ _ _ (le-leb ((good / size + 1) * size) (length zs) (omega arith)))))
    (cases_Bool (eqb good (n * size)))

abbrev Fits : Band → RateMode → Type 0
Fits b m = (0 < block_chips (code_or (psdu_line b m))) × (block_chips (code_or (psdu_line b m)) ≤ 5632)

-- the two bands of 1000 kchip/s have the same line codes
thousand_fits : (m : RateMode) → Fits Mhz780 m
thousand_fits Mode0 = (lit< tt, lit≤ tt)
thousand_fits Mode1 = (lit< tt, lit≤ tt)
thousand_fits Mode2 = (lit< tt, lit≤ tt)
thousand_fits Mode3 = (lit< tt, lit≤ tt)

sizes : (b : Band) (m : RateMode) → Fits b m
sizes Mhz780 m = thousand_fits m
sizes Mhz915 m = thousand_fits m
sizes Mhz868 Mode0 = (lit< tt, lit≤ tt)
sizes Mhz868 Mode1 = (lit< tt, lit≤ tt)
sizes Mhz868 Mode2 = (lit< tt, lit≤ tt)
sizes Mhz868 Mode3 = (lit< tt, lit≤ tt)
sizes Mhz2450 Mode0 = (lit< tt, lit≤ tt)
sizes Mhz2450 Mode1 = (lit< tt, lit≤ tt)
sizes Mhz2450 Mode2 = (lit< tt, lit≤ tt)
sizes Mhz2450 Mode3 = (lit< tt, lit≤ tt)

header_fits : (b : Band) → header_length b ≤ 11264
header_fits Mhz780 = lit≤ tt
header_fits Mhz868 = lit≤ tt
header_fits Mhz915 = lit≤ tt
header_fits Mhz2450 = lit≤ tt

module _ (choice : CostChoice) (f : Fields) (ys more : List ℕ) (long : 4 + 24 * 5632 ≤ length ys) where
  abbrev frame : Frame
  frame = frame_after f

  abbrev zs : List ℕ
  zs = drop 4 ys

  chips_same : f.length ≤ longest → chips_for frame (zs ++ more) ≡ chips_for frame zs
  chips_same short =
      let s = sizes f.band f.mode in
      let few : blocks f.length ≤ 24 = omega arith in
      let most : blocks f.length * block_chips frame.code ≤ 24 * 5632 = mul-le-mul few s.1 in
      blocks_same (block_chips frame.code) (blocks f.length) zs more s.0 (omega (arith, length-drop 4 ys))

  decoded_same : (c : CostChoice) → f.length ≤ longest → decoded_as c frame (zs ++ more) ≡ decoded_as c frame zs
  decoded_same ByCount short = ap (λ r. told_by told_count (bind r (decided_by count_kind frame))) (chips_same short)
  decoded_same ByGraded short = ap (λ r. told_by told_graded (bind r (decided_by graded_kind frame))) (chips_same short)

  psdu_same : f.length ≤ longest → psdu_part choice f (ys ++ more) ≡ psdu_part choice f ys
  psdu_same short =
      let verdict : Cost × List ℕ → Result Verdict Fault = λ d. Ok (record { mode = f.mode; octets = f.length; cost = d.0; psdu = d.1 }) in
      section_same 3 (blocks f.length * block_chips frame.code) ys more (λ octets. bind (decoded_as choice frame octets) verdict) (omega arith) (ap (λ r. bind r verdict) (decoded_same choice short))

  frame_same : frame_part choice (ys ++ more) f ≡ frame_part choice ys f
  frame_same =
      ⊎_elim
      (λ (yes : ltb longest f.length ≡ true). cond-true _ _ _ yes ∙ sym (cond-true _ _ _ yes))
      (λ (no : ltb longest f.length ≡ false). cond-false _ _ _ no ∙ (psdu_same (ltb-false longest f.length no) ∙ sym (cond-false _ _ _ no)))
      (cases_Bool (ltb longest f.length))

read_same : (choice : CostChoice) (ys more : List ℕ) (r : Result Fields Fault) → 4 + 24 * 5632 ≤ length ys → bind r (frame_part choice (ys ++ more)) ≡ bind r (frame_part choice ys)
read_same choice ys more (Ok f) long = frame_same choice f ys more long
read_same choice ys more (Err x) long = refl

header_same : (s : Settings) (ys more : List ℕ) → 4 + 11264 + 4 + 24 * 5632 ≤ length ys → header_part s (ys ++ more) ≡ header_part s ys
header_same s ys more long =
    let n = header_length s.band in
    let zs = drop 4 ys in
    let few = header_fits s.band in
    let left = length-drop 4 ys in
    let behind = length-drop n zs in
    let next : List ℕ × List ℕ → Result Verdict Fault = λ t. bind (read_answer s.band t.0) (frame_part s.cost t.1) in
    let pair : List ℕ → List ℕ → Result (List ℕ × List ℕ) Fault = λ x y. Ok (x, y) in
    let fits : n ≤ length zs = omega arith in
    let long_whole : whole_of 2 n (zs ++ more) ≡ Ok (take n zs, drop n zs ++ more) =
    cond-true _ _ _ (le-leb n (length (zs ++ more)) (omega (arith, length-append zs more)))
    ∙ (ap (λ x. pair x (drop n (zs ++ more))) (take-append-le n zs more fits) ∙ ap (pair (take n zs)) (drop-append-le n zs more fits)) in
    let whole : whole_of 2 n zs ≡ Ok (take n zs, drop n zs) = cond-true _ _ _ (le-leb n (length zs) fits) in
    let same : bind (whole_of 2 n (zs ++ more)) next ≡ bind (whole_of 2 n zs) next =
    ap (λ r. bind r next) long_whole ∙ (read_same s.cost (drop n zs) more (read_answer s.band (take n zs)) (omega arith) ∙ sym (ap (λ r. bind r next) whole)) in
    bound (section_start 2 n (ys ++ more)) (whole_of 2 n) next
    ∙ (section_same 2 n ys more (λ octets. bind (whole_of 2 n octets) next) (omega arith) same
    ∙ sym (bound (section_start 2 n ys) (whole_of 2 n) next))

pub nothing_read_behind : NothingReadBehind
nothing_read_behind [] more long = absurd (omega arith)
nothing_read_behind (a ∷ []) more long = absurd (omega arith)
nothing_read_behind (a ∷ b ∷ []) more long = absurd (omega arith)
nothing_read_behind (a ∷ b ∷ c ∷ []) more long = absurd (omega arith)
nothing_read_behind (a ∷ b ∷ c ∷ d ∷ []) more long = absurd (omega arith)
nothing_read_behind (a ∷ b ∷ c ∷ d ∷ e ∷ []) more long = absurd (omega arith)
nothing_read_behind (a ∷ b ∷ c ∷ d ∷ e ∷ f ∷ ys) more long = ap lines_of (six_same a b c d e f (ys ++ more) ys (λ s. header_same s ys more (omega arith)))
