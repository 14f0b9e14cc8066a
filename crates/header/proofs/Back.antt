-- A header is read back where the groups from the last of the preamble on are read as they were sent.
-- Assumes nothing.
use Rattle.std.proofs.Common.{◌≡◌, ℕ, zero, suc, ◌+◌, ◌-◌, ◌*◌, ◌/◌, ◌%◌, ◌^◌, ◌<◌, ◌≤◌, Bool, true, false, List, ◌∷◌, length, get_or, Ok, sym, ap, ◌∙◌, subst, arith}
use Rattle.std.proofs.lemmas.Bool.{cond-true, eq-eqb}
use Rattle.faults.specs.declared.Layer.TheVariants.{Header}
use Rattle.linecode.specs.Codes.{Code}
use Rattle.linecode.specs.Chips.{judged}
use Rattle.linecode.specs.Judging.{judged_good, every_leading}
use Rattle.linecode.proofs.Answers.{accepted}
use Rattle.codebits.specs.Bits.{◌⊕◌, previous}
use Rattle.codebits.specs.Message.{message_bit, is_length}
use Rattle.codebits.proofs.Coding.{decoding_undoes}
use Rattle.codebits.proofs.Determines.{message_at_octet}
use Rattle.codebits.proofs.Numbers.{number_mod}
use Rattle.frames.specs.Sent.{spread_groups}
use Rattle.frames.specs.Heard.{encoded_bit}
use Rattle.frames.proofs.Agrees.{Agrees, unwrecked_heard, sent_agrees, encoded_agrees}
use Rattle.frames.proofs.Parts.{part_ends, groups_length, groups_binary}
use Rattle.bands.specs.declared.band.Band.{Band}
use Rattle.bands.specs.declared.band.RateMode.{RateMode}
use Rattle.bands.specs.Modes.{header_code}
use Rattle.header.specs.Phr.{dsss_sfd, has_mode, read_fields, read_phr, phr, phr_octets}
use Rattle.header.specs.Headers.{preamble_octets, header_bits, header_length, header_octets, octet_stream, octet_chips, last_encoded, header_chips}
use Rattle.header.specs.Reading.{decoded, encoded_before, heard_octet, with_last, unless_bad, read_octets}
use Rattle.header.specs.Laws.{ReadAs, Unwrecked, HeadersReadBack}
use Rattle.header.proofs.Bands.{one_bit, some_preamble, few_preamble, octet_at, octets_long, header_lawful}
use Rattle.header.proofs.Phrs.{phr_back, phr_small}

module _ (b : Band) (m : RateMode) (l : ℕ) (known : has_mode b m ≡ true) (fits : is_length l ≡ true) where
  abbrev k : Code
  k = header_code b

  abbrev os : List ℕ
  os = header_octets b m l

  -- the groups that count are read as they were sent
  abbrev Same : List ℕ → Type 0
  Same chips = (j : ℕ) → 8 * preamble_octets b - 1 ≤ j → j < header_bits b → encoded_bit k 0 chips j ≡ octet_stream os j

  module _ (chips : List ℕ) (same : Same chips) where
    -- so are the bits after the preamble
    bit_back : (p : ℕ) → 8 * preamble_octets b ≤ p → p < header_bits b → decoded k chips p ≡ message_bit os p
    unfolding octet_stream
    bit_back zero low high = absurd (omega (arith, some_preamble b))
    bit_back (suc p) low high =
        let here = same (suc p) (omega arith) high in
        let back = same p (omega arith) (omega arith) in
        ap (λ x. x ⊕ encoded_bit k 0 chips p) here ∙ (ap (λ x. octet_stream os (suc p) ⊕ x) back ∙ decoding_undoes true false (message_bit os) (suc p))

    -- the octets
    octet_back : (i : ℕ) → i < 3 → get_or (dsss_sfd ∷ phr_octets m l) i 0 < 256 → heard_octet k chips (preamble_octets b + i) ≡ get_or (dsss_sfd ∷ phr_octets m l) i 0
    octet_back i h small =
        let at : ℕ = preamble_octets b + i in
        let is = octet_at b m l i in
        number_mod (decoded k chips) (8 * at) (get_or os at 0) 8 (λ r lt. bit_back (8 * at + r) (omega arith) (omega arith) ∙ message_at_octet os at r lt)
        ∙ (ap (λ (x : ℕ). x % 256) is ∙ omega arith)

    -- and the last encoded bit
    last_back : encoded_before k chips (header_bits b) ≡ last_encoded os
    unfolding last_encoded
    last_back =
        let end : header_bits b ≡ suc (header_bits b - 1) = omega arith in
        let whole : 8 * length os ≡ header_bits b = ap (λ (x : ℕ). 8 * x) (octets_long b m l) in
        ap (previous false (encoded_bit k 0 chips)) end
        ∙ (same (header_bits b - 1) (omega arith) (omega arith)
        ∙ (sym (ap (previous false (octet_stream os)) end) ∙ sym (ap (previous false (octet_stream os)) whole)))

    fields_back : read_fields b (heard_octet k chips (preamble_octets b)) (heard_octet k chips (preamble_octets b + 1)) (heard_octet k chips (preamble_octets b + 2)) ≡ Ok (m, l)
    fields_back =
        let w : ℕ = phr m l in
        let small = phr_small m l fits in
        let zero_at : preamble_octets b + 0 ≡ preamble_octets b = omega arith in
        let sfd : heard_octet k chips (preamble_octets b) ≡ dsss_sfd = ap (heard_octet k chips) (sym zero_at) ∙ octet_back 0 (omega arith) (omega arith) in
        let lo : heard_octet k chips (preamble_octets b + 1) ≡ w % 256 = octet_back 1 (omega arith) (omega arith) in
        let hi : heard_octet k chips (preamble_octets b + 2) ≡ w / 256 = octet_back 2 (omega arith) (omega arith) in
        let whole : heard_octet k chips (preamble_octets b + 1) + heard_octet k chips (preamble_octets b + 2) * 256 ≡ w = omega arith in
        cond-true _ _ _ (eq-eqb (heard_octet k chips (preamble_octets b)) dsss_sfd sfd) ∙ (ap (read_phr b) whole ∙ phr_back b m l known fits)

    read_as : judged Header (header_length b) chips ≡ Ok tt → ReadAs b m l chips
    read_as good =
        ap (λ j. unless_bad j (read_octets b chips)) good
        ∙ (ap (with_last b (encoded_before k chips (header_bits b))) fields_back ∙ ap (λ x. with_last b x (Ok (m, l))) last_back)

  -- a group that is read as it was sent gives its bit
  same_at : (chips : List ℕ) (j : ℕ) → Agrees k (octet_stream os) chips j → encoded_bit k 0 chips j ≡ octet_stream os j
  same_at chips j agrees =
      let group : j / k.bits ≡ j = ap (λ (g : ℕ). j / g) (one_bit b) ∙ omega arith in
      (encoded_agrees k (octet_stream os) chips (header_lawful b) j (subst (λ (x : ℕ). Agrees k (octet_stream os) chips x) (sym group) agrees)).0

  few_bits : header_bits b ≤ 2 ^ 32
  few_bits = omega (arith, few_preamble b)

  pub damaged_back : (chips : List ℕ) → judged Header (header_length b) chips ≡ Ok tt → Unwrecked b m l chips → ReadAs b m l chips
  damaged_back chips good few =
      let sized = (accepted Header (header_length b) chips tt good).sized in
      read_as chips
      (λ j low high.
      same_at chips j
      (unwrecked_heard k (header_lawful b) (octet_stream os) chips j (omega (arith, few_bits)) (omega (arith, part_ends (header_bits b) k.chips j high)) (few j low high)))
      good

  pub clean_back : ReadAs b m l (header_chips b m l)
  unfolding octet_chips
  clean_back =
      let s : ℕ → Bool = octet_stream os in
      let law = header_lawful b in
      let whole : 8 * length os ≡ header_bits b = ap (λ (x : ℕ). 8 * x) (octets_long b m l) in
      let chips : List ℕ = spread_groups k s 0 (8 * length os) in
      let few : 8 * length os ≤ 2 ^ 32 = omega (arith, few_bits) in
      let sized : length chips ≡ header_length b = groups_length k s law 0 (8 * length os) (omega arith) ∙ ap (λ (x : ℕ). x * k.chips) whole in
      let binary : (i : ℕ) → i < length chips → get_or chips i 0 < 2 = λ i h. groups_binary k s law 0 (8 * length os) (omega arith) i (omega (arith, ap (λ (x : ℕ). x * k.chips) whole)) in
      read_as chips (λ j low high. same_at chips j (sent_agrees k law s (8 * length os) j few (omega arith)))
      (judged_good Header (header_length b) chips sized (every_leading chips binary ∙ sized))

pub headers_back : HeadersReadBack
headers_back b m l known fits = record { clean = clean_back b m l known fits; damaged = damaged_back b m l known fits }
