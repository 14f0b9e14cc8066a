-- A block that was despread: its encoded bits and what is observed of its code bits are those of its values.
-- Assumes nothing.
use Rattle.std.proofs.Common.{◌≡◌, ℕ, ◌*◌, ◌/◌, ◌%◌, ◌<◌, min, Bool, true, false, List, map, length, get_or, Ok, Result, sym, refl, ap, ◌∙◌, div-le_self, arith}
use Rattle.std.specs.List.{range_with_len}
use Rattle.std.proofs.lemmas.Nat.{div_below}
use Rattle.std.proofs.lemmas.List.FromFn.{get_or-map-range_with_len, length-map-range_with_len, fill_by_all}
use Rattle.faults.specs.declared.Fault.{Fault}
use Rattle.faults.specs.declared.Layer.TheVariants.{Frame}
use Rattle.linecode.specs.Chips.{judged, unless_refused}
use Rattle.linecode.specs.Codes.{Code, Lawful, Width}
use Rattle.codebits.specs.Bits.{bit_at}
use Rattle.codebits.specs.Interleaving.{moved_in}
use Rattle.codebits.specs.Differential.{decoded_bit, decoded_doubt}
use Rattle.codebits.proofs.Places.{moved_within}
use Rattle.frames.specs.Sent.{block_groups, block_chips}
use Rattle.frames.specs.Heard.{heard, encoded_bit, encoded_doubt}
use Rattle.frames.specs.Joined.{block_observed, block_doubtful}
use Rattle.frames.proofs.Joins.{bit_same, doubt_same}
use Rattle.frames.proofs.Widths.{by_width, some_bits}
use Rattle.costs.specs.Observed.{observation, bit_of, doubt_of, bits_of, doubts_of}
use Rattle.costs.specs.declared.Observation.{Observation}
use Rattle.reading.specs.Groups.{values_after, encoded_seen, decoded_seen}
use Rattle.reading.specs.Reading.{block_seen, last_seen, read_answer, read_after}

pub whole_block : (g : ℕ) → Width g → 176 / g * g ≡ 176
whole_block = by_width (λ g. 176 / g * g ≡ 176) refl refl refl refl

pub room_of : (g n : ℕ) → n ≡ 176 → min (176 / g) n ≡ 176 / g
room_of g n e = let less = div-le_self 176 g in omega arith

-- what an observation was made of
pub bit_of_lem : (b d : Bool) → bit_of (observation b d) ≡ b
bit_of_lem b true = refl
bit_of_lem b false = refl

pub doubt_of_lem : (b d : Bool) → doubt_of (observation b d) ≡ d
doubt_of_lem b true = refl
doubt_of_lem b false = refl

pub map_same : {X : Type 0} (f h : ℕ → X) (n : ℕ) (x : X) → ((i : ℕ) → i < n → f i ≡ h i) → map f (range_with_len 0 n) ≡ map h (range_with_len 0 n)
map_same f h n x same =
    fill_by_all h (map f (range_with_len 0 n)) n x (length-map-range_with_len f 0 n) (λ i lt. get_or-map-range_with_len f 0 n i i x lt (omega arith) ∙ same i lt)

module _ (k : Code) (l : Lawful k) (first : ℕ) (chips : List ℕ) (values : List (ℕ × Bool)) (is : values ≡ map (heard k first chips) (range_with_len 0 (176 / k.bits))) where
  value_at : (i : ℕ) → i < 176 → get_or values (i / k.bits) (0, false) ≡ heard k first chips (i / k.bits)
  value_at i h =
      let whole = whole_block k.bits l.width in
      let within = div_below i k.bits (176 / k.bits) (some_bits k.bits l.width) (omega arith) in
      ap (λ vs. get_or vs (i / k.bits) (0, false)) is
      ∙ get_or-map-range_with_len (heard k first chips) 0 (176 / k.bits) (i / k.bits) (i / k.bits) (0, false) within (omega arith)

  seen_at : (i : ℕ) → i < 176 → encoded_seen values k.bits i ≡ observation (encoded_bit k first chips i) (encoded_doubt k first chips i)
  unfolding encoded_bit encoded_doubt
  seen_at i h = ap (λ r. observation (bit_at r.0 (i % k.bits)) r.1) (value_at i h)

  bit_at_lem : (i : ℕ) → i < 176 → bit_of (encoded_seen values k.bits i) ≡ encoded_bit k first chips i
  bit_at_lem i h = ap bit_of (seen_at i h) ∙ bit_of_lem (encoded_bit k first chips i) (encoded_doubt k first chips i)

  doubt_at : (i : ℕ) → i < 176 → doubt_of (encoded_seen values k.bits i) ≡ encoded_doubt k first chips i
  doubt_at i h = ap doubt_of (seen_at i h) ∙ doubt_of_lem (encoded_bit k first chips i) (encoded_doubt k first chips i)

  pub last_at : encoded_seen values k.bits 175 ≡ last_seen k first chips
  last_at = seen_at 175 (omega arith)

  code_at : (d : Bool) (last : Observation) (j : ℕ) → j < 176 → decoded_seen d last (encoded_seen values k.bits) (moved_in j) ≡ block_seen k d last first chips j
  unfolding block_observed block_doubtful
  code_at d last j h =
      let place : moved_in j < 176 = moved_within j h in
      ap (λ b. observation b (decoded_doubt d (doubt_of last) (doubts_of (encoded_seen values k.bits)) (moved_in j)))
      (bit_same d (bit_of last) (bits_of (encoded_seen values k.bits)) (encoded_bit k first chips) (moved_in j) (λ n le. bit_at_lem n (omega arith)))
      ∙ ap (observation (decoded_bit d (bit_of last) (encoded_bit k first chips) (moved_in j)))
      (doubt_same d (doubt_of last) (doubts_of (encoded_seen values k.bits)) (encoded_doubt k first chips) (moved_in j) (λ n le. doubt_at n (omega arith)))

  pub codes_at : (d : Bool) (last : Observation) →
      map (λ j. decoded_seen d last (encoded_seen values k.bits) (moved_in j)) (range_with_len 0 176) ≡ map (block_seen k d last first chips) (range_with_len 0 176)
  codes_at d last = map_same (λ j. decoded_seen d last (encoded_seen values k.bits) (moved_in j)) (block_seen k d last first chips) 176 last (code_at d last)

-- as the code has it: its bits per group are g, and the values were despread into a slice of 176 / g
module _
    (k : Code) (l : Lawful k) (g block : ℕ) (chips : List ℕ) (old values : List (ℕ × Bool)) (r : Result (Unit {0}) Fault) (u : Unit {0})
    (is_g : g ≡ k.bits) (ok : r ≡ Ok u) (e : values ≡ values_after r k (block * (176 / g)) chips old) (room : length old ≡ 176 / g)
  where
    despread : values ≡ map (heard k (block * block_groups k) chips) (range_with_len 0 (176 / k.bits))
    despread =
        e ∙ (ap (λ x. values_after x k (block * (176 / g)) chips old) ok
        ∙ (ap (λ n. map (heard k (block * (176 / g)) chips) (range_with_len 0 n)) room
        ∙ ap (λ b. map (heard k (block * (176 / b)) chips) (range_with_len 0 (176 / b))) is_g))

    pub read_answer_lem : (x : Observation) → r ≡ judged Frame (length old * k.chips) chips → x ≡ encoded_seen values g 175 →
        Ok x ≡ read_answer k (block * block_groups k) chips
    read_answer_lem x judge is =
        let good : judged Frame (block_chips k) chips ≡ Ok u
        = sym (ap (λ n. judged Frame (n * k.chips) chips) (room ∙ ap (λ b. 176 / b) is_g)) ∙ (sym judge ∙ ok) in
        let seen : x ≡ last_seen k (block * block_groups k) chips
        = is ∙ (ap (λ b. encoded_seen values b 175) is_g ∙ last_at k l (block * block_groups k) chips values despread) in
        ap Ok seen ∙ ap (λ (j : Result (Unit {0}) Fault). unless_refused j (last_seen k (block * block_groups k) chips)) (sym good)

    pub read_after_lem : (x last : Observation) (d : Bool) (observed before : List Observation) →
        observed ≡ map (λ j. decoded_seen d last (encoded_seen values g) (moved_in j)) (range_with_len 0 176) →
        observed ≡ read_after (Ok x) k d last (block * block_groups k) chips before
    read_after_lem x last d observed before is =
        is ∙ (ap (λ b. map (λ j. decoded_seen d last (encoded_seen values b) (moved_in j)) (range_with_len 0 176)) is_g
        ∙ codes_at k l (block * block_groups k) chips values despread d last)
