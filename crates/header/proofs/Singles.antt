-- Groups of one bit: their value is the bit, and chips that are all 0 or 1 are not refused.
-- Assumes nothing.
use Rattle.std.proofs.Common.{◌≡◌, ℕ, suc, ◌+◌, ◌-◌, ◌*◌, ◌/◌, ◌%◌, ◌^◌, ◌<◌, ◌≤◌, Bool, true, false, not, eqb, List, length, get_or, take, drop, Ok, sym, refl, ap, ◌∙◌, subst, mul_comm, zero-add, arith}
use mathlib.Core.Bool.{beq}
use Rattle.std.proofs.lemmas.List.{get_or-take, get_or-drop}
use Rattle.faults.specs.declared.Layer.TheVariants.{Line}
use Rattle.linecode.specs.Codes.{Code, value_of, despread_answer, distance}
use Rattle.linecode.specs.Judging.{judged_good, every_leading}
use Rattle.linecode.proofs.Answers.{despread_ok}
use Rattle.linecode.proofs.Nearness.{nearest_is}
use Rattle.codebits.specs.Bits.{◌⊕◌, one, bit_at, number_at, previous}
use Rattle.codebits.specs.Message.{message_bit}
use Rattle.codebits.proofs.Coding.{xor_is, sent_step}
use Rattle.codebits.proofs.Numbers.{one_small}
use Rattle.frames.specs.Sent.{group_value, group_chips}
use Rattle.frames.specs.Heard.{heard, encoded_bit}
use Rattle.frames.proofs.Parts.{part_length}
use Rattle.header.specs.Headers.{octet_stream}
use Rattle.header.specs.Reading.{AllChips}

module _ (k : Code) (single : k.bits ≡ 1) where
  pub value_one : (s : ℕ → Bool) (j : ℕ) → group_value k s j ≡ one (s j)
  unfolding number_at
  value_one s j =
      ap (λ (g : ℕ). number_at s (g * j) g) single
      ∙ (let place : 1 * j + 0 ≡ j = omega arith in let bit = ap (λ (x : ℕ). one (s x)) place in omega arith)

  pub bit_fits : (b : Bool) → one b < 2 ^ k.bits
  bit_fits b = subst (λ (g : ℕ). one b < 2 ^ g) (sym single) (omega (arith, one_small b))

  -- what is heard of a group is its encoded bit
  pub bit_heard : (chips : List ℕ) (i v : ℕ) → v ≡ (value_of k i (group_chips k chips i)).0 → eqb v 1 ≡ encoded_bit k 0 chips i
  unfolding encoded_bit heard
  bit_heard chips i v is =
      let d : ℕ → ℕ = λ u. distance (k.word i u) (group_chips k chips i) in
      let within : v ≤ 2 ^ k.bits - 1 = subst (λ (x : ℕ). x ≤ 2 ^ k.bits - 1) (sym is) (nearest_is d (2 ^ k.bits - 1)).within in
      let low : v ≤ 1 = subst (λ (g : ℕ). v ≤ 2 ^ g - 1) single within in
      let group : i / k.bits ≡ i = ap (λ (g : ℕ). i / g) single ∙ omega arith in
      let bit : i % k.bits ≡ 0 = ap (λ (g : ℕ). i % g) single ∙ omega arith in
      let value : v ≡ v / 2 ^ 0 % 2 = omega arith in
      let at : value_of k i (group_chips k chips i) ≡ value_of k (0 + i / k.bits) (group_chips k chips (i / k.bits))
      = ap (λ (p : ℕ). value_of k p (group_chips k chips i)) (sym (zero-add i)) ∙ ap (λ (p : ℕ). value_of k (0 + p) (group_chips k chips p)) (sym group) in
      ap (λ (x : ℕ). eqb x 1) value ∙ (ap (λ (x : ℕ). bit_at x 0) (is ∙ ap (λ r. r.0) at) ∙ ap (bit_at (value_of k (0 + i / k.bits) (group_chips k chips (i / k.bits))).0) (sym bit))

-- the slice of a group as the code takes it
pub group_slice : (k : Code) (n i : ℕ) (chips : List ℕ) → n ≡ k.chips → take (n * i + n - n * i) (drop (n * i) chips) ≡ group_chips k chips i
group_slice k n i chips e =
    let size : n * i + n - n * i ≡ k.chips = omega arith in
    let place : n * i ≡ i * k.chips = mul_comm n i ∙ ap (λ (x : ℕ). i * x) e in
    ap (λ (x : ℕ). take x (drop (n * i) chips)) size ∙ ap (λ (x : ℕ). take k.chips (drop x chips)) place

-- a group of chips is not refused
pub not_refused : (k : Code) (p i : ℕ) (chips : List ℕ) → AllChips chips → i * k.chips + k.chips ≤ length chips →
    despread_answer k p (group_chips k chips i) ≡ Ok (value_of k p (group_chips k chips i))
not_refused k p i chips all room =
    let xs : List ℕ = group_chips k chips i in
    let long : length xs ≡ k.chips = part_length k.chips chips i room in
    let good = judged_good Line k.chips xs long
    (every_leading xs
    (λ j h.
    let within : j < k.chips = omega arith in
    let read : get_or xs j 0 ≡ get_or chips (i * k.chips + j) 0 = get_or-take k.chips (drop (i * k.chips) chips) j 0 within ∙ get_or-drop (i * k.chips) chips j 0 in
    subst (λ (x : ℕ). x < 2) (sym read) (all (i * k.chips + j) (omega arith)))
    ∙ long) in
    sym (despread_ok k p xs tt (value_of k p xs) good refl)

-- the bit that is sent for the next bit of octets
pub bit_next : (os : List ℕ) (j : ℕ) (last : Bool) → last ≡ previous false (octet_stream os) j → not (beq (message_bit os j) last) ≡ octet_stream os j
unfolding octet_stream
bit_next os j last is = xor_is (message_bit os j) last ∙ (ap (λ b. message_bit os j ⊕ b) is ∙ sym (sent_step true false (message_bit os) j))

-- and the one before the next place
pub before_next : (s : ℕ → Bool) (j : ℕ) → previous false s (j + 1) ≡ s j
before_next s j = ap (previous false s) (let e : j + 1 ≡ suc j = omega arith in e)
