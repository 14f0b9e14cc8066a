-- Where the groups are read as they were sent, so are the encoded bits, and the code bits.
-- Assumes nothing.
use Rattle.std.proofs.Common.{◌≡◌, ℕ, zero, suc, ◌*◌, ◌/◌, ◌%◌, ◌^◌, ◌<◌, ◌≤◌, Bool, true, false, List, sym, refl, ap, ◌∙◌, zero-add, arith}
use native.Mathlib.Nat.{div-add-mod}
use Rattle.std.proofs.lemmas.Nat.{mod_below, div_below}
use Rattle.std.proofs.lemmas.Bool.{or_parts, or_from}
use Rattle.linecode.specs.Codes.{Code, Lawful, value_of, least_distance}
use Rattle.linecode.proofs.Hearing.{value_near, value_clean}
use Rattle.linecode.proofs.Least.{is_least}
use Rattle.codebits.specs.Bits.{◌⊕◌, bit_at}
use Rattle.codebits.specs.Message.{blocks, message_bit}
use Rattle.codebits.specs.Convolution.{code_bit}
use Rattle.codebits.specs.Interleaving.{moved}
use Rattle.codebits.specs.Differential.{encoded, sent_bit, decoded_bit, decoded_doubt}
use Rattle.codebits.proofs.Numbers.{number_below, number_bit}
use Rattle.codebits.proofs.Coding.{xor_twice}
use Rattle.codebits.proofs.Places.{moved_below, permutation}
use Rattle.frames.specs.Sent.{Frame, interleaved, psdu_bit, group_value, groups, group_chips, sent_chips, spread_groups}
use Rattle.frames.specs.Heard.{heard, encoded_bit, encoded_doubt, observed, doubtful, UnwreckedHeard, SentHeard}
use Rattle.frames.proofs.Widths.{some_bits, whole_groups, groups_few}
use Rattle.frames.proofs.Parts.{part_length}
use Rattle.frames.proofs.Cuts.{group_part}

-- group j is read as the stream s has it, for sure
abbrev pub Agrees : Code → (ℕ → Bool) → List ℕ → ℕ → Type 0
Agrees k s chips j = heard k 0 chips j ≡ (group_value k s j, false)

pub unwrecked_heard : UnwreckedHeard
unfolding heard
unwrecked_heard k l s chips j early room few =
    let v = group_value k s j in
    let hv = number_below s (k.bits * j) k.bits in
    ap (λ p. value_of k p (group_chips k chips j)) (zero-add j)
    ∙ value_near k l j v early hv (group_chips k chips j) (part_length k.chips chips j room) (least_distance k j)
    (λ u hu other. (is_least k l j early).none_nearer v u hv hu (λ e. other (sym e))) few

-- the groups of a stream as they are sent
pub sent_agrees : (k : Code) → Lawful k → (s : ℕ → Bool) (m j : ℕ) → m ≤ 2 ^ 32 → j < m → Agrees k s (spread_groups k s 0 m) j
unfolding heard
sent_agrees k l s m j few h =
    ap (λ p. value_of k p (group_chips k (spread_groups k s 0 m) j)) (zero-add j)
    ∙ (ap (value_of k j) (group_part k l s j m few h) ∙ value_clean k l j (group_value k s j) (omega arith) (number_below s (k.bits * j) k.bits))

-- encoded bits
pub encoded_agrees : (k : Code) (s : ℕ → Bool) (chips : List ℕ) → Lawful k → (i : ℕ) → Agrees k s chips (i / k.bits) →
    (encoded_bit k 0 chips i ≡ s i) × (encoded_doubt k 0 chips i ≡ false)
unfolding encoded_bit encoded_doubt
encoded_agrees k s chips l i a =
    let g = k.bits in
    (ap (λ r. bit_at r.0 (i % g)) a ∙ (number_bit s (g * (i / g)) g (i % g) (mod_below i g (some_bits g l.width)) ∙ ap s (div-add-mod i g)), ap (λ r. r.1) a)

-- decoded bits, where t tells which encoded bits may be touched
pub decoded_agrees :
    (d last : Bool) (r bits doubts t : ℕ → Bool) (i : ℕ) →
    ((n : ℕ) → n ≤ i → t n ≡ false → (bits n ≡ sent_bit d last r n) × (doubts n ≡ false)) →
    decoded_doubt d false t i ≡ false → (decoded_bit d last bits i ≡ r i) × (decoded_doubt d false doubts i ≡ false)
unfolding encoded
decoded_agrees false last r bits doubts t i h z = h i (omega arith) z
decoded_agrees true last r bits doubts t zero h z =
    let here = h 0 (omega arith) (or_parts (t 0) false z).0 in
    (ap (λ b. b ⊕ last) here.0 ∙ xor_twice (r 0) last, or_from (doubts 0) false here.1 refl)
decoded_agrees true last r bits doubts t (suc i) h z =
    let parts = or_parts (t (suc i)) (t i) z in
    let here = h (suc i) (omega arith) parts.0 in
    let back = h i (omega arith) parts.1 in (
      ap (λ b. b ⊕ bits i) here.0 ∙ (ap (λ b. encoded last r (suc (suc i)) ⊕ b) back.0 ∙ xor_twice (r (suc i)) (encoded last r (suc i))),
      or_from (doubts (suc i)) (doubts i) here.1 back.1,
    )

-- which decoded bits may be touched, where w tells it of the groups
abbrev pub touched_by : Frame → (ℕ → Bool) → ℕ → Bool
touched_by f w = decoded_doubt f.differential false (λ i. w (i / f.code.bits))

module _ (f : Frame) (q chips : List ℕ) (l : Lawful f.code) (w : ℕ → Bool) (agrees : (j : ℕ) → j < groups f → w j ≡ false → Agrees f.code (psdu_bit f q) chips j) where
  -- a code bit that is not touched is observed as the PSDU has it, for sure
  pub untouched : (j : ℕ) → j < 176 * blocks f.octets → touched_by f w (moved j) ≡ false →
      (observed f chips j ≡ code_bit (message_bit q) j) × (doubtful f chips j ≡ false)
  unfolding observed doubtful psdu_bit
  untouched j h z =
      let k = f.code in
      let b = blocks f.octets in
      let place : moved j < 176 * b = moved_below b j h in
      let read =
      decoded_agrees f.differential f.last (interleaved q) (encoded_bit k 0 chips) (encoded_doubt k 0 chips) (λ i. w (i / k.bits)) (moved j)
      (λ n le t.
      encoded_agrees k (psdu_bit f q) chips l n
      (agrees (n / k.bits) (div_below n k.bits (groups f) (some_bits k.bits l.width) (omega (arith, whole_groups b k.bits l.width))) t))
      z in
      (read.0 ∙ ap (code_bit (message_bit q)) (permutation.all_origin_moved j), read.1)

none_touched : (d : Bool) (i : ℕ) → decoded_doubt d false (λ n. false) i ≡ false
none_touched true zero = refl
none_touched true (suc i) = refl
none_touched false i = refl

pub sent_heard : SentHeard
sent_heard f q l few j h =
    let room = groups_few f l few in
    untouched f q (sent_chips f q) l (λ n. false) (λ n lt z. sent_agrees f.code l (psdu_bit f q) (groups f) n (omega arith) lt) j (omega arith) (none_touched f.differential (moved j))
