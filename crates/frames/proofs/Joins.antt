-- Blocks join: what is read from a run of chips is read from its blocks in turn.
-- Assumes nothing.
use Rattle.std.proofs.Common.{◌≡◌, ℕ, zero, suc, ◌+◌, ◌*◌, ◌/◌, ◌%◌, ◌<◌, ◌≤◌, Bool, true, false, List, ◌++◌, length, sym, refl, ap, ◌∙◌, add-zero, add-suc, mul_assoc, zero-add, arith}
use Rattle.std.proofs.lemmas.Nat.{div_below}
use Rattle.linecode.specs.Codes.{Code, Lawful, value_of}
use Rattle.codebits.specs.Bits.{bit_at, previous}
use Rattle.codebits.specs.Interleaving.{moved_in, moved}
use Rattle.codebits.specs.Differential.{decoded_bit, decoded_doubt}
use Rattle.codebits.proofs.Places.{moved_below}
use Rattle.frames.specs.Sent.{block_groups, block_chips, group_chips}
use Rattle.frames.specs.Heard.{heard, encoded_bit, encoded_doubt, observed, doubtful}
use Rattle.frames.specs.Joined.{block_observed, block_doubtful, last_bit, last_doubt, BlocksJoin}
use Rattle.frames.proofs.Widths.{some_bits, whole_groups, place_group, place_bit}
use Rattle.frames.proofs.Parts.{part_ends, part_front, part_after}

-- the same stream, or one that goes on from place n on
previous_same : (a : Bool) (s t : ℕ → Bool) (i : ℕ) → ((n : ℕ) → n < i → s n ≡ t n) → previous a s i ≡ previous a t i
previous_same a s t zero h = refl
previous_same a s t (suc i) h = h i (omega arith)

previous_from : (a : Bool) (s t : ℕ → Bool) (m i : ℕ) → ((n : ℕ) → n < i → s (m + n) ≡ t n) → previous a s (m + i) ≡ previous (previous a s m) t i
previous_from a s t m zero h = ap (previous a s) (add-zero m)
previous_from a s t m (suc i) h = ap (previous a s) (add-suc m i) ∙ h i (omega arith)

pub bit_same : (d a : Bool) (s t : ℕ → Bool) (i : ℕ) → ((n : ℕ) → n ≤ i → s n ≡ t n) → decoded_bit d a s i ≡ decoded_bit d a t i
bit_same true a s t i h = cc (h i (omega arith), previous_same a s t i (λ n l. h n (omega arith)))
bit_same false a s t i h = h i (omega arith)

pub doubt_same : (d a : Bool) (s t : ℕ → Bool) (i : ℕ) → ((n : ℕ) → n ≤ i → s n ≡ t n) → decoded_doubt d a s i ≡ decoded_doubt d a t i
doubt_same true a s t i h = cc (h i (omega arith), previous_same a s t i (λ n l. h n (omega arith)))
doubt_same false a s t i h = h i (omega arith)

bit_from : (d a : Bool) (s t : ℕ → Bool) (m i : ℕ) → ((n : ℕ) → n ≤ i → s (m + n) ≡ t n) → decoded_bit d a s (m + i) ≡ decoded_bit d (previous a s m) t i
bit_from true a s t m i h = cc (h i (omega arith), previous_from a s t m i (λ n l. h n (omega arith)))
bit_from false a s t m i h = h i (omega arith)

doubt_from : (d a : Bool) (s t : ℕ → Bool) (m i : ℕ) → ((n : ℕ) → n ≤ i → s (m + n) ≡ t n) → decoded_doubt d a s (m + i) ≡ decoded_doubt d (previous a s m) t i
doubt_from true a s t m i h = cc (h i (omega arith), previous_from a s t m i (λ n l. h n (omega arith)))
doubt_from false a s t m i h = h i (omega arith)

module _ (k : Code) (l : Lawful k) (b : ℕ) (front block : List ℕ) (long : length front ≡ b * block_chips k) where
  -- groups of the front, and groups after it
  heard_front : (j : ℕ) → j < b * block_groups k → heard k 0 (front ++ block) j ≡ heard k 0 front j
  unfolding heard
  heard_front j h = ap (value_of k (0 + j)) (part_front k.chips front block j (omega (arith, part_ends (b * block_groups k) k.chips j h)))

  heard_after : (j : ℕ) → heard k 0 (front ++ block) (b * block_groups k + j) ≡ heard k (b * block_groups k) block j
  unfolding heard
  heard_after j =
      ap (λ p. value_of k p (group_chips k (front ++ block) (b * block_groups k + j))) (zero-add (b * block_groups k + j))
      ∙ ap (value_of k (b * block_groups k + j)) (part_after k.chips (b * block_groups k) front block j (long ∙ sym (mul_assoc b (block_groups k) k.chips)))

  -- encoded bits
  within : (i : ℕ) → i < 176 * b → i / k.bits < b * block_groups k
  within i h = div_below i k.bits (b * block_groups k) (some_bits k.bits l.width) (omega (arith, whole_groups b k.bits l.width))

  encoded_front : (i : ℕ) → i < 176 * b → encoded_bit k 0 (front ++ block) i ≡ encoded_bit k 0 front i
  unfolding encoded_bit
  encoded_front i h = ap (λ r. bit_at r.0 (i % k.bits)) (heard_front (i / k.bits) (within i h))

  doubted_front : (i : ℕ) → i < 176 * b → encoded_doubt k 0 (front ++ block) i ≡ encoded_doubt k 0 front i
  unfolding encoded_doubt
  doubted_front i h = ap (λ r. r.1) (heard_front (i / k.bits) (within i h))

  heard_at : (i : ℕ) → heard k 0 (front ++ block) ((176 * b + i) / k.bits) ≡ heard k (b * block_groups k) block (i / k.bits)
  heard_at i = ap (heard k 0 (front ++ block)) (place_group b i k.bits l.width) ∙ heard_after (i / k.bits)

  encoded_after : (i : ℕ) → encoded_bit k 0 (front ++ block) (176 * b + i) ≡ encoded_bit k (b * block_groups k) block i
  unfolding encoded_bit
  encoded_after i =
      ap (λ r. bit_at r.0 ((176 * b + i) % k.bits)) (heard_at i)
      ∙ ap (bit_at (heard k (b * block_groups k) block (i / k.bits)).0) (place_bit b i k.bits l.width)

  doubted_after : (i : ℕ) → encoded_doubt k 0 (front ++ block) (176 * b + i) ≡ encoded_doubt k (b * block_groups k) block i
  unfolding encoded_doubt
  doubted_after i = ap (λ r. r.1) (heard_at i)

moved_at : (b j : ℕ) → j < 176 → moved (176 * b + j) ≡ 176 * b + moved_in j
unfolding moved
moved_at b j h =
    let row : (176 * b + j) / 176 ≡ b = omega arith in
    let column : (176 * b + j) % 176 ≡ j = omega arith in
    rw (row, column)

pub blocks_join : BlocksJoin
unfolding observed doubtful block_observed block_doubtful last_bit last_doubt
blocks_join f l b front block long =
    let k = f.code in
    let d = f.differential in
    let first = b * block_groups k in
    let bits = encoded_bit k 0 (front ++ block) in
    let doubts = encoded_doubt k 0 (front ++ block) in
    let end : 176 * (b + 1) ≡ suc (176 * b + 175) = omega arith in
    record {
      earlier = λ j h.
          let place = moved_below b j h in (
            bit_same d f.last bits (encoded_bit k 0 front) (moved j) (λ n le. encoded_front k l b front block long n (omega arith)),
            doubt_same d false doubts (encoded_doubt k 0 front) (moved j) (λ n le. doubted_front k l b front block long n (omega arith)),
          );
      next_observed = λ j h.
          ap (decoded_bit d f.last bits) (moved_at b j h)
          ∙ (bit_from d f.last bits (encoded_bit k first block) (176 * b) (moved_in j) (λ n le. encoded_after k l b front block long n)
          ∙ ap (λ a. decoded_bit d a (encoded_bit k first block) (moved_in j)) (previous_same f.last bits (encoded_bit k 0 front) (176 * b) (encoded_front k l b front block long)));
      next_doubtful = λ j h.
          ap (decoded_doubt d false doubts) (moved_at b j h)
          ∙ (doubt_from d false doubts (encoded_doubt k first block) (176 * b) (moved_in j) (λ n le. doubted_after k l b front block long n)
          ∙ ap (λ a. decoded_doubt d a (encoded_doubt k first block) (moved_in j)) (previous_same false doubts (encoded_doubt k 0 front) (176 * b) (doubted_front k l b front block long)));
      next_last_bit = ap (previous f.last bits) end ∙ encoded_after k l b front block long 175;
      next_last_doubt = ap (previous false doubts) end ∙ doubted_after k l b front block long 175;
    }
