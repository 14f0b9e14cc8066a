-- The message as a list: its length, and its bits.
-- Assumes nothing.
use Rattle.std.proofs.Common.{◌≡◌, ℕ, zero, suc, ◌+◌, ◌-◌, ◌*◌, ◌/◌, ◌%◌, ◌^◌, ◌<◌, ◌≤◌, Bool, false, eqb, List, [], ◌∷◌, ◌++◌, map, length, get_or, replicate, sym, refl, ap, ◌∙◌, ⊎_elim, arith}
use native.Mathlib.Nat.{zero-div}
use Rattle.std.specs.List.{range_with_len}
use Rattle.std.proofs.lemmas.List.{length-append, length-replicate, get_or_append_left, get_or-append_right, get_or_past, replicate-append-replicate}
use Rattle.std.proofs.lemmas.List.FromFn.{length-map-range_with_len, get_or-map-range_with_len}
use Rattle.std.proofs.lemmas.Bool.{cases_lt}
use Rattle.codebits.specs.Bits.{bit_at}
use Rattle.codebits.specs.Message.{tail_bits, pad_bits, message_bit, message_length, octet_bits, message, MessageListed}

octet_bits_length : (p : List ℕ) → length (octet_bits p) ≡ 8 * length p
unfolding octet_bits
octet_bits_length [] = refl
octet_bits_length (o ∷ p) = simp (length-append, length-map-range_with_len) (omega (arith, octet_bits_length p))

-- past its octets a message is zero
pub message_past : (p : List ℕ) (k : ℕ) → 8 * length p ≤ k → message_bit p k ≡ false
unfolding message_bit
message_past p k h =
    let past : length p ≤ k / 8 = omega arith in
    rw get_or_past (ap (λ (n : ℕ). eqb (n % 2) 1) (zero-div (2 ^ (k % 8))))

-- the first octet gives the first eight bits, the others the rest
message_first : (o : ℕ) (p : List ℕ) (k : ℕ) → k < 8 → message_bit (o ∷ p) k ≡ bit_at o k
unfolding message_bit
message_first o p k h =
    let row : k / 8 ≡ 0 = omega arith in
    let column : k % 8 ≡ k = omega arith in
    rw (row, column)

message_next : (o : ℕ) (p : List ℕ) (k : ℕ) → message_bit (o ∷ p) (8 + k) ≡ message_bit p k
unfolding message_bit
message_next o p k =
    let row : (8 + k) / 8 ≡ suc (k / 8) = omega arith in
    let column : (8 + k) % 8 ≡ k % 8 = omega arith in
    rw (row, column)

octet_bits_at : (p : List ℕ) (k : ℕ) → get_or (octet_bits p) k false ≡ message_bit p k
unfolding octet_bits
octet_bits_at [] k = sym (message_past [] k (omega arith))
octet_bits_at (o ∷ p) k =
    let here : List Bool = map (bit_at o) (range_with_len 0 8) in
    ⊎_elim
    (λ lt. get_or_append_left here (octet_bits p) false k lt ∙ (get_or-map-range_with_len (bit_at o) 0 8 k k false lt (omega arith) ∙ sym (message_first o p k lt)))
    (λ ge.
    let at : 8 + (k - 8) ≡ k = omega arith in
    get_or-append_right here (octet_bits p) 8 k false (length-map-range_with_len (bit_at o) 0 8) ge
    ∙ (octet_bits_at p (k - 8) ∙ (sym (message_next o p (k - 8)) ∙ ap (message_bit (o ∷ p)) at)))
    (cases_lt k 8)

zeros_at : (n k : ℕ) → get_or (replicate n false) k false ≡ false
zeros_at zero k = refl
zeros_at (suc n) zero = refl
zeros_at (suc n) (suc k) = zeros_at n k

padded : (xs : List Bool) (n k : ℕ) → get_or (xs ++ replicate n false) k false ≡ get_or xs k false
padded [] n k = zeros_at n k
padded (x ∷ xs) n zero = refl
padded (x ∷ xs) n (suc k) = padded xs n k

length_of_message : (p : List ℕ) → length (message p) ≡ message_length (length p)
unfolding message
length_of_message p = simp (length-append, length-replicate) (omega (arith, octet_bits_length p))

message_at : (p : List ℕ) (k : ℕ) → get_or (message p) k false ≡ message_bit p k
unfolding message
message_at p k =
    ap (λ xs. get_or (octet_bits p ++ xs) k false) (replicate-append-replicate tail_bits (pad_bits (length p)) false)
    ∙ (padded (octet_bits p) (tail_bits + pad_bits (length p)) k ∙ octet_bits_at p k)

pub listed : MessageListed
listed = record { length_of_message = length_of_message; message_at = message_at }
