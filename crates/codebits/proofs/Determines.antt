-- A PSDU is read off its message.
-- Assumes nothing.
use Rattle.std.proofs.Common.{◌≡◌, ℕ, ◌+◌, ◌*◌, ◌/◌, ◌%◌, ◌<◌, Bool, List, get_or, sym, ◌∙◌, arith}
use Rattle.std.proofs.lemmas.List.{ext_get_or}
use Rattle.std.proofs.lemmas.List.FromFn.{length-map-range_with_len, get_or-map-range_with_len}
use Rattle.codebits.specs.Bits.{bit_at}
use Rattle.codebits.specs.Message.{IsPsdu, message_bit, octet_of, octets_of, MessageDetermines}
use Rattle.codebits.proofs.Numbers.{number_mod, number_same}

-- the bits of octet i
pub message_at_octet : (p : List ℕ) (i r : ℕ) → r < 8 → message_bit p (8 * i + r) ≡ bit_at (get_or p i 0) r
unfolding message_bit
message_at_octet p i r h =
    let row : (8 * i + r) / 8 ≡ i = omega arith in
    let column : (8 * i + r) % 8 ≡ r = omega arith in
    rw (row, column)

octet_back : (p : List ℕ) (i : ℕ) → get_or p i 0 < 256 → octet_of (message_bit p) i ≡ get_or p i 0
unfolding octet_of
octet_back p i h = number_mod (message_bit p) (8 * i) (get_or p i 0) 8 (message_at_octet p i) ∙ omega arith

octets_back : (L : ℕ) (p : List ℕ) → IsPsdu L p → octets_of L (message_bit p) ≡ p
unfolding octets_of
octets_back L p (long, octets) =
    ext_get_or 0 _ p (length-map-range_with_len (octet_of (message_bit p)) 0 L ∙ sym long)
    (λ i h.
    let within : i < L = omega (arith, length-map-range_with_len (octet_of (message_bit p)) 0 L) in
    get_or-map-range_with_len (octet_of (message_bit p)) 0 L i i 0 within (omega arith) ∙ octet_back p i (octets i within))

-- the first L octets depend on the first 8 × L bits alone
octets_same : (L : ℕ) (s t : ℕ → Bool) → ((k : ℕ) → k < 8 * L → s k ≡ t k) → octets_of L s ≡ octets_of L t
unfolding octets_of octet_of
octets_same L s t h =
    ext_get_or 0 _ _ (length-map-range_with_len (octet_of s) 0 L ∙ sym (length-map-range_with_len (octet_of t) 0 L))
    (λ i lt.
    let within : i < L = omega (arith, length-map-range_with_len (octet_of s) 0 L) in
    get_or-map-range_with_len (octet_of s) 0 L i i 0 within (omega arith)
    ∙ (number_same s t (8 * i) (8 * i) 8 (λ r l. h (8 * i + r) (omega arith)) ∙ sym (get_or-map-range_with_len (octet_of t) 0 L i i 0 within (omega arith))))

pub determines : MessageDetermines
determines = record {
  octets_back = octets_back;
  same_psdu = λ L p q ip iq same. sym (octets_back L p ip) ∙ (octets_same L (message_bit p) (message_bit q) same ∙ octets_back L q iq);
}
