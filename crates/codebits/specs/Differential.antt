-- Differential coding: each bit that is sent is the sum modulo 2 of the raw bit and the bit sent before it.
-- Assumes nothing.
use Rattle.std.specs.Prelude.{◌≡◌, ℕ, zero, suc, Bool, true, false, ◌||◌}
use Rattle.codebits.specs.Bits.{◌⊕◌, previous}

-- the encoded bit before place n of a stream r that starts after the encoded bit `last`: E_n = R_n ⊕ E_(n−1)
unfoldable pub encoded : Bool → (ℕ → Bool) → ℕ → Bool
encoded last r zero = last
encoded last r (suc n) = r n ⊕ encoded last r n

-- bit p of a stream as it is sent: under differential coding (true) its encoded bit, else the bit itself
abbrev pub sent_bit : Bool → Bool → (ℕ → Bool) → ℕ → Bool
sent_bit true last r p = encoded last r (suc p)
sent_bit false last r p = r p

-- decoded bit i of a stream of received bits, after the encoded bit `last`
abbrev pub decoded_bit : Bool → Bool → (ℕ → Bool) → ℕ → Bool
decoded_bit true last bits i = bits i ⊕ previous last bits i
decoded_bit false last bits i = bits i

-- under differential coding it is doubtful if either encoded bit is
abbrev pub decoded_doubt : Bool → Bool → (ℕ → Bool) → ℕ → Bool
decoded_doubt true last doubts i = doubts i || previous last doubts i
decoded_doubt false last doubts i = doubts i

-- decoding undoes coding
abbrev pub DecodingUndoesCoding : Type 0
DecodingUndoesCoding = (differential last : Bool) (r : ℕ → Bool) (i : ℕ) → decoded_bit differential last (sent_bit differential last r) i ≡ r i
