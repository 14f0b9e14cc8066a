-- Sums of bits, differential coding bit by bit, and its decoding.
-- Assumes nothing.
use Rattle.std.proofs.Common.{◌≡◌, ℕ, zero, suc, Bool, true, false, not, ◌&&◌, sym, refl, ap}
use mathlib.Core.Bool.{beq}
use Rattle.codebits.specs.Bits.{◌⊕◌, previous}
use Rattle.codebits.specs.Differential.{encoded, sent_bit, DecodingUndoesCoding}

pub xor_twice : (a b : Bool) → a ⊕ b ⊕ b ≡ a
xor_twice true true = refl
xor_twice true false = refl
xor_twice false true = refl
xor_twice false false = refl

pub decoding_undoes : DecodingUndoesCoding
unfolding encoded
decoding_undoes true last r zero = xor_twice (r 0) last
decoding_undoes true last r (suc i) = xor_twice (r (suc i)) (encoded last r (suc i))
decoding_undoes false last r i = refl

-- `^` on bits
pub xor_is : (a b : Bool) → not (beq a b) ≡ a ⊕ b
xor_is true true = refl
xor_is true false = refl
xor_is false true = refl
xor_is false false = refl

pub xor_false : (a : Bool) → a ⊕ false ≡ a
xor_false true = refl
xor_false false = refl

encoded_is : (e : Bool) (r : ℕ → Bool) (p : ℕ) → encoded e r p ≡ previous e (λ i. encoded e r (suc i)) p
unfolding encoded
encoded_is e r zero = refl
encoded_is e r (suc p) = refl

-- the bit that is sent is the raw bit, plus the one before under differential coding
pub sent_step : (d e : Bool) (r : ℕ → Bool) (p : ℕ) → sent_bit d e r p ≡ r p ⊕ (d && previous e (sent_bit d e r) p)
unfolding encoded
sent_step true e r p = ap (λ b. r p ⊕ b) (encoded_is e r p)
sent_step false e r p = sym (xor_false (r p))
