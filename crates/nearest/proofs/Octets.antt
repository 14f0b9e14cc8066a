-- A PSDU and its message say the same.
-- Assumes nothing.
use Rattle.std.proofs.Common.{◌≡◌, ℕ, zero, suc, ◌+◌, ◌*◌, ◌/◌, ◌%◌, ◌≤◌, Bool, ◌≢◌, ◌⊎◌, List, sym, ap, ◌∙◌, inl, inr, add-one, arith, below_more}
use mathlib.Core.Bool.{Bool-discrete}
use Rattle.std.proofs.lemmas.List.FromFn.{length-map-range_with_len, get_or-map-range_with_len}
use Rattle.std.proofs.lemmas.List.{get_or_past}
use Rattle.std.proofs.lemmas.Bool.{cases_lt}
use Rattle.codebits.proofs.Numbers.{number_below, number_bit}
use Rattle.codebits.proofs.Determines.{determines}
use Rattle.codebits.specs.Message.{IsPsdu, message_bit, message_length, tail_bits, octet_of, octets_of}
use Rattle.nearest.specs.Messages.{ZeroFrom, SameBelow, MessagesArePsdus}
use Rattle.nearest.proofs.Numbers.{zero_bit}

pub message_ends : (L : ℕ) (p : List ℕ) → IsPsdu L p → ZeroFrom (8 * L) (message_bit p)
unfolding message_bit
message_ends L p (e, small) k h = rw (get_or_past p (k / 8) 0 (omega arith)) (zero_bit (k % 8))

pub octets_psdu : (L : ℕ) (m : ℕ → Bool) → IsPsdu L (octets_of L m)
unfolding octets_of octet_of
octets_psdu L m = (
  length-map-range_with_len (octet_of m) 0 L,
  λ i h. rw (get_or-map-range_with_len (octet_of m) 0 L i i 0 h (omega arith)) (number_below m (8 * i) 8),
)

pub octets_bit : (L : ℕ) (m : ℕ → Bool) → ZeroFrom (8 * L) m → (k : ℕ) → message_bit (octets_of L m) k ≡ m k
unfolding message_bit octets_of octet_of
octets_bit L m z k = elim (cases_lt k (8 * L)) [
  | inl lt ↦
      let at : 8 * (k / 8) + k % 8 ≡ k = omega arith in
      rw (get_or-map-range_with_len (octet_of m) 0 L (k / 8) (k / 8) 0 (omega arith) (omega arith)) (number_bit m (8 * (k / 8)) 8 (k % 8) (omega arith) ∙ ap m at)
  | inr ge ↦ message_ends L (octets_of L m) (octets_psdu L m) k ge ∙ sym (z k ge)
]

pub same_psdu : (L : ℕ) (p q : List ℕ) → IsPsdu L p → IsPsdu L q → SameBelow (8 * L) (message_bit p) (message_bit q) → p ≡ q
same_psdu = determines.same_psdu

pub messages_are_psdus : MessagesArePsdus
messages_are_psdus = record { ends = message_ends; is_psdu = octets_psdu; its_bits = octets_bit }

-- a message has room for the PSDU and six zeros
pub room : (L : ℕ) → 8 * L + tail_bits ≤ message_length L
room L = omega arith

same_or_not : (x y : ℕ → Bool) (n : ℕ) → SameBelow n x y ⊎ ((k : ℕ) × (x k ≢ y k))
same_or_not x y zero = inl (λ i l. absurd (omega arith))
same_or_not x y (suc n) = elim (same_or_not x y n) [ inr ne ↦ inr ne | inl all ↦ here all (Bool-discrete (x n) (y n)) ]
  where
    here : SameBelow n x y → Dec (x n ≡ y n) → SameBelow (suc n) x y ⊎ ((k : ℕ) × (x k ≢ y k))
    here all (yes e) = inl (rw (← add-one n) (below_more (λ i. x i ≡ y i) n all e))
    here all (no ne) = inr (n, ne)

-- two PSDUs are equal, or their bits differ somewhere
pub differ : (L : ℕ) (p q : List ℕ) → IsPsdu L p → IsPsdu L q → (p ≡ q) ⊎ ((k : ℕ) × (message_bit p k ≢ message_bit q k))
differ L p q ip iq = elim (same_or_not (message_bit p) (message_bit q) (8 * L)) [ inl all ↦ inl (same_psdu L p q ip iq all) | inr ne ↦ inr ne ]
