-- A PSDU that is near enough to the observed bits is the only nearest one, since every other is ten places from it.
-- Assumes nothing.
use Rattle.std.proofs.Common.{◌≡◌, ℕ, zero, suc, ◌+◌, ◌*◌, ◌^◌, ◌<◌, ◌≤◌, Bool, true, false, not, ◌&&◌, ◌≢◌, List, sym, ◌∙◌, inl, inr, arith, lit≤}
use Rattle.std.proofs.lemmas.Bool.{lt-leb, true≢false}
use Rattle.std.proofs.lemmas.Bool.Decides.{nat_tests}
use Rattle.codebits.specs.Bits.{◌⊕◌, one, count, differences}
use Rattle.codebits.specs.Message.{IsPsdu, message_bit, message_length}
use Rattle.costs.specs.Differences.{sure_differences}
use Rattle.costs.specs.Kind.{Kind}
use Rattle.costs.specs.Kinds.{count_kind, graded_kind}
use Rattle.costs.specs.Observed.{bit_of, doubt_of, doubts_of}
use Rattle.costs.specs.declared.Observation.{Observation}
use Rattle.costs.specs.declared.Observation.TheVariants.{Sure}
use Rattle.codebits.proofs.Numbers.{one_small}
use Rattle.costs.proofs.Tallies.{count_is, graded_is}
use Rattle.nearest.specs.Messages.{longest_psdu, psdu_bits, code_length}
use Rattle.nearest.specs.Nearest.{psdu_cost}
use Rattle.nearest.proofs.Octets.{message_ends, differ, room}
use Rattle.nearest.proofs.Path.{within_budget}
use Rattle.nearest.proofs.Weight.{ten_apart}
use Rattle.exact.specs.Mended.{AloneNearest, FourWrongBitsMended, ErrorsAndErasuresMended}
use Rattle.exact.proofs.Counting.{count_none}

-- where two claims differ, the observed bit differs from one of them or is doubtful
place : (doubt bit a b : Bool) → one (a ⊕ b) ≤ one (not doubt && (bit ⊕ a)) + one (not doubt && (bit ⊕ b)) + one doubt
place true bit a b = one_small (a ⊕ b)
place false true true b = omega arith
place false true false b = omega (arith, one_small b)
place false false true b = omega (arith, one_small (not b))
place false false false b = omega arith

pub between : (o : ℕ → Observation) (a b : ℕ → Bool) (n : ℕ) → differences a b n ≤ sure_differences o a n + sure_differences o b n + count (doubts_of o) n
unfolding differences sure_differences count
between o a b zero = lit≤ tt
between o a b (suc n) = omega (arith, between o a b n, place (doubt_of (o n)) (bit_of (o n)) (a n) (b n))

-- two PSDUs that differ have code bits that differ in ten places
pub far_apart : (L : ℕ) (p q : List ℕ) → IsPsdu L p → IsPsdu L q → (k : ℕ) → message_bit p k ≢ message_bit q k → 10 ≤ differences (psdu_bits p) (psdu_bits q) (code_length L)
far_apart L p q ip iq = ten_apart (8 * L) (message_length L) (message_bit p) (message_bit q) (room L) (message_ends L p ip) (message_ends L q iq)

-- a PSDU is alone the nearest if each one whose code bits are ten places from its own is dearer
pub alone :
    {O C : Type 0} (kind : Kind O C) (observed : ℕ → O) (L : ℕ) (p : List ℕ) → IsPsdu L p →
    ((q : List ℕ) → 10 ≤ differences (psdu_bits q) (psdu_bits p) (code_length L) → kind.at_most (psdu_cost kind observed L q) (psdu_cost kind observed L p) ≡ false) →
    AloneNearest kind observed L p
alone kind observed L p ip far = record {
  others_dearer = λ q iq ne. elim (differ L q p iq ip) [ inl e ↦ absurd (ne e) | inr (k, at) ↦ far q (far_apart L q p iq ip k at) ];
  returned = λ q told near. elim (differ L q p near.is_rival ip) [
    | inl e ↦ e
    | inr (k, at) ↦ absurd (true≢false (sym (near.none_cheaper p ip) ∙ far q (far_apart L q p near.is_rival ip k at)))
  ];
}

few : (L : ℕ) → L ≤ longest_psdu → code_length L < 2 ^ 32
few L h = omega (arith, within_budget L h)

pub errors_and_erasures_mended : ErrorsAndErasuresMended
errors_and_erasures_mended o L p h ip near =
    alone graded_kind o L p ip
    (λ q far.
    let less : sure_differences o (psdu_bits p) (code_length L) < sure_differences o (psdu_bits q) (code_length L) =
    omega (arith, between o (psdu_bits q) (psdu_bits p) (code_length L)) in
    rw (graded_is o (psdu_bits q) (code_length L) (few L h), graded_is o (psdu_bits p) (code_length L) (few L h)) (grind (arith, nat_tests)))

-- the count takes every bit for sure
sure : (ℕ → Observation) → ℕ → Observation
sure o j = Sure (bit_of (o j))

pub four_wrong_bits_mended : FourWrongBitsMended
unfolding sure sure_differences differences
four_wrong_bits_mended o L p h ip near =
    alone count_kind o L p ip
    (λ q far.
    rw (count_is o (psdu_bits q) (code_length L) (few L h), count_is o (psdu_bits p) (code_length L) (few L h))
    (lt-leb _ _ (omega (arith, between (sure o) (psdu_bits q) (psdu_bits p) (code_length L), count_none (code_length L)))))
