-- Few touched bits are few wrong and doubtful ones, and bits observed as sent cost nothing.
-- Assumes nothing.
use Rattle.std.proofs.Common.{◌≡◌, ℕ, zero, suc, ◌<◌, Bool, true, false, refl, arith}
use Rattle.codebits.specs.Bits.{◌⊕◌}
use Rattle.costs.specs.Kind.{Kind, cost_of}
use Rattle.costs.specs.Kinds.{count_kind, graded_kind}
use Rattle.costs.specs.declared.Observation.{Observation}
use Rattle.costs.specs.declared.Observation.TheVariants.{Sure}
use Rattle.nearest.specs.Messages.{psdu_bits, code_length}
use Rattle.exact.specs.Touched.{FewTouchedMended, CleanCostsNothing}
use Rattle.exact.proofs.Alone.{four_wrong_bits_mended, errors_and_erasures_mended}
use Rattle.exact.proofs.Untouched.{no_more}

xor_self : (a : Bool) → a ⊕ a ≡ false
xor_self true = refl
xor_self false = refl

pub few_touched_count : FewTouchedMended count_kind
few_touched_count t o L p h ip only few = four_wrong_bits_mended o L p h ip (omega (arith, (no_more o (psdu_bits p) t (code_length L) only).0))

pub few_touched_graded : FewTouchedMended graded_kind
few_touched_graded t o L p h ip only few = errors_and_erasures_mended o L p h ip (omega (arith, (no_more o (psdu_bits p) t (code_length L) only).1))

-- in a kind that charges nothing for a sure bit claimed as observed
clean :
    {C : Type 0} (kind : Kind Observation C) → ((x : Bool) → kind.charge kind.nothing (Sure x) x ≡ kind.nothing) →
    (o : ℕ → Observation) (c : ℕ → Bool) (n : ℕ) → ((j : ℕ) → j < n → o j ≡ Sure (c j)) → cost_of kind o c n ≡ kind.nothing
unfolding cost_of
clean kind free o c zero h = refl
clean kind free o c (suc n) h = cc (clean kind free o c n (λ j l. h j (omega arith)), h n (omega arith), free (c n))

pub clean_count : CleanCostsNothing count_kind
clean_count o L p h = clean count_kind (λ x. rw (xor_self x)) o (psdu_bits p) (code_length L) h

pub clean_graded : CleanCostsNothing graded_kind
clean_graded o L p h = clean graded_kind (λ x. rw (xor_self x)) o (psdu_bits p) (code_length L) h
