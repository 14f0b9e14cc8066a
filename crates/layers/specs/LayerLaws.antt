-- An alternation is a line code.
-- Assumes nothing.
use Rattle.std.specs.Prelude.{◌≡◌, ℕ, ◌%◌, ◌^◌, ◌<◌, Bool, true, false, cond, not, ◌||◌, ◌==◌, refl}
use Rattle.std.proofs.Common.{sym, subst, ◌∙◌, ⊎_elim}
use Rattle.std.proofs.lemmas.Bool.{eqb-true, cases_Bool, and_parts}
use Rattle.linecode.specs.Codes.{Code, Lawful}
use Rattle.layers.specs.Layers.{alike, in_use, alternating}

-- a code that is lawful and of the make of a
pub record OfMake (a k : Code) : Type 0 where
  pub bits : k.bits ≡ a.bits
  pub chips : k.chips ≡ a.chips

module _ (a b : Code) where
  same_make : alike a b ≡ true → OfMake a b
  same_make t =
      let both = and_parts (a.bits == b.bits) (a.chips == b.chips) t in
      record { bits = sym (eqb-true a.bits b.bits both.0); chips = sym (eqb-true a.chips b.chips both.1) }

  by_case : (P : Code → Type 0) → P a → (alike a b ≡ true → P b) → (even : Bool) → P (cond (even || not (alike a b)) a b)
  by_case P at_a at_b true = at_a
  by_case P at_a at_b false =
      ⊎_elim
      (λ t. subst (λ (s : Bool). P (cond (not s) a b)) (sym t) (at_b t))
      (λ f. subst (λ (s : Bool). P (cond (not s) a b)) (sym f) at_a)
      (cases_Bool (alike a b))

  -- the code in use is of the make of the first
  pub in_use_make : (p : ℕ) → OfMake a (in_use a b p)
  in_use_make p = by_case (OfMake a) (record { bits = refl; chips = refl }) same_make (p % 2 == 0)

  module _ (la : Lawful a) (lb : Lawful b) where
    pub in_use_lawful : (p : ℕ) → Lawful (in_use a b p)
    in_use_lawful p = by_case Lawful la (λ _. lb) (p % 2 == 0)

    value_in : (p v : ℕ) → v < 2 ^ a.bits → v < 2 ^ (in_use a b p).bits
    value_in p v h = subst (λ (g : ℕ). v < 2 ^ g) (sym (in_use_make p).bits) h

    pub alternating_lawful : Lawful (alternating a b)
    alternating_lawful = record {
      width = la.width;
      some = la.some;
      few = la.few;
      sized = λ p v hp hv. (in_use_lawful p).sized p v hp (value_in p v hv) ∙ (in_use_make p).chips;
      binary = λ p v i hp hv hi. (in_use_lawful p).binary p v i hp (value_in p v hv) (subst (λ (n : ℕ). i < n) (sym (in_use_make p).chips) hi);
      apart = λ p v u hp hv hu e. (in_use_lawful p).apart p v u hp (value_in p v hv) (value_in p u hu) e;
    }
