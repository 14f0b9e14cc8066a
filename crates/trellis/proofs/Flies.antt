-- A butterfly: the ways to states 2 * j and 2 * j + 1, by the two code bits that are claimed where a 0 follows state j.
-- Assumes nothing.
use Rattle.std.proofs.Common.{◌≡◌, ℕ, ◌+◌, ◌*◌, ◌/◌, ◌^◌, ◌<◌, Bool, true, false, cond, not, ◌&&◌, sym, refl, ◌∙◌, arith, lit<}
use Rattle.codebits.specs.Bits.{◌⊕◌, one, bit_at}
use Rattle.costs.specs.Kind.{Kind}
use Rattle.nearest.specs.Trellis.{first_of, second_of, charged_both, candidate, takes, stepped}
use Rattle.nearest.proofs.Numbers.{bit_is, bit_under, bit_top}

⊕-assoc : (a b c : Bool) → a ⊕ b ⊕ c ≡ a ⊕ (b ⊕ c)
⊕-assoc true true true = refl
⊕-assoc true true false = refl
⊕-assoc true false true = refl
⊕-assoc true false false = refl
⊕-assoc false b c = refl

⊕-comm : (a b : Bool) → a ⊕ b ≡ b ⊕ a
⊕-comm true true = refl
⊕-comm true false = refl
⊕-comm false true = refl
⊕-comm false false = refl

-- the message bit and the oldest bit both turn the sum over
turned : (bit x y z d : Bool) → bit ⊕ x ⊕ y ⊕ z ⊕ d ≡ (x ⊕ y ⊕ z ⊕ false) ⊕ (d ⊕ bit)
turned bit x y z d =
    simp ⊕-assoc (⊕-comm bit (x ⊕ (y ⊕ (z ⊕ d))) ∙ simp ⊕-assoc)

module _ (j : ℕ) (d : Bool) (h : j < 32) where
  -- the bits of the state j with oldest bit d
  oldest_place : j + 32 * one d ≡ j + one d * 2 ^ 5
  oldest_place = omega arith

  kept : (i : ℕ) → i < 5 → bit_at (j + 32 * one d) i ≡ bit_at j i
  kept i l = rw oldest_place (bit_under j 5 i d l)

  oldest : bit_at (j + 32 * one d) 5 ≡ d
  oldest = rw oldest_place (bit_top j 5 d h)

  none_5 : bit_at j 5 ≡ false
  none_5 = bit_is j 5 false (omega arith)

  first_turned : (bit : Bool) → first_of (j + 32 * one d) bit ≡ first_of j false ⊕ (d ⊕ bit)
  unfolding first_of
  first_turned bit = rw (kept 1 (lit< tt), kept 2 (lit< tt), kept 4 (lit< tt), oldest, none_5) (turned bit (bit_at j 1) (bit_at j 2) (bit_at j 4) d)

  second_turned : (bit : Bool) → second_of (j + 32 * one d) bit ≡ second_of j false ⊕ (d ⊕ bit)
  unfolding second_of
  second_turned bit = rw (kept 0 (lit< tt), kept 1 (lit< tt), kept 2 (lit< tt), oldest, none_5) (turned bit (bit_at j 0) (bit_at j 1) (bit_at j 2) d)

module _ {O C : Type 0} (kind : Kind O C) (a b : O) (is_free : Bool) (costs : ℕ → C) where
  way : (s j : ℕ) (d bit : Bool) → s / 2 ≡ j → bit_at s 0 ≡ bit → j < 32 →
      candidate kind a b costs s d ≡ charged_both kind a b (costs (j + 32 * one d)) (first_of j false ⊕ (d ⊕ bit)) (second_of j false ⊕ (d ⊕ bit))
  unfolding candidate
  way s j d bit e f h = rw (e, f, first_turned j d h bit, second_turned j d h bit)

  chosen_way : (s : ℕ) (t : Bool) → cond t (candidate kind a b costs s true) (candidate kind a b costs s false) ≡ candidate kind a b costs s t
  chosen_way s true = refl
  chosen_way s false = refl

  -- the choice of a state is what it takes, and its cost is that of the step
  pub chosen : (s : ℕ) (p q r : C) (t : Bool) → p ≡ candidate kind a b costs s false → q ≡ candidate kind a b costs s true →
      t ≡ (is_free && not (kind.at_most p q)) → r ≡ cond t q p → (t ≡ takes kind a b is_free costs s) × (r ≡ stepped kind a b is_free costs s)
  unfolding takes stepped
  chosen s p q r t ep eq et er =
      let it : t ≡ takes kind a b is_free costs s = rw (ep, eq) at et in
      (it, rw (ep, eq, it) at er ∙ chosen_way s (takes kind a b is_free costs s))

  -- the four ways of a butterfly
  module _ (j : ℕ) (h : j < 32) (x y : Bool) (first : x ≡ first_of j false) (second : y ≡ second_of j false) (low high : C)
      (at : low ≡ costs j) (at_32 : high ≡ costs (j + 32)) where
    plain : j + 32 * 0 ≡ j
    plain = omega arith

    half_even : (2 * j) / 2 ≡ j
    half_even = omega arith

    half_odd : (2 * j + 1) / 2 ≡ j
    half_odd = omega arith

    even : bit_at (2 * j) 0 ≡ false
    even = bit_is (2 * j) 0 false (omega arith)

    odd : bit_at (2 * j + 1) 0 ≡ true
    odd = bit_is (2 * j + 1) 0 true (omega arith)

    same : (c : Bool) → c ⊕ false ≡ c
    same c = ⊕-comm c false

    other : (c : Bool) → c ⊕ true ≡ not c
    other c = ⊕-comm c true

    pub even_zero : charged_both kind a b low x y ≡ candidate kind a b costs (2 * j) false
    even_zero = sym (way (2 * j) j false false half_even even h ∙ rw (plain, same (first_of j false), same (second_of j false), ← first, ← second, ← at))

    pub even_one : charged_both kind a b high (not x) (not y) ≡ candidate kind a b costs (2 * j) true
    even_one = sym (way (2 * j) j true false half_even even h ∙ rw (other (first_of j false), other (second_of j false), ← first, ← second, ← at_32))

    pub odd_zero : charged_both kind a b low (not x) (not y) ≡ candidate kind a b costs (2 * j + 1) false
    odd_zero = sym (way (2 * j + 1) j false true half_odd odd h ∙ rw (plain, other (first_of j false), other (second_of j false), ← first, ← second, ← at))

    pub odd_one : charged_both kind a b high x y ≡ candidate kind a b costs (2 * j + 1) true
    odd_one = sym (way (2 * j + 1) j true true half_odd odd h ∙ rw (same (first_of j false), same (second_of j false), ← first, ← second, ← at_32))
