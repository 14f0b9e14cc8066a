-- One turn of the encoder: a message bit and the register before it give two code bits and the register after it.
-- Assumes nothing.
use Rattle.std.proofs.Common.{◌≡◌, ℕ, ◌+◌, ◌*◌, ◌%◌, ◌<◌, Bool, true, false, cond, eqb, leb, List, [], ◌∷◌, length, get_or, set, ap, arith}
use Rattle.std.proofs.lemmas.Bool.{le-leb, eq-eqb, ne_eqb}
use Rattle.std.proofs.lemmas.List.Edits.{fill_by_more}
use Rattle.std.proofs.lemmas.Bool.Decides.{nat_tests}
use Rattle.codebits.specs.Bits.{◌⊕◌}
use Rattle.codebits.specs.Convolution.{back, first, second, code_bit}
use Rattle.sender.specs.Stored.{last_six}

module _ (m : ℕ → Bool) where
  back_zero : (k : ℕ) → back m k 0 ≡ m k
  unfolding back
  back_zero k = rw (le-leb 0 k (omega arith)) (ap m (omega arith))

  back_one : (k : ℕ) → back m (k + 1) 1 ≡ m k
  unfolding back
  back_one k = rw (le-leb 1 (k + 1) (omega arith)) (ap m (omega arith))

  back_more : (k j : ℕ) → back m (k + 1) (j + 1) ≡ back m k j
  unfolding back
  back_more k j =
      let same : leb (j + 1) (k + 1) ≡ leb j k = grind (arith, nat_tests) in
      rw same (ap (λ (i : ℕ). cond (leb j k) (m i) false) (omega arith))

  -- the register after one bit more
  six_more : (k : ℕ) → last_six m (k + 1)
      ≡ m k ∷ get_or (last_six m k) 0 false ∷ get_or (last_six m k) 1 false ∷ get_or (last_six m k) 2 false ∷ get_or (last_six m k) 3 false ∷ get_or (last_six m k) 4 false ∷ []
  unfolding last_six
  six_more k = rw (back_one k, back_more k 1, back_more k 2, back_more k 3, back_more k 4, back_more k 5)

  code_first : (k : ℕ) → code_bit m (2 * k) ≡ first m k
  unfolding code_bit
  code_first k = let even : eqb (2 * k % 2) 0 ≡ true = eq-eqb _ 0 (omega arith) in rw even (ap (first m) (omega arith))

  code_second : (k : ℕ) → code_bit m (2 * k + 1) ≡ second m k
  unfolding code_bit
  code_second k = let odd : eqb ((2 * k + 1) % 2) 0 ≡ false = ne_eqb _ 0 (λ e. omega arith) in rw odd (ap (second m) (omega arith))

  -- the code bits by the register
  form_first : (k : ℕ) → first m k ≡ m k ⊕ get_or (last_six m k) 1 false ⊕ get_or (last_six m k) 2 false ⊕ get_or (last_six m k) 4 false ⊕ get_or (last_six m k) 5 false
  unfolding first last_six
  form_first k = rw (back_zero k)

  form_second : (k : ℕ) → second m k ≡ m k ⊕ get_or (last_six m k) 0 false ⊕ get_or (last_six m k) 1 false ⊕ get_or (last_six m k) 2 false ⊕ get_or (last_six m k) 5 false
  unfolding second last_six
  form_second k = rw (back_zero k)

  module _ (n : ℕ) (bit : Bool) (register : List Bool) (is_bit : bit ≡ m n) (is_six : register ≡ last_six m n) where
    pub turn_register : (next : List Bool)
        → next ≡ bit ∷ get_or register 0 false ∷ get_or register 1 false ∷ get_or register 2 false ∷ get_or register 3 false ∷ get_or register 4 false ∷ []
        → next ≡ last_six m (n + 1)
    turn_register next e = let more = six_more n in cc

    pub turn_pair : (pair : List Bool)
        → pair ≡ (bit ⊕ get_or register 1 false ⊕ get_or register 2 false ⊕ get_or register 4 false ⊕ get_or register 5 false) ∷ (bit ⊕ get_or register 0 false ⊕ get_or register 1 false ⊕ get_or register 2 false ⊕ get_or register 5 false) ∷ []
        → pair ≡ code_bit m (2 * n) ∷ code_bit m (2 * n + 1) ∷ []
    turn_pair pair e = cc (code_first n, code_second n, form_first n, form_second n)

-- a loop that writes one pair in each turn
pub fill_pair : (f : ℕ → List Bool) (xs : List (List Bool)) (k : ℕ) (pair : List Bool) → k < length xs
    → ((i : ℕ) → i < k → get_or xs i [] ≡ f i) → pair ≡ f k
    → (i : ℕ) → i < k + 1 → get_or (set xs k pair) i [] ≡ f i
fill_pair f xs k pair long below e i h = rw e (fill_by_more f xs k [] long below i h)
