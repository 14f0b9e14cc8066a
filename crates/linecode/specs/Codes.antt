-- The meaning of a line code, and what spreading and despreading answer by it.
-- Assumes nothing.
use Rattle.std.specs.Prelude.{◌≡◌, ℕ, zero, suc, ◌+◌, ◌-◌, ◌^◌, ◌<◌, ◌≤◌, min, Bool, true, false, cond, ◌⊎◌, List, [], ◌∷◌, length, Ok, Err, Result, ◌==◌, nat_lt, slice_index}
use Rattle.faults.specs.declared.Fault.{Fault}
use Rattle.faults.specs.declared.Layer.TheVariants.{Line}
use Rattle.faults.specs.declared.FaultKind.TheVariants.{ChipCount, GroupValue}
use Rattle.faults.specs.Refusals.{fault}
use Rattle.linecode.specs.Chips.{judged, unless_refused}

-- bits per group, chips per group, and the word of chips for a value at a position
pub record Code : Type 0 where
  pub bits : ℕ
  pub chips : ℕ
  pub word : ℕ → ℕ → List ℕ

-- a group has 1, 2, 4 or 8 bits
abbrev pub Width : ℕ → Type 0
Width g = (g ≡ 1) ⊎ ((g ≡ 2) ⊎ ((g ≡ 4) ⊎ (g ≡ 8)))

-- What holds of every line code, at the positions from 0 to 2^32 - 1 and for the values of a group:
-- its words have 1 to 128 chips, and at one position two values never have the same word.
pub record Lawful (k : Code) : Type 0 where
  pub width : Width k.bits
  pub some : 1 ≤ k.chips
  pub few : k.chips ≤ 128
  pub sized : (p v : ℕ) → p < 2 ^ 32 → v < 2 ^ k.bits → length (k.word p v) ≡ k.chips
  pub binary : (p v i : ℕ) → p < 2 ^ 32 → v < 2 ^ k.bits → i < k.chips → slice_index (k.word p v) i < 2
  pub apart : (p v w : ℕ) → p < 2 ^ 32 → v < 2 ^ k.bits → w < 2 ^ k.bits → k.word p v ≡ k.word p w → v ≡ w

-- in how many places two words differ
abbrev pub distance : List ℕ → List ℕ → ℕ
distance [] ys = 0
distance (x ∷ xs) [] = 0
distance (x ∷ xs) (y ∷ ys) = cond (x == y) 0 1 + distance xs ys

-- the best so far, a value and whether another ties with it, and one value more
abbrev pub nearer : (ℕ → ℕ) → ℕ → ℕ × Bool → ℕ × Bool
nearer d v best = cond (nat_lt (d v) (d best.0)) (v, false) (cond (d v == d best.0) (best.0, true) best)

-- the first of the values 0 .. k at which d is least, and whether d is as small at another
unfoldable pub nearest : (ℕ → ℕ) → ℕ → ℕ × Bool
nearest d zero = (0, false)
nearest d (suc k) = nearer d (suc k) (nearest d k)

-- the value whose word at position p differs from the chips xs in the fewest places, and whether another ties with it
abbrev pub value_of : Code → ℕ → List ℕ → ℕ × Bool
value_of k p xs = nearest (λ v. distance (k.word p v) xs) (2 ^ k.bits - 1)

abbrev pub despread_answer : Code → ℕ → List ℕ → Result (ℕ × Bool) Fault
despread_answer k p xs = unless_refused (judged Line k.chips xs) (value_of k p xs)

-- spreading value v into a slice of n chips
abbrev pub spread_answer : Code → ℕ → ℕ → Result (Unit {0}) Fault
spread_answer k v n =
    cond (n == k.chips)
    (cond (nat_lt v (2 ^ k.bits)) (Ok tt) (Err (fault GroupValue v Line)))
    (Err (fault ChipCount n Line))

-- what the slice holds after: the word, or what it held where the call is refused
abbrev pub spread_chips : Code → ℕ → ℕ → List ℕ → List ℕ
spread_chips k p v xs = cond (length xs == k.chips) (cond (nat_lt v (2 ^ k.bits)) (k.word p v) xs) xs

-- the least of f 0 to f n
unfoldable pub least : (ℕ → ℕ) → ℕ → ℕ
least f zero = f 0
least f (suc n) = min (least f n) (f (suc n))

-- the smallest number of chips in which two words of position p differ: the words of w + 1 and of v, for each v ≤ w
unfoldable pub least_distance : Code → ℕ → ℕ
least_distance k p = least (λ w. least (λ v. distance (k.word p v) (k.word p (suc w))) w) (2 ^ k.bits - 2)
