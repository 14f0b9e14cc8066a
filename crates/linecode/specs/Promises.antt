-- What a line code promises, in the subject's words: the nearest value, the least distance, and groups that come back as sent.
-- Assumes nothing.
use Rattle.std.specs.Prelude.{◌≡◌, ℕ, ◌-◌, ◌*◌, ◌^◌, ◌<◌, ◌≤◌, Bool, true, false, ◌≢◌, List, Ok, Result}
use Rattle.faults.specs.declared.Fault.{Fault}
use Rattle.linecode.specs.Codes.{Code, Lawful, distance, least_distance}

-- Of the values 0 .. k, none is nearer than r's by the distances d, each lower one is farther, and r's flag says whether another is as near.
pub record Nearest (d : ℕ → ℕ) (k : ℕ) (r : ℕ × Bool) : Type 0 where
  pub within : r.0 ≤ k
  pub least : (u : ℕ) → u ≤ k → d r.0 ≤ d u
  pub lowest : (u : ℕ) → u < r.0 → d r.0 < d u
  pub sure : r.1 ≡ false → (u : ℕ) → u ≤ k → u ≢ r.0 → d r.0 < d u
  pub tied : r.1 ≡ true → (u : ℕ) × (u ≤ k) × (u ≢ r.0) × (d u ≡ d r.0)

-- What is heard of a group of chips at position p:
pub record Heard (k : Code) (p : ℕ) (xs : List ℕ) (r : ℕ × Bool) : Type 0 where
  -- the value whose word is nearest
  pub nearest : Nearest (λ v. distance (k.word p v) xs) (2 ^ k.bits - 1) r
  -- and the value that was sent, for sure, where twice the damaged chips is below the least distance
  pub unwrecked : (v : ℕ) → v < 2 ^ k.bits → 2 * distance (k.word p v) xs < least_distance k p → r ≡ (v, false)

-- the promise of an answer to despreading, unless it refuses
abbrev pub HeardUnlessRefused : Code → ℕ → List ℕ → Result (ℕ × Bool) Fault → Type 0
HeardUnlessRefused k p xs answer = (r : ℕ × Bool) → answer ≡ Ok r → Heard k p xs r

-- The least distance m at a position: no two words differ in fewer chips, and two differ in so many.
pub record IsLeastDistance (k : Code) (p m : ℕ) : Type 0 where
  pub none_nearer : (v w : ℕ) → v < 2 ^ k.bits → w < 2 ^ k.bits → v ≢ w → m ≤ distance (k.word p v) (k.word p w)
  pub reached : (v : ℕ) × (w : ℕ) × (v < 2 ^ k.bits) × (w < 2 ^ k.bits) × (v ≢ w) × (distance (k.word p v) (k.word p w) ≡ m)

abbrev pub LeastDistance : Type 0
LeastDistance = (k : Code) → Lawful k → (p : ℕ) → p < 2 ^ 32 → IsLeastDistance k p (least_distance k p)
