-- Kinds of cost: what a kind is, the laws that finding the nearest message rests on, and the cost of claimed bits.
-- Assumes nothing.
use Rattle.std.specs.Prelude.{◌≡◌, ℕ, zero, suc, ◌<◌, Bool, true, ◌⊎◌}

-- a kind of cost C, over what is observed of a code bit, O
pub record Kind (O C : Type 0) : Type 0 where
  pub nothing : C
  -- a cost, what is observed, and the claimed bit
  pub charge : C → O → Bool → C
  pub at_most : C → C → Bool

-- the costs that are reached from nothing by at most n charges
pub data Reached {O C : Type 0} (kind : Kind O C) : ℕ → C → Type 0 where
  at_nothing : {n : ℕ} → Reached kind n kind.nothing
  by_charge : {n : ℕ} {c : C} (o : O) (claimed : Bool) → Reached kind n c → Reached kind (suc n) (kind.charge c o claimed)

-- Among the costs of at most n charges the order is total, and a is at most b exactly when a, charged, is at most b with the same charge.
pub record Laws {O C : Type 0} (n : ℕ) (kind : Kind O C) : Type 0 where
  pub total : (a b : C) → Reached kind n a → Reached kind n b → (kind.at_most a b ≡ true) ⊎ (kind.at_most b a ≡ true)
  pub antisymmetric : (a b : C) → Reached kind n a → Reached kind n b → kind.at_most a b ≡ true → kind.at_most b a ≡ true → a ≡ b
  pub transitive : (a b c : C) → Reached kind n a → Reached kind n b → Reached kind n c → kind.at_most a b ≡ true → kind.at_most b c ≡ true → kind.at_most a c ≡ true
  -- the charged costs are still among those of n charges
  pub same_charge : (m : ℕ) → m < n → (a b : C) (o : O) (claimed : Bool) → Reached kind m a → Reached kind m b →
      kind.at_most (kind.charge a o claimed) (kind.charge b o claimed) ≡ kind.at_most a b

-- how many charges the laws are asked for: two for each code bit of the longest frame, which has 187 blocks of 176
abbrev pub most_charges : ℕ
most_charges = 65824

-- the cost of the claimed bits of the places below n: nothing, charged for each place in order
unfoldable pub cost_of : {O C : Type 0} → Kind O C → (ℕ → O) → (ℕ → Bool) → ℕ → C
cost_of kind observed claimed zero = kind.nothing
cost_of kind observed claimed (suc n) = kind.charge (cost_of kind observed claimed n) (observed n) (claimed n)
