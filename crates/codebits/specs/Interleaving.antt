-- Interleaving: the 176 code bits of a block change places before they are sent.
-- Assumes nothing.
use Rattle.std.specs.Prelude.{◌≡◌, ℕ, ◌+◌, ◌-◌, ◌*◌, ◌/◌, ◌%◌, ◌<◌}

-- where place k of a block moves
unfoldable pub moved_in : ℕ → ℕ
moved_in k = 16 * ((175 - k) % 11) + (175 - k) / 11

-- which place of a block moves to place i
unfoldable pub origin_in : ℕ → ℕ
origin_in i = 11 * (175 - i) - 175 * (11 * (175 - i) / 176)

-- the same over all blocks: code bit j is sent at place `moved j`, and place p sends code bit `origin p`
unfoldable pub moved : ℕ → ℕ
moved j = 176 * (j / 176) + moved_in (j % 176)

unfoldable pub origin : ℕ → ℕ
origin p = 176 * (p / 176) + origin_in (p % 176)

-- Interleaving is a permutation of the places of a block, and of all places, and the closed form above undoes it.
pub record Permutation : Type 0 where
  pub moved_within : (k : ℕ) → k < 176 → moved_in k < 176
  pub origin_within : (i : ℕ) → i < 176 → origin_in i < 176
  pub origin_moved : (k : ℕ) → k < 176 → origin_in (moved_in k) ≡ k
  pub moved_origin : (i : ℕ) → i < 176 → moved_in (origin_in i) ≡ i
  pub all_origin_moved : (j : ℕ) → origin (moved j) ≡ j
  pub all_moved_origin : (p : ℕ) → moved (origin p) ≡ p
