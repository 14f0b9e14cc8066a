-- Interleaving is a permutation of the places of a block, and of all places.
-- Assumes nothing.
use Rattle.std.proofs.Common.{◌≡◌, ℕ, ◌+◌, ◌-◌, ◌*◌, ◌/◌, ◌%◌, ◌<◌, ◌∙◌, arith}
use Rattle.codebits.specs.Interleaving.{moved_in, origin_in, moved, origin, Permutation}

-- the closed form in rows of 16
pub origin_rows : (i : ℕ) → i < 176 → origin_in i ≡ 175 - (11 * (i % 16) + i / 16)
unfolding origin_in
origin_rows i h = omega arith

-- a row and a column of a block
rows : (c q : ℕ) → q < 16 → 11 * ((16 * c + q) % 16) + (16 * c + q) / 16 ≡ 11 * q + c
rows c q h = omega arith

pub moved_within : (k : ℕ) → k < 176 → moved_in k < 176
unfolding moved_in
moved_within k h = omega arith

pub origin_within : (i : ℕ) → i < 176 → origin_in i < 176
origin_within i h = omega (arith, origin_rows i h)

origin_moved_in : (k : ℕ) → k < 176 → origin_in (moved_in k) ≡ k
unfolding moved_in
origin_moved_in k h = origin_rows (moved_in k) (moved_within k h) ∙ omega (arith, rows ((175 - k) % 11) ((175 - k) / 11) (omega arith))

moved_origin_in : (i : ℕ) → i < 176 → moved_in (origin_in i) ≡ i
unfolding moved_in
moved_origin_in i h = rw (origin_rows i h) (omega arith)

pub moved_below : (b j : ℕ) → j < 176 * b → moved j < 176 * b
unfolding moved
moved_below b j h = omega (arith, moved_within (j % 176) (omega arith))

-- the same over all blocks
all_origin_moved : (j : ℕ) → origin (moved j) ≡ j
unfolding origin moved
all_origin_moved j =
    let within = moved_within (j % 176) (omega arith) in
    let row : (176 * (j / 176) + moved_in (j % 176)) / 176 ≡ j / 176 = omega arith in
    let column : (176 * (j / 176) + moved_in (j % 176)) % 176 ≡ moved_in (j % 176) = omega arith in
    rw (row, column) (omega (arith, origin_moved_in (j % 176) (omega arith)))

all_moved_origin : (p : ℕ) → moved (origin p) ≡ p
unfolding origin moved
all_moved_origin p =
    let within = origin_within (p % 176) (omega arith) in
    let row : (176 * (p / 176) + origin_in (p % 176)) / 176 ≡ p / 176 = omega arith in
    let column : (176 * (p / 176) + origin_in (p % 176)) % 176 ≡ origin_in (p % 176) = omega arith in
    rw (row, column) (omega (arith, moved_origin_in (p % 176) (omega arith)))

pub permutation : Permutation
permutation = record {
  moved_within = moved_within;
  origin_within = origin_within;
  origin_moved = origin_moved_in;
  moved_origin = moved_origin_in;
  all_origin_moved = all_origin_moved;
  all_moved_origin = all_moved_origin;
}
