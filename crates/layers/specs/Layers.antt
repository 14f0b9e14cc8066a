-- Alternation over two line codes, and what the layers leave as it is.
-- Assumes nothing.
use Rattle.std.specs.Prelude.{◌≡◌, ℕ, ◌%◌, Bool, true, cond, not, ◌&&◌, ◌||◌, ◌==◌}
use Rattle.linecode.specs.Codes.{Code, least_distance}
use Rattle.layers.specs.Whitening.{whitened}

-- two codes of one make have the same bits and the same chips per group
abbrev pub alike : Code → Code → Bool
alike a b = a.bits == b.bits && a.chips == b.chips

-- the code in use at position p: a at even positions and b at odd ones, or a alone where the two are not of one make
abbrev pub in_use : Code → Code → ℕ → Code
in_use a b p = cond (p % 2 == 0 || not (alike a b)) a b

abbrev pub alternating : Code → Code → Code
alternating a b = record { bits = a.bits; chips = a.chips; word = λ p v. (in_use a b p).word p v }

pub record LayersKeepDistance : Type 0 where
  pub by_whitening : (k : Code) (p : ℕ) → least_distance (whitened k) p ≡ least_distance k p
  pub at_even : (a b : Code) (p : ℕ) → p % 2 ≡ 0 → least_distance (alternating a b) p ≡ least_distance a p
  pub at_odd : (a b : Code) (p : ℕ) → alike a b ≡ true → p % 2 ≡ 1 → least_distance (alternating a b) p ≡ least_distance b p
