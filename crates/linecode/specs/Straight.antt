-- The straight code: one bit to a group, and the chip is the bit.
-- Assumes nothing.
use Rattle.std.specs.Prelude.{ℕ, zero, suc, ◌<◌, [], ◌∷◌, slice_index, refl}
use Rattle.std.proofs.Common.{ap, inl, arith}
use Rattle.linecode.specs.Codes.{Code, Lawful}

abbrev pub straight : Code
straight = record { bits = 1; chips = 1; word = λ p v. v ∷ [] }

one_binary : (v i : ℕ) → v < 2 → i < 1 → slice_index (v ∷ []) i < 2
one_binary v zero h k = h
one_binary v (suc i) h k = absurd (omega arith)

pub straight_lawful : Lawful straight
straight_lawful = record {
  width = inl refl;
  some = omega arith;
  few = omega arith;
  sized = λ p v _ _. refl;
  binary = λ p v i _ h k. one_binary v i h k;
  apart = λ p v u _ _ _ e. ap (λ xs. slice_index xs 0) e;
}
