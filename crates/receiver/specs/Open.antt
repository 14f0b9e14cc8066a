-- What an open frame stands for.
-- Assumes nothing.
use Rattle.std.specs.Prelude.{ℕ}
use Rattle.costs.specs.declared.Observation.{Observation}
use Rattle.header.specs.declared.model.Header.{Header}

-- An open frame: its header, how many blocks it has accepted, and what is observed of the last encoded bit before the next one.
pub record Open : Type 0 where
  pub header : Header
  pub accepted : ℕ
  pub last : Observation
