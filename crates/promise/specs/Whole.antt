-- One whole run: a list of calls that meets every premise of the promise.
-- Assumes nothing.
use Rattle.std.specs.Prelude.{◌≡◌, ℕ, List, Ok}
use Rattle.linecode.specs.Codes.{Code, Lawful}
use Rattle.costs.specs.Kind.{Kind}
use Rattle.costs.specs.declared.Observation.{Observation}
use Rattle.receiver.specs.Receiver.{close_step}
use Rattle.receiver.specs.Runs.{within, Calls, after}

-- costs, words, a line code, a list of calls within a frame, a buffer, and the cost that an accepted close tells
pub record WholeRun {C : Type 0} (kind : Kind Observation C) : Type 0 where
  pub costs : List C
  pub words : List ℕ
  pub code : Code
  pub lawful : Lawful code
  pub calls : Calls (within code)
  pub room : List ℕ
  pub told : C
  pub accepted : let s = after kind costs words calls in (close_step kind s.receiver s.costs s.words room).answer ≡ Ok told
