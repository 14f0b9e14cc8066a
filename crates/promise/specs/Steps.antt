-- Every outcome of a call is a step of the lists that the promise speaks of.
-- Assumes nothing.
use Rattle.std.specs.Prelude.{◌≡◌, ℕ, List}
use Rattle.linecode.specs.Codes.{Code}
use Rattle.costs.specs.Kind.{Kind}
use Rattle.costs.specs.declared.Observation.{Observation}
use Rattle.header.specs.declared.model.Header.{Header}
use Rattle.receiver.specs.Receiver.{begun, block_step}
use Rattle.receiver.specs.Runs.{listening, within, Calls, begin, block, close, abandon, after}

-- From the state that a list of calls leaves, what the next call leaves is what the longer list leaves.
pub record CallsAreSteps {C : Type 0} (kind : Kind Observation C) : Type 0 where
  pub of_begin : (costs : List C) (words : List ℕ) (cs : Calls listening) (h : Header) (k : Code) →
      let s = after kind costs words cs in
      after kind costs words (begin cs h k) ≡ record { receiver = begun h; costs = s.costs; words = s.words }
  pub of_block : (costs : List C) (words : List ℕ) (k : Code) (cs : Calls (within k)) (chips : List ℕ) →
      let s = after kind costs words cs in
      let r = block_step kind k s.receiver s.costs s.words chips in
      after kind costs words (block cs chips) ≡ record { receiver = r.frame; costs = r.costs; words = r.words }
  -- a close and an abandon write neither costs nor words, and the receiver listens again
  pub of_close : (costs : List C) (words : List ℕ) (k : Code) (cs : Calls (within k)) (room : List ℕ) →
      let s = after kind costs words cs in
      after kind costs words (close cs room) ≡ record { receiver = tt; costs = s.costs; words = s.words }
  pub of_abandon : (costs : List C) (words : List ℕ) (k : Code) (cs : Calls (within k)) →
      let s = after kind costs words cs in
      after kind costs words (abandon cs) ≡ record { receiver = tt; costs = s.costs; words = s.words }
