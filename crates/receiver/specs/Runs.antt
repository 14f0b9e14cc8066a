-- Lists of calls to one receiver and its memory, in every order that the types allow, and what they leave.
-- Assumes nothing.
use Rattle.std.specs.Prelude.{ℕ, List}
use Rattle.linecode.specs.Codes.{Code}
use Rattle.costs.specs.Kind.{Kind}
use Rattle.costs.specs.declared.Observation.{Observation}
use Rattle.header.specs.declared.model.Header.{Header}
use Rattle.receiver.specs.Receiver.{Open, begun, block_step}

-- between frames, or within a frame, whose calls use one line code
pub data Phase : Type 0 where
  listening : Phase
  within : Code → Phase

-- A list of calls that starts from a listening receiver, the latest last, by the phase that it leads to. Any call may be refused.
pub data Calls : Phase → Type 0 where
  start : Calls listening
  begin : Calls listening → Header → (k : Code) → Calls (within k)
  -- the chips that are handed in, any octets and any number of them
  block : {k : Code} → Calls (within k) → List ℕ → Calls (within k)
  -- the PSDU buffer
  close : {k : Code} → Calls (within k) → List ℕ → Calls listening
  abandon : {k : Code} → Calls (within k) → Calls listening

-- the receiver's own state
abbrev pub Receiver : Phase → Type 0
Receiver listening = Unit {0}
Receiver (within k) = Open

pub record State (C : Type 0) (p : Phase) : Type 0 where
  pub receiver : Receiver p
  pub costs : List C
  pub words : List ℕ

module _ {C : Type 0} (kind : Kind Observation C) where
  -- what a block call leaves
  abbrev pub after_block : (k : Code) → State C (within k) → List ℕ → State C (within k)
  after_block k s chips =
      let b = block_step kind k s.receiver s.costs s.words chips in
      record { receiver = b.frame; costs = b.costs; words = b.words }

  -- What the calls leave, from costs and words of any number and content. A close reads costs and words and writes neither.
  abbrev pub after : List C → List ℕ → {p : Phase} → Calls p → State C p
  after costs words start = record { receiver = tt; costs = costs; words = words }
  after costs words (begin cs h k) = let s = after costs words cs in record { receiver = begun h; costs = s.costs; words = s.words }
  after costs words (block {k} cs chips) = after_block k (after costs words cs) chips
  after costs words (close cs room) = let s = after costs words cs in record { receiver = tt; costs = s.costs; words = s.words }
  after costs words (abandon cs) = let s = after costs words cs in record { receiver = tt; costs = s.costs; words = s.words }
