-- What each call of the receiver answers and leaves in memory.
-- Assumes nothing.
use Rattle.std.specs.Prelude.{ℕ, ◌+◌, ◌*◌, Bool, List, map, length, Ok, Err, Result}
use Rattle.std.specs.List.{range_with_len}
use Rattle.faults.specs.declared.Fault.{Fault}
use Rattle.linecode.specs.Codes.{Code}
use Rattle.bands.specs.Modes.{psdu_differential}
use Rattle.codebits.specs.Message.{block_code_bits}
use Rattle.frames.specs.Sent.{Frame, block_groups}
use Rattle.costs.specs.Kind.{Kind}
use Rattle.costs.specs.declared.Observation.{Observation}
use Rattle.costs.specs.declared.Observation.TheVariants.{Sure}
use Rattle.header.specs.View.{view}
use Rattle.header.specs.declared.model.Header.{Header}
use Rattle.reading.specs.Reading.{block_seen, last_seen}
use Rattle.trellis.specs.Memory.{cost_in}
use Rattle.trellis.specs.Block.{costs_after, words_after}
use Rattle.trellis.specs.Trace.{psdu_after}
use Rattle.receiver.specs.Judging.{block_judged, close_judged}
pub use Rattle.receiver.specs.Open.{Open}

-- what a header says of its frame: the octets of the PSDU, and whether its bits are coded differentially
abbrev pub octets : Header → ℕ
octets h = (view h).length

abbrev pub differential : Header → Bool
differential h = psdu_differential (view h).band (view h).mode

-- how a PSDU is sent after a header, by a line code
abbrev pub frame_by : Code → Header → Frame
frame_by k h = record { code = k; differential = differential h; last = (view h).last; octets = octets h }

-- begin: the header's last bit is sure
abbrev pub begun : Header → Open
begun h = record { header = h; accepted = 0; last = Sure (view h).last }

-- where the next block's first group stands, and what the block's chips show of its code bits
abbrev pub position : Code → Open → ℕ
position k f = f.accepted * block_groups k

abbrev pub shown : Code → Open → List ℕ → List Observation
shown k f chips = map (block_seen k (differential f.header) f.last (position k f) chips) (range_with_len 0 block_code_bits)

-- What a block call answers, and all memory after it.
pub record Blocked (C : Type 0) : Type 0 where
  pub answer : Result (Unit {0}) Fault
  pub frame : Open
  pub costs : List C
  pub words : List ℕ

module _ {C : Type 0} (kind : Kind Observation C) (k : Code) (f : Open) (costs : List C) (words : List ℕ) (chips : List ℕ) where
  -- a refusal leaves everything as it was
  abbrev pub block_by : Result (Unit {0}) Fault → Blocked C
  block_by (Ok u) = record {
    answer = Ok tt;
    frame = record { header = f.header; accepted = f.accepted + 1; last = last_seen k (position k f) chips };
    costs = costs_after kind (shown k f chips) (octets f.header) f.accepted costs;
    words = words_after kind (shown k f chips) (octets f.header) f.accepted costs words;
  }
  block_by (Err e) = record { answer = Err e; frame = f; costs = costs; words = words }

  abbrev pub block_step : Blocked C
  block_step = block_by (block_judged k (octets f.header) f.accepted (length costs) (length words) chips)

-- What a close answers, and the PSDU buffer after it. Costs and words are only read.
pub record Closed (C : Type 0) : Type 0 where
  pub answer : Result C Fault
  pub psdu : List ℕ

module _ {C : Type 0} (kind : Kind Observation C) (f : Open) (costs : List C) (words : List ℕ) (room : List ℕ) where
  abbrev pub close_by : Result (Unit {0}) Fault → Closed C
  close_by (Ok u) = record { answer = Ok (cost_in kind costs 0 0); psdu = psdu_after (octets f.header) words room }
  close_by (Err e) = record { answer = Err e; psdu = room }

  abbrev pub close_step : Closed C
  close_step = close_by (close_judged (octets f.header) f.accepted (length costs) (length words) (length room))
