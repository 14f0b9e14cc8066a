-- What is decoded from the octets of section 3.
-- Assumes nothing.
use Rattle.std.specs.Prelude.{◌≡◌, ℕ, List, length, take, Ok, Err, Result}
use Rattle.faults.specs.declared.Fault.{Fault}
use Rattle.linecode.specs.Codes.{Code}
use Rattle.codebits.specs.Message.{blocks}
use Rattle.frames.specs.Sent.{Frame, block_chips}
use Rattle.costs.specs.Kind.{Kind}
use Rattle.costs.specs.declared.Observation.{Observation}
use Rattle.header.specs.declared.model.Header.{Header}
use Rattle.nearest.specs.Path.{traced_psdu, traced_psdu_cost}
use Rattle.reading.specs.Frames.{frame_seen}
use Rattle.receiver.specs.Runs.{within, start, State, after}
use Rattle.receiver.specs.Book.{book}
use Rattle.receiver.specs.Open.{Open}
use Rattle.promise.specs.Parts.{part_calls, page}
use Rattle.captures.specs.Sections.{bind}
use Rattle.captures.specs.Chips.{Good, blocks_of}

-- the chips of a frame's section 3
abbrev pub chips_for : Frame → List ℕ → Result (List ℕ) Fault
chips_for f octets = blocks_of (block_chips f.code) (blocks f.octets) octets

-- the cost and the PSDU that the survivors trace, once all chips are there
abbrev pub decided_by : {C : Type 0} → Kind Observation C → Frame → List ℕ → Result (C × List ℕ) Fault
decided_by kind f chips = let seen = frame_seen f chips in Ok (traced_psdu_cost kind seen f.octets, traced_psdu kind seen f.octets)

abbrev pub decoded : {C : Type 0} → Kind Observation C → Frame → List ℕ → Result (C × List ℕ) Fault
decoded kind f octets = bind (chips_for f octets) (decided_by kind f)

-- a cost that is told, with the octets at the start of the buffer
abbrev pub told : {C : Type 0} → ℕ → Result C Fault → List ℕ → Result (C × List ℕ) Fault
told L (Ok c) room = Ok (c, take L room)
told L (Err e) room = Err e

-- whether all chips are there
abbrev pub heard_answer : Result (List ℕ) Fault → Result (Unit {0}) Fault
heard_answer (Ok chips) = Ok tt
heard_answer (Err e) = Err e

-- an open frame with its memory
abbrev pub state_of : {C : Type 0} (k : Code) → Open → List C → List ℕ → State C (within k)
state_of k f costs words = record { receiver = f; costs = costs; words = words }

-- The first n blocks of the octets were handed to a receiver, and each was accepted.
pub record Heard {C : Type 0} (kind : Kind Observation C) (k : Code) (h : Header) (costs : List C) (words octets : List ℕ) (n : ℕ) (s : State C (within k)) : Type 0 where
  pub state : s ≡ after kind costs words (part_calls start h k octets n)
  pub good : Good (block_chips k) n octets
  pub booked : book (length costs) (length words) (part_calls start h k octets n) ≡ page h k octets n
