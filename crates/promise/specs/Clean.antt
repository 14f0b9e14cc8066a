-- A PSDU that is received as it was sent comes back, at a cost of nothing.
-- Assumes nothing.
use Rattle.std.specs.Prelude.{◌≡◌, ℕ, ◌<◌, ◌≤◌, List, ◌++◌, length, drop, Ok}
use Rattle.linecode.specs.Codes.{Code, Lawful}
use Rattle.codebits.specs.Message.{IsPsdu, blocks, message_length}
use Rattle.linecode.specs.Chips.{part}
use Rattle.frames.specs.Sent.{sent_chips, block_chips}
use Rattle.costs.specs.Kind.{Kind}
use Rattle.costs.specs.declared.Observation.{Observation}
use Rattle.header.specs.declared.model.Header.{Header}
use Rattle.receiver.specs.Receiver.{octets, frame_by, block_step, close_step}
use Rattle.receiver.specs.Runs.{listening, within, Calls, after}
use Rattle.promise.specs.Parts.{part_calls}

-- block n of the chips that are sent for a PSDU after a header, by a line code
abbrev pub sent_block : Header → Code → List ℕ → ℕ → List ℕ
sent_block h k q n = part (block_chips k) (sent_chips (frame_by k h) q) n

-- from a listening receiver: begin, and the first n blocks as they were sent
abbrev pub sent_calls : Calls listening → Header → (k : Code) → List ℕ → ℕ → Calls (within k)
sent_calls earlier h k q n = part_calls earlier h k (sent_chips (frame_by k h) q) n

-- Each block is accepted, and so is the close, which returns the PSDU at a cost of nothing.
pub record ComesBack {C : Type 0} (kind : Kind Observation C) (costs : List C) (words : List ℕ) (earlier : Calls listening) (h : Header) (k : Code) (q room : List ℕ) : Type 0 where
  pub accepted : (n : ℕ) → n < blocks (octets h) →
      let s = after kind costs words (sent_calls earlier h k q n) in (block_step kind k s.receiver s.costs s.words (sent_block h k q n)).answer ≡ Ok tt
  pub closed :
      let s = after kind costs words (sent_calls earlier h k q (blocks (octets h))) in
      close_step kind s.receiver s.costs s.words room ≡ record { answer = Ok kind.nothing; psdu = q ++ drop (octets h) room }

-- after any list of calls, with memory and a buffer that suffice
abbrev pub CleanFramesComeBack : {C : Type 0} → Kind Observation C → Type 0
CleanFramesComeBack {C} kind =
    (costs : List C) (words : List ℕ) (earlier : Calls listening) (h : Header) (k : Code) → Lawful k → (q room : List ℕ) →
    IsPsdu (octets h) q → 128 ≤ length costs → message_length (octets h) ≤ length words → octets h ≤ length room →
    ComesBack kind costs words earlier h k q room
