-- What the calls of the sending end answer and leave.
-- Assumes nothing.
use Rattle.std.specs.Prelude.{◌≡◌, ℕ, ◌+◌, ◌*◌, ◌≤◌, Bool, cond, ◌&&◌, List, length, take, Some, None, Ok, Err, Option, Result, ◌==◌, nat_lt}
use Rattle.faults.specs.declared.Fault.{Fault}
use Rattle.faults.specs.declared.FaultKind.TheVariants.{PsduLength, ChipCount}
use Rattle.faults.specs.declared.Layer.TheVariants.{Frame as FrameLayer}
use Rattle.faults.specs.Refusals.{fault}
use Rattle.linecode.specs.Codes.{Code}
use Rattle.codebits.specs.Differential.{sent_bit}
use Rattle.codebits.specs.Message.{block_code_bits, blocks, is_length}
use Rattle.linecode.specs.Chips.{part}
use Rattle.frames.specs.Sent.{Frame, interleaved, spread_groups, block_groups, block_chips, frame_chips, sent_chips}
use Rattle.sender.specs.Stored.{last_sent}

abbrev pub checked : ℕ → Result (Unit {0}) Fault
checked octets = cond (is_length octets) (Ok tt) (Err (fault PsduLength octets FrameLayer))

-- the blocks of a cursor over a PSDU of so many octets: none if it cannot be sent
abbrev pub blocks_to_send : ℕ → ℕ
blocks_to_send octets = cond (is_length octets) (blocks octets) 0

-- what a cursor stands for: its PSDU, the coding, the header's last encoded bit and the blocks written
pub record State : Type 0 where
  pub psdu : List ℕ
  pub differential : Bool
  pub last : Bool
  pub block : ℕ

-- the frame that a cursor sends by a line code
abbrev pub frame_by : Code → State → Frame
frame_by k s = record { code = k; differential = s.differential; last = s.last; octets = length s.psdu }

-- the bits of its PSDU as they are sent, whatever the line code
abbrev pub sent_stream : State → ℕ → Bool
sent_stream s = sent_bit s.differential s.last (interleaved s.psdu)

-- the bit that is sent before place p of its next block
abbrev pub sent_before : State → ℕ → Bool
sent_before s p = last_sent s.differential s.last s.psdu (block_code_bits * s.block + p)

-- the words of the first n groups of its next block, by a line code
abbrev pub block_words : Code → State → ℕ → List ℕ
block_words k s n = spread_groups k (sent_stream s) (s.block * block_groups k) n

-- a block is left to write
abbrev pub pending : State → Bool
pending s = nat_lt s.block (blocks_to_send (length s.psdu))

-- The call for the next block by a line code, with a buffer of so many chips: whether it writes,
abbrev pub writes : Code → State → ℕ → Bool
writes k s room = pending s && room == block_chips k

-- its answer,
abbrev pub answer : Code → State → ℕ → Result (Option ℕ) Fault
answer k s room =
    cond (pending s) (cond (room == block_chips k) (Ok (Some s.block)) (Err (fault ChipCount room FrameLayer))) (Ok None)

-- the chips that it writes, the block's part of the whole frame's chips,
abbrev pub next_chips : Code → State → List ℕ
next_chips k s = part (block_chips k) (sent_chips (frame_by k s) s.psdu) s.block

-- what is in the buffer afterwards,
abbrev pub chips_after : Code → State → List ℕ → List ℕ
chips_after k s chips = cond (writes k s (length chips)) (next_chips k s) chips

-- and the cursor afterwards
abbrev pub advanced : State → State
advanced s = record { psdu = s.psdu; differential = s.differential; last = s.last; block = s.block + 1 }

abbrev pub state_after : Code → State → ℕ → State
state_after k s room = cond (writes k s room) (advanced s) s

-- the chips of a whole frame hold the cursor's blocks so far, one behind the other
pub record Filled (k : Code) (s : State) (chips : List ℕ) : Type 0 where
  pub bound : s.block ≤ blocks_to_send (length s.psdu)
  pub front : take (s.block * block_chips k) chips ≡ spread_groups k (sent_stream s) 0 (s.block * block_groups k)

-- Sending a whole PSDU by a frame, with a buffer of so many chips: its answer,
abbrev pub whole_answer : Frame → ℕ → Result ℕ Fault
whole_answer f room =
    cond (is_length f.octets) (cond (room == frame_chips f) (Ok (blocks f.octets)) (Err (fault ChipCount room FrameLayer))) (Err (fault PsduLength f.octets FrameLayer))

-- and what is in the buffer afterwards
abbrev pub whole_chips : Frame → List ℕ → List ℕ → List ℕ
whole_chips f q chips = cond (is_length f.octets && length chips == frame_chips f) (sent_chips f q) chips
