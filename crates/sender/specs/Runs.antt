-- Lists of calls on a cursor, accepted or refused, and the blocks that they write.
-- Assumes nothing.
use Rattle.std.specs.Prelude.{◌≡◌, ℕ, ◌*◌, ◌≤◌, Bool, true, false, List, [], ◌∷◌, ◌++◌, map, length, take, Some, None, Ok, Err, Option, Result}
use Rattle.std.specs.List.{range_with_len, flat_map}
use Rattle.faults.specs.declared.Fault.{Fault}
use Rattle.linecode.specs.Codes.{Code, Lawful}
use Rattle.linecode.specs.Chips.{part}
use Rattle.frames.specs.Sent.{block_chips, sent_chips}
use Rattle.codebits.specs.Message.{is_length}
use Rattle.sender.specs.Sending.{State, blocks_to_send, frame_by, pending, answer, chips_after, state_after}

-- a call for the next block: its line code, and what its buffer holds
pub record Call : Type 0 where
  pub code : Code
  pub buffer : List ℕ

-- a cursor before its first block
abbrev pub fresh : List ℕ → Bool → Bool → State
fresh q differential last = record { psdu = q; differential = differential; last = last; block = 0 }

-- the cursor after a list of calls
unfoldable pub after : State → List Call → State
after s [] = s
after s (c ∷ cs) = after (state_after c.code s (length c.buffer)) cs

-- a block that was written: its number as answered, the line code, and the chips in the buffer
pub record Written : Type 0 where
  pub number : ℕ
  pub code : Code
  pub chips : List ℕ

-- what an answer says was written
abbrev pub noted : Result (Option ℕ) Fault → Code → List ℕ → List Written
noted (Ok (Some n)) k chips = record { number = n; code = k; chips = chips } ∷ []
noted (Ok None) k chips = []
noted (Err e) k chips = []

-- the blocks that a list of calls writes
unfoldable pub written : State → List Call → List Written
written s [] = []
written s (c ∷ cs) =
    noted (answer c.code s (length c.buffer)) c.code (chips_after c.code s c.buffer) ++ written (state_after c.code s (length c.buffer)) cs

-- every call is by the line code k
abbrev pub By : Code → List Call → Type 0
By k [] = Unit {0}
By k (c ∷ cs) = (c.code ≡ k) × By k cs

-- the block's part of the chips of the frame that the line code in use would send
abbrev pub part_of : State → Written → List ℕ
part_of s w = part (block_chips w.code) (sent_chips (frame_by w.code s) s.psdu) w.number

-- Over any list of calls on a fresh cursor:
pub record Sends (s : State) (calls : List Call) : Type 0 where
  -- the blocks come in order, each once, and no more than there are
  pub in_order : map (λ w. w.number) (written s calls) ≡ range_with_len 0 (length (written s calls))
  pub no_more : length (written s calls) ≤ blocks_to_send (length s.psdu)
  -- each has its part of the frame's chips
  pub parts : map (λ w. w.chips) (written s calls) ≡ map (part_of s) (written s calls)
  -- by one line code, they are the frame's chips from the first on,
  pub together : (k : Code) → Lawful k → By k calls →
      flat_map (λ w. w.chips) (written s calls) ≡ take (length (written s calls) * block_chips k) (sent_chips (frame_by k s) s.psdu)
  -- and all of them once no block is left
  pub finished : (k : Code) → Lawful k → By k calls → is_length (length s.psdu) ≡ true → pending (after s calls) ≡ false →
      flat_map (λ w. w.chips) (written s calls) ≡ sent_chips (frame_by k s) s.psdu

abbrev pub RunsSend : Type 0
RunsSend = (q : List ℕ) (differential last : Bool) (calls : List Call) → Sends (fresh q differential last) calls
