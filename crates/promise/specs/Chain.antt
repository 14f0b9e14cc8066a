-- The whole chain: a PSDU sent in a band and mode, its header written and read back, and its blocks received as the cursor writes them.
-- Assumes nothing.
use Rattle.std.specs.Prelude.{◌≡◌, ℕ, ◌<◌, ◌≤◌, true, List, length, Some, Ok}
use Rattle.bands.specs.Lines.{line_code}
use Rattle.bands.specs.Modes.{psdu_line, psdu_differential}
use Rattle.bands.specs.declared.band.Band.{Band}
use Rattle.bands.specs.declared.band.RateMode.{RateMode}
use Rattle.bands.specs.declared.line.BandLine.{BandLine}
use Rattle.codebits.specs.Message.{IsPsdu, blocks, message_length, is_length}
use Rattle.costs.specs.Kind.{Kind}
use Rattle.costs.specs.declared.Observation.{Observation}
use Rattle.header.specs.Headers.{header_chips, header_last}
use Rattle.header.specs.Reading.{Fields, read_answer}
use Rattle.header.specs.View.{view}
use Rattle.header.specs.declared.model.Header.{Header}
use Rattle.sender.specs.Sending.{State, next_chips}
use Rattle.receiver.specs.Runs.{listening, Calls}
use Rattle.promise.specs.Clean.{sent_block, ComesBack}

-- what the header of a PSDU says, once its chips were written for a band and mode
abbrev pub written_fields : Band → RateMode → List ℕ → Fields
written_fields b m q = record { band = b; mode = m; length = length q; last = header_last b m (length q) }

-- the cursor over a PSDU before its block n
abbrev pub cursor_at : Band → RateMode → List ℕ → ℕ → State
cursor_at b m q n = record { psdu = q; differential = psdu_differential b m; last = header_last b m (length q); block = n }

-- With the line code x of the band and mode, and the header h that was read:
pub record ChainReturns {C : Type 0} (kind : Kind Observation C) (b : Band) (m : RateMode) (x : BandLine) (q : List ℕ) (h : Header) (costs : List C) (words : List ℕ) (earlier : Calls listening) (room : List ℕ) : Type 0 where
  -- the header's chips are read as it
  pub header_read : read_answer b (header_chips b m (length q)) ≡ Ok (view h)
  -- the blocks that are received are those that the cursor writes
  pub as_sent : (n : ℕ) → n < blocks (length q) → sent_block h (line_code x) q n ≡ next_chips (line_code x) (cursor_at b m q n)
  -- every call is accepted, and the PSDU comes back at a cost of nothing
  pub comes_back : ComesBack kind costs words earlier h (line_code x) q room

-- for every band, mode of it and PSDU that can be sent, after any calls
abbrev pub EveryChainReturns : {C : Type 0} → Kind Observation C → Type 0
EveryChainReturns {C} kind =
    (b : Band) (m : RateMode) (x : BandLine) → psdu_line b m ≡ Some (line_code x) →
    (q : List ℕ) → IsPsdu (length q) q → is_length (length q) ≡ true → (h : Header) → view h ≡ written_fields b m q →
    (costs : List C) (words : List ℕ) (earlier : Calls listening) (room : List ℕ) →
    128 ≤ length costs → message_length (length q) ≤ length words → length q ≤ length room →
    ChainReturns kind b m x q h costs words earlier room
