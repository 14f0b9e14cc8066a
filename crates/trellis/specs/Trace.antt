-- The trace back by words of survivors, whatever they hold.
-- Assumes nothing.
use Rattle.std.specs.Prelude.{ℕ, ◌<◌, Bool, List, ◌++◌, drop, slice_index}
use Rattle.codebits.specs.Bits.{bit_at}
use Rattle.codebits.specs.Message.{message_length, octets_of}
use Rattle.nearest.specs.Messages.{SameBelow}
use Rattle.nearest.specs.Trellis.{traced}
use Rattle.trellis.specs.Memory.{state_count}

-- which way state s came at step k, read off the words
abbrev pub took_by : List ℕ → ℕ → ℕ → Bool
took_by words k s = bit_at (slice_index words k) s

-- the PSDU of L octets that the words trace back from state zero
unfoldable pub traced_by : ℕ → List ℕ → List ℕ
traced_by L words = octets_of L (traced (took_by words) (message_length L) 0)

-- the buffer after it is written at its start
unfoldable pub psdu_after : ℕ → List ℕ → List ℕ → List ℕ
psdu_after L words psdu = traced_by L words ++ drop L psdu

-- From state s after n steps the trace comes to state t after k steps: what is left to trace is what the words trace from there.
pub record ComesTo (words : List ℕ) (n s k t : ℕ) : Type 0 where
  pub small : t < state_count
  pub left : SameBelow k (traced (took_by words) n s) (traced (took_by words) k t)
