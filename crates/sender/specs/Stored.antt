-- What a cursor stores of the coding before its next block.
-- Assumes nothing.
use Rattle.std.specs.Prelude.{◌≡◌, ℕ, ◌+◌, ◌*◌, ◌<◌, Bool, List, [], ◌∷◌, map, length, slice_index_or}
use Rattle.std.specs.List.{range_with_len}
use Rattle.codebits.specs.Bits.{previous}
use Rattle.codebits.specs.Message.{message_bit, tail_bits, block_bits, block_code_bits}
use Rattle.codebits.specs.Convolution.{back, code_bit}
use Rattle.codebits.specs.Differential.{sent_bit}
use Rattle.frames.specs.Sent.{interleaved}

-- the six message bits before place k, the newest first
unfoldable pub last_six : (ℕ → Bool) → ℕ → List Bool
last_six m k = map (back m k) (range_with_len 1 tail_bits)

-- the bit of a PSDU that is sent before place p, and the header's last bit `start` before the first
unfoldable pub last_sent : Bool → Bool → List ℕ → ℕ → Bool
last_sent differential start q p = previous start (sent_bit differential start (interleaved q)) p

-- these are the code bits of block b of a PSDU, two for each of its message bits
abbrev pub IsCoded : List ℕ → ℕ → List (List Bool) → Type 0
IsCoded q b coded =
    (length coded ≡ block_bits)
    × ((k : ℕ) → k < block_bits → slice_index_or coded k [] ≡ code_bit (message_bit q) (block_code_bits * b + 2 * k) ∷ code_bit (message_bit q) (block_code_bits * b + 2 * k + 1) ∷ [])
