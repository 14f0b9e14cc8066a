-- What is read from a frame's chips: a value for each group, encoded bits, decoded bits and observed code bits, each with its doubt.
-- Assumes nothing.
use Rattle.std.specs.Prelude.{◌≡◌, ℕ, ◌+◌, ◌*◌, ◌/◌, ◌%◌, ◌^◌, ◌<◌, ◌≤◌, Bool, false, List, length}
use Rattle.linecode.specs.Codes.{Code, Lawful, distance, value_of, least_distance}
use Rattle.codebits.specs.Bits.{bit_at}
use Rattle.codebits.specs.Message.{message_length, message_bit}
use Rattle.codebits.specs.Convolution.{code_bit}
use Rattle.codebits.specs.Interleaving.{moved}
use Rattle.codebits.specs.Differential.{decoded_bit, decoded_doubt}
use Rattle.frames.specs.Sent.{Frame, group_value, group_chips, sent_chips}

-- A run of chips whose first group stands at position `first`: the value of its group j, and whether another ties with it.
unfoldable pub heard : Code → ℕ → List ℕ → ℕ → ℕ × Bool
heard k first chips j = value_of k (first + j) (group_chips k chips j)

-- encoded bit i of the run is a bit of its group's value, and doubtful if that is tied
unfoldable pub encoded_bit : Code → ℕ → List ℕ → ℕ → Bool
encoded_bit k first chips i = bit_at (heard k first chips (i / k.bits)).0 (i % k.bits)

unfoldable pub encoded_doubt : Code → ℕ → List ℕ → ℕ → Bool
encoded_doubt k first chips i = (heard k first chips (i / k.bits)).1

-- code bit j of a frame, as observed where interleaving has moved it; the header's last bit is sure
unfoldable pub observed : Frame → List ℕ → ℕ → Bool
observed f chips j = decoded_bit f.differential f.last (encoded_bit f.code 0 chips) (moved j)

unfoldable pub doubtful : Frame → List ℕ → ℕ → Bool
doubtful f chips j = decoded_doubt f.differential false (encoded_doubt f.code 0 chips) (moved j)

-- the chips of group j unlike those that a stream is sent by
abbrev pub damaged : Code → (ℕ → Bool) → List ℕ → ℕ → ℕ
damaged k s chips j = distance (k.word j (group_value k s j)) (group_chips k chips j)

-- a group with fewer than half its least distance in damaged chips gives the value that was sent, for sure
abbrev pub UnwreckedHeard : Type 0
UnwreckedHeard =
    (k : Code) → Lawful k → (s : ℕ → Bool) (chips : List ℕ) (j : ℕ) → j < 2 ^ 32 → j * k.chips + k.chips ≤ length chips →
    2 * damaged k s chips j < least_distance k j → heard k 0 chips j ≡ (group_value k s j, false)

-- the chips that are sent for a PSDU are read as its code bits, none of them doubtful
abbrev pub SentHeard : Type 0
SentHeard =
    (f : Frame) (q : List ℕ) → Lawful f.code → f.octets ≤ 2047 →
    (j : ℕ) → j < 2 * message_length f.octets → (observed f (sent_chips f q) j ≡ code_bit (message_bit q) j) × (doubtful f (sent_chips f q) j ≡ false)
