-- The message of a PSDU: its octets' bits, each octet from its least bit on, then six zeros and pad zeros up to whole blocks.
-- Assumes nothing.
use Rattle.std.specs.Prelude.{◌≡◌, ℕ, ◌+◌, ◌-◌, ◌*◌, ◌/◌, ◌%◌, ◌<◌, Bool, false, List, [], ◌∷◌, ◌++◌, map, length, replicate, slice_index, slice_index_or, nat_le, ◌&&◌}
use Rattle.std.specs.List.{range_with_len}
use Rattle.codebits.specs.Bits.{bit_at, number_at}

-- the zeros that end the message and bring the coder back to rest
abbrev pub tail_bits : ℕ
tail_bits = 6

-- the message bits and the code bits of a block
abbrev pub block_bits : ℕ
block_bits = 88

abbrev pub block_code_bits : ℕ
block_code_bits = 176

-- N_B, the blocks of a PSDU of L octets: (8 × L + 6) / 88, rounded up
abbrev pub blocks : ℕ → ℕ
blocks L = (8 * L + tail_bits + (block_bits - 1)) / block_bits

-- N_D, the bits of its message
abbrev pub message_length : ℕ → ℕ
message_length L = block_bits * blocks L

abbrev pub pad_bits : ℕ → ℕ
pad_bits L = message_length L - (8 * L + tail_bits)

-- whether a PSDU can have L octets
abbrev pub is_length : ℕ → Bool
is_length L = nat_le 4 L && nat_le L 2047

-- L octets
abbrev pub IsPsdu : ℕ → List ℕ → Type 0
IsPsdu L p = (length p ≡ L) × ((i : ℕ) → i < L → slice_index p i < 256)

-- message bit k of a PSDU; past its octets the message is zero
unfoldable pub message_bit : List ℕ → ℕ → Bool
message_bit p k = bit_at (slice_index p (k / 8)) (k % 8)

-- octet i of a message, and the PSDU of its first L octets
unfoldable pub octet_of : (ℕ → Bool) → ℕ → ℕ
octet_of m i = number_at m (8 * i) 8

unfoldable pub octets_of : ℕ → (ℕ → Bool) → List ℕ
octets_of L m = map (octet_of m) (range_with_len 0 L)

-- the bits of octets, each octet from its least bit on
unfoldable pub octet_bits : List ℕ → List Bool
octet_bits [] = []
octet_bits (o ∷ os) = map (bit_at o) (range_with_len 0 8) ++ octet_bits os

-- the message as one list: the octets' bits, six zeros and the pads
unfoldable pub message : List ℕ → List Bool
message p = octet_bits p ++ (replicate tail_bits false ++ replicate (pad_bits (length p)) false)

-- That list has N_D bits, and the message bits are those of the list.
pub record MessageListed : Type 0 where
  pub length_of_message : (p : List ℕ) → length (message p) ≡ message_length (length p)
  pub message_at : (p : List ℕ) (k : ℕ) → slice_index_or (message p) k false ≡ message_bit p k

-- A PSDU is read off its message, so two of one length with the same message bits are equal.
pub record MessageDetermines : Type 0 where
  pub octets_back : (L : ℕ) (p : List ℕ) → IsPsdu L p → octets_of L (message_bit p) ≡ p
  pub same_psdu : (L : ℕ) (p q : List ℕ) → IsPsdu L p → IsPsdu L q → ((k : ℕ) → k < 8 * L → message_bit p k ≡ message_bit q k) → p ≡ q
