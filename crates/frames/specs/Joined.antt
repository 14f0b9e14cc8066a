-- How blocks join: what a frame's chips give, block by block.
-- Assumes nothing.
use Rattle.std.specs.Prelude.{◌≡◌, ℕ, ◌+◌, ◌*◌, ◌<◌, Bool, false, List, ◌++◌, length}
use Rattle.linecode.specs.Codes.{Code, Lawful}
use Rattle.codebits.specs.Bits.{previous}
use Rattle.codebits.specs.Message.{block_code_bits}
use Rattle.codebits.specs.Interleaving.{moved_in}
use Rattle.codebits.specs.Differential.{decoded_bit, decoded_doubt}
use Rattle.frames.specs.Sent.{Frame, block_groups, block_chips}
use Rattle.frames.specs.Heard.{encoded_bit, encoded_doubt, observed, doubtful}

-- code bit j of a block whose first group stands at position `first`, after the encoded bit `last`
unfoldable pub block_observed : Code → Bool → Bool → ℕ → List ℕ → ℕ → Bool
block_observed k differential last first chips j = decoded_bit differential last (encoded_bit k first chips) (moved_in j)

unfoldable pub block_doubtful : Code → Bool → Bool → ℕ → List ℕ → ℕ → Bool
block_doubtful k differential last first chips j = decoded_doubt differential last (encoded_doubt k first chips) (moved_in j)

-- the last encoded bit of the first b blocks, and its doubt: what the next block needs of them
unfoldable pub last_bit : Frame → ℕ → List ℕ → Bool
last_bit f b chips = previous f.last (encoded_bit f.code 0 chips) (block_code_bits * b)

unfoldable pub last_doubt : Frame → ℕ → List ℕ → Bool
last_doubt f b chips = previous false (encoded_doubt f.code 0 chips) (block_code_bits * b)

-- b whole blocks
abbrev pub Blocks : Frame → ℕ → List ℕ → Type 0
Blocks f b chips = length chips ≡ b * block_chips f.code

-- Where `block` follows b blocks:
pub record Joins (f : Frame) (b : ℕ) (front block : List ℕ) : Type 0 where
  -- the earlier code bits stay as they are
  pub earlier : (j : ℕ) → j < block_code_bits * b → (observed f (front ++ block) j ≡ observed f front j) × (doubtful f (front ++ block) j ≡ doubtful f front j)
  -- the next ones are those of the block
  pub next_observed : (j : ℕ) → j < block_code_bits →
      observed f (front ++ block) (block_code_bits * b + j) ≡ block_observed f.code f.differential (last_bit f b front) (b * block_groups f.code) block j
  pub next_doubtful : (j : ℕ) → j < block_code_bits →
      doubtful f (front ++ block) (block_code_bits * b + j) ≡ block_doubtful f.code f.differential (last_doubt f b front) (b * block_groups f.code) block j
  -- and the last encoded bit is the block's
  pub next_last_bit : last_bit f (b + 1) (front ++ block) ≡ encoded_bit f.code (b * block_groups f.code) block 175
  pub next_last_doubt : last_doubt f (b + 1) (front ++ block) ≡ encoded_doubt f.code (b * block_groups f.code) block 175

abbrev pub BlocksJoin : Type 0
BlocksJoin = (f : Frame) → Lawful f.code → (b : ℕ) (front block : List ℕ) → Blocks f b front → Joins f b front block
