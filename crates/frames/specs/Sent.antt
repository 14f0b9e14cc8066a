-- What is sent for a PSDU: its code bits interleaved, coded differentially where that is set, and spread group by group.
-- Assumes nothing.
use Rattle.linecode.specs.Chips.{part}
use Rattle.std.specs.Prelude.{◌≡◌, ℕ, zero, suc, ◌+◌, ◌*◌, ◌/◌, ◌<◌, ◌≤◌, Bool, List, [], ◌++◌, length, take, drop}
use Rattle.linecode.specs.Codes.{Code, Lawful}
use Rattle.codebits.specs.Bits.{number_at}
use Rattle.codebits.specs.Message.{block_code_bits, blocks, message_bit}
use Rattle.codebits.specs.Convolution.{code_bit}
use Rattle.codebits.specs.Interleaving.{origin}
use Rattle.codebits.specs.Differential.{sent_bit}

-- how a frame is sent: its line code, whether it is coded differentially, the header's last encoded bit and the PSDU's length
pub record Frame : Type 0 where
  pub code : Code
  pub differential : Bool
  pub last : Bool
  pub octets : ℕ

-- the bits of a PSDU, interleaved, and as they are sent
abbrev pub interleaved : List ℕ → ℕ → Bool
interleaved q p = code_bit (message_bit q) (origin p)

unfoldable pub psdu_bit : Frame → List ℕ → ℕ → Bool
psdu_bit f q p = sent_bit f.differential f.last (interleaved q) p

-- the value of group j of a stream
abbrev pub group_value : Code → (ℕ → Bool) → ℕ → ℕ
group_value k s j = number_at s (k.bits * j) k.bits

-- the words of n groups of a stream, from group `first` on; a group's position is its number
unfoldable pub spread_groups : Code → (ℕ → Bool) → ℕ → ℕ → List ℕ
spread_groups k s first zero = []
spread_groups k s first (suc n) = spread_groups k s first n ++ k.word (first + n) (group_value k s (first + n))

-- the groups and the chips of a block, and of a frame
abbrev pub block_groups : Code → ℕ
block_groups k = block_code_bits / k.bits

abbrev pub block_chips : Code → ℕ
block_chips k = block_groups k * k.chips

abbrev pub groups : Frame → ℕ
groups f = blocks f.octets * block_groups f.code

abbrev pub frame_chips : Frame → ℕ
frame_chips f = groups f * f.code.chips

-- the chips that are sent for a PSDU
abbrev pub sent_chips : Frame → List ℕ → List ℕ
sent_chips f q = spread_groups f.code (psdu_bit f q) 0 (groups f)

abbrev pub group_chips : Code → List ℕ → ℕ → List ℕ
group_chips k = part k.chips

-- The chips of a PSDU, cut into groups and into blocks:
pub record SentCut : Type 0 where
  pub whole : (f : Frame) (q : List ℕ) → Lawful f.code → f.octets ≤ 2047 → length (sent_chips f q) ≡ frame_chips f
  pub group : (f : Frame) (q : List ℕ) → Lawful f.code → f.octets ≤ 2047 → (j : ℕ) → j < groups f →
      group_chips f.code (sent_chips f q) j ≡ f.code.word j (group_value f.code (psdu_bit f q) j)
  pub block : (f : Frame) (q : List ℕ) → Lawful f.code → f.octets ≤ 2047 → (b : ℕ) → b < blocks f.octets →
      part (block_chips f.code) (sent_chips f q) b ≡ spread_groups f.code (psdu_bit f q) (b * block_groups f.code) (block_groups f.code)
