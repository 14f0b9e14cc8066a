-- How a frame is read by its blocks.
-- Assumes nothing.
use Rattle.std.specs.Prelude.{◌≡◌, ℕ, ◌+◌, ◌*◌, ◌<◌, List, [], ◌++◌}
use Rattle.linecode.specs.Codes.{Lawful}
use Rattle.frames.specs.Sent.{Frame, block_groups}
use Rattle.frames.specs.Heard.{observed, doubtful}
use Rattle.frames.specs.Joined.{last_bit, last_doubt, Blocks}
use Rattle.costs.specs.Observed.{observation}
use Rattle.costs.specs.declared.Observation.{Observation}
use Rattle.costs.specs.declared.Observation.TheVariants.{Sure}
use Rattle.reading.specs.Reading.{block_seen, last_seen}

-- what the chips of a frame show of its code bit j, and of the last encoded bit of its first b blocks
abbrev pub frame_seen : Frame → List ℕ → ℕ → Observation
frame_seen f chips j = observation (observed f chips j) (doubtful f chips j)

abbrev pub frame_last : Frame → ℕ → List ℕ → Observation
frame_last f b chips = observation (last_bit f b chips) (last_doubt f b chips)

-- The chips of b blocks have been read, and those of one more follow:
pub record Follows (f : Frame) (b : ℕ) (front block : List ℕ) : Type 0 where
  -- what the block shows are the frame's next code bits
  pub codes : (j : ℕ) → j < 176 → block_seen f.code f.differential (frame_last f b front) (b * block_groups f.code) block j ≡ frame_seen f (front ++ block) (176 * b + j)
  -- what it answers is what the block after it needs
  pub last : last_seen f.code (b * block_groups f.code) block ≡ frame_last f (b + 1) (front ++ block)
  -- and the earlier code bits stay
  pub earlier : (j : ℕ) → j < 176 * b → frame_seen f (front ++ block) j ≡ frame_seen f front j

pub record FrameReads : Type 0 where
  -- the first block needs the header's last bit, which is sure
  pub starts : (f : Frame) → frame_last f 0 [] ≡ Sure f.last
  pub goes_on : (f : Frame) → Lawful f.code → (b : ℕ) (front block : List ℕ) → Blocks f b front → Follows f b front block
