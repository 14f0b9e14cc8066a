-- What stands behind the longest capture changes nothing.
-- Assumes nothing.
use Rattle.std.specs.Prelude.{◌≡◌, ℕ, ◌+◌, ◌*◌, ◌≤◌, List, ◌++◌, length}
use Rattle.captures.specs.Captures.{report_of}

-- three counts of four octets, two letters, and at 2450 MHz the 11264 chips of a header and 24 blocks of 5632 chips
abbrev pub longest_capture : ℕ
longest_capture = 3 * 4 + 2 + 11264 + 24 * 5632

abbrev pub NothingReadBehind : Type 0
NothingReadBehind = (capture more : List ℕ) → longest_capture ≤ length capture → report_of (capture ++ more) ≡ report_of capture
