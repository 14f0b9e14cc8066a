-- Wrecked groups: those that noise may turn into another value than the one that was sent.
-- Assumes nothing.
use Rattle.std.specs.Prelude.{◌≡◌, ℕ, ◌*◌, ◌<◌, ◌≤◌, Bool, cond, List, nat_le}
use Rattle.linecode.specs.Codes.{distance, least_distance}
use Rattle.codebits.specs.Bits.{count}
use Rattle.frames.specs.Sent.{Frame, psdu_bit, groups, group_chips, sent_chips}
use Rattle.frames.specs.Heard.{damaged}
use Rattle.nearest.specs.Messages.{longest_psdu}

-- the damaged chips of a group are those unlike the chips that are sent for the PSDU q
abbrev pub DamagedUnlikeSent : Frame → Type 0
DamagedUnlikeSent f =
    (q chips : List ℕ) → f.octets ≤ longest_psdu → (j : ℕ) → j < groups f →
    damaged f.code (psdu_bit f q) chips j ≡ distance (group_chips f.code (sent_chips f q) j) (group_chips f.code chips j)

-- group j is wrecked, if the PSDU q was sent: twice its damaged chips is at least the least distance at its position
unfoldable pub wrecked : Frame → List ℕ → List ℕ → ℕ → Bool
wrecked f q chips j = nat_le (least_distance f.code j) (2 * damaged f.code (psdu_bit f q) chips j)

-- in how many decoded bits an encoded bit has a part: under differential coding in its own and in the next
abbrev pub reach : Bool → ℕ
reach differential = cond differential 2 1

-- the code bits that the wrecked groups can reach
unfoldable pub wrecked_bits : Frame → List ℕ → List ℕ → ℕ
wrecked_bits f q chips = reach f.differential * (count (wrecked f q chips) (groups f) * f.code.bits)
