-- How many wrecked groups are mended, by every line code and by both kinds of cost.
-- Assumes nothing.
use Rattle.std.specs.Prelude.{◌≡◌, ℕ, ◌+◌, ◌*◌, ◌<◌, ◌≤◌, List, length}
use Rattle.linecode.specs.Codes.{Code, Lawful}
use Rattle.codebits.specs.Bits.{count, differences}
use Rattle.codebits.specs.Message.{IsPsdu}
use Rattle.frames.specs.Sent.{Frame, frame_chips, sent_chips}
use Rattle.costs.specs.Differences.{sure_differences}
use Rattle.costs.specs.Kinds.{count_kind, graded_kind}
use Rattle.costs.specs.Observed.{bits_of, doubts_of}
use Rattle.costs.specs.declared.Observation.{Observation}
use Rattle.nearest.specs.Messages.{longest_psdu, psdu_bits, code_length}
use Rattle.nearest.specs.Nearest.{psdu_cost}
use Rattle.exact.specs.Mended.{AloneNearest}
use Rattle.exact.specs.Touched.{AsSent}
use Rattle.reading.specs.Frames.{frame_seen}
use Rattle.wrecked.specs.Wrecked.{wrecked_bits}

-- What is observed is near enough to the PSDU q, of L octets, that both kinds of cost return q:
pub record NearEnough (observed : ℕ → Observation) (L : ℕ) (q : List ℕ) : Type 0 where
  -- at most four code bits are wrong
  pub few_wrong : differences (bits_of observed) (psdu_bits q) (code_length L) ≤ 4
  -- twice those that are wrong for sure, and the doubtful ones, are at most nine
  pub few_wrong_or_doubtful : 2 * sure_differences observed (psdu_bits q) (code_length L) + count (doubts_of observed) (code_length L) ≤ 9
  pub by_count : AloneNearest count_kind observed L q
  pub by_graded : AloneNearest graded_kind observed L q

-- The wrecked groups of a frame reach at most four code bits, so they are mended.
abbrev pub FewWreckedMended : Frame → Type 0
FewWreckedMended f =
    (q chips : List ℕ) → f.octets ≤ longest_psdu → IsPsdu f.octets q → length chips ≡ frame_chips f →
    wrecked_bits f q chips ≤ 4 → NearEnough (frame_seen f chips) f.octets q

-- The chips show the PSDU q unharmed:
pub record Unharmed (f : Frame) (q chips : List ℕ) : Type 0 where
  pub whole : length chips ≡ frame_chips f
  pub unwrecked : wrecked_bits f q chips ≡ 0
  pub as_sent : (j : ℕ) → j < code_length f.octets → AsSent (frame_seen f chips) q j
  pub returned : NearEnough (frame_seen f chips) f.octets q
  pub count_nothing : psdu_cost count_kind (frame_seen f chips) f.octets q ≡ count_kind.nothing
  pub graded_nothing : psdu_cost graded_kind (frame_seen f chips) f.octets q ≡ graded_kind.nothing

abbrev pub SentUnharmed : Frame → Type 0
SentUnharmed f = (q : List ℕ) → f.octets ≤ longest_psdu → IsPsdu f.octets q → Unharmed f q (sent_chips f q)

-- a law of frames, by every line code, and by one
abbrev pub ByEveryCode : (Frame → Type 0) → Type 0
ByEveryCode Law = (f : Frame) → Lawful f.code → Law f

abbrev pub ByCode : Code → (Frame → Type 0) → Type 0
ByCode k Law = (f : Frame) → f.code ≡ k → Law f
