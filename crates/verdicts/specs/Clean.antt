-- The capture of a frame as it is sent, and what is printed of it.
-- Assumes nothing.
use Rattle.std.specs.Prelude.{◌≡◌, ℕ, ◌/◌, ◌%◌, ◌≤◌, true, List, [], ◌∷◌, ◌++◌, length}
use Rattle.bands.specs.declared.band.Band.{Band}
use Rattle.bands.specs.declared.band.Band.TheVariants.{Mhz780, Mhz868, Mhz915, Mhz2450}
use Rattle.bands.specs.declared.band.RateMode.{RateMode}
use Rattle.bands.specs.Numbers.{mode_number}
use Rattle.codebits.specs.Message.{IsPsdu}
use Rattle.frames.specs.Sent.{Frame, sent_chips}
use Rattle.header.specs.Phr.{has_mode}
use Rattle.header.specs.Headers.{header_chips, header_last}
use Rattle.header.specs.Reading.{Fields}
use Rattle.captures.specs.declared.cost.Cost.{Cost}
use Rattle.captures.specs.declared.cost.Cost.TheVariants.{Count as CountOf, Graded as GradedOf}
use Rattle.captures.specs.declared.settings.CostChoice.{CostChoice}
use Rattle.captures.specs.declared.settings.CostChoice.TheVariants.{Count as ByCount, Graded as ByGraded}
use Rattle.captures.specs.Lines.{frame_lines}
use Rattle.captures.specs.Captures.{longest, frame_after, report_of}

-- a count below 2^32 in four octets, least first
abbrev pub count_octets : ℕ → List ℕ
count_octets n = n % 256 ∷ n / 256 % 256 ∷ n / 65536 % 256 ∷ n / 16777216 ∷ []

-- a section, after its count
abbrev pub section_octets : List ℕ → List ℕ
section_octets octets = count_octets (length octets) ++ octets

-- A, B, C and D
abbrev pub band_letter : Band → ℕ
band_letter Mhz780 = 65
band_letter Mhz868 = 66
band_letter Mhz915 = 67
band_letter Mhz2450 = 68

-- p and g
abbrev pub cost_letter : CostChoice → ℕ
cost_letter ByCount = 112
cost_letter ByGraded = 103

-- what the header of a mode and a length says
abbrev pub fields_sent : Band → RateMode → ℕ → Fields
fields_sent b m L = record { band = b; mode = m; length = L; last = header_last b m L }

-- how a PSDU is sent
abbrev pub frame_sent : Band → RateMode → List ℕ → Frame
frame_sent b m psdu = frame_after (fields_sent b m (length psdu))

-- the three sections, and whatever follows them
abbrev pub clean_capture : Band → CostChoice → RateMode → List ℕ → List ℕ → List ℕ
clean_capture b c m psdu more =
    section_octets (band_letter b ∷ cost_letter c ∷ []) ++ (section_octets (header_chips b m (length psdu)) ++ (section_octets (sent_chips (frame_sent b m psdu) psdu) ++ more))

abbrev pub no_cost : CostChoice → Cost
no_cost ByCount = CountOf 0
no_cost ByGraded = GradedOf 0 0

-- for every band, mode of it and PSDU of 4 to 255 octets, and either cost
abbrev pub CleanCapturesComeBack : Type 0
CleanCapturesComeBack =
    (b : Band) (c : CostChoice) (m : RateMode) (psdu more : List ℕ) → has_mode b m ≡ true → 4 ≤ length psdu → length psdu ≤ longest → IsPsdu (length psdu) psdu →
    report_of (clean_capture b c m psdu more) ≡ frame_lines (mode_number m) (length psdu) (no_cost c) psdu
