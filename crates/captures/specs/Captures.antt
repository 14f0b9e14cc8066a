-- What a capture means: the fault that its octets show first, or the frame that was heard, the PSDU that is nearest to its chips, and what that costs; and the lines that tell it.
-- Assumes nothing.
use Rattle.std.specs.Prelude.{ℕ, ◌*◌, cond, List, take, Some, None, Ok, Err, Option, Result, nat_lt}
use Rattle.faults.specs.declared.Fault.{Fault}
use Rattle.faults.specs.declared.FaultKind.TheVariants.{BenchLength}
use Rattle.linecode.specs.Codes.{Code}
use Rattle.linecode.specs.Straight.{straight}
use Rattle.bands.specs.declared.band.RateMode.{RateMode}
use Rattle.bands.specs.Modes.{psdu_line, psdu_differential}
use Rattle.bands.specs.Numbers.{mode_number}
use Rattle.codebits.specs.Message.{blocks}
use Rattle.frames.specs.Sent.{Frame, block_chips}
use Rattle.costs.specs.Kinds.{count_kind, graded_kind}
use Rattle.header.specs.Headers.{header_length}
use Rattle.header.specs.Reading.{Fields, read_answer}
use Rattle.captures.specs.declared.cost.Cost.{Cost}
use Rattle.captures.specs.declared.outcome.Outcome.{Outcome}
use Rattle.captures.specs.declared.settings.CostChoice.{CostChoice}
use Rattle.captures.specs.declared.settings.CostChoice.TheVariants.{Count as ByCount, Graded as ByGraded}
use Rattle.captures.specs.declared.settings.Settings.{Settings}
use Rattle.captures.specs.Sections.{bind, refuse, settings_of, section_start, section_of}
use Rattle.captures.specs.Decoding.{decoded}
use Rattle.captures.specs.Costs.{told_count, told_graded, told_by}
use Rattle.captures.specs.Lines.{frame_lines, refused_line}

-- the most octets that the bench takes
abbrev pub longest : ℕ
longest = 255

-- the line code of a frame; every header that is read has a mode of its band, so it has one
abbrev pub code_or : Option Code → Code
code_or (Some k) = k
code_or None = straight

-- how the PSDU after a header was sent
abbrev pub frame_after : Fields → Frame
frame_after f = record { code = code_or (psdu_line f.band f.mode); differential = psdu_differential f.band f.mode; last = f.last; octets = f.length }

-- the cost and the PSDU, by the cost that the settings name
abbrev pub decoded_as : CostChoice → Frame → List ℕ → Result (Cost × List ℕ) Fault
decoded_as ByCount f octets = told_by told_count (decoded count_kind f octets)
decoded_as ByGraded f octets = told_by told_graded (decoded graded_kind f octets)

-- What an accepted capture tells: mode and length, cost and PSDU.
pub record Verdict : Type 0 where
  pub mode : RateMode
  pub octets : ℕ
  pub cost : Cost
  pub psdu : List ℕ

-- section 3 after a header: its count is that of the frame's chips
abbrev pub psdu_part : CostChoice → Fields → List ℕ → Result Verdict Fault
psdu_part choice f rest =
    bind (section_start 3 (blocks f.length * block_chips (frame_after f).code) rest) (λ octets.
    bind (decoded_as choice (frame_after f) octets) (λ d. Ok (record { mode = f.mode; octets = f.length; cost = d.0; psdu = d.1 })))

-- the header's length is judged before section 3 is looked at
abbrev pub frame_part : CostChoice → List ℕ → Fields → Result Verdict Fault
frame_part choice rest f = cond (nat_lt longest f.length) (refuse BenchLength f.length) (psdu_part choice f rest)

-- section 2, and what follows
abbrev pub header_part : Settings → List ℕ → Result Verdict Fault
header_part s rest = bind (section_of 2 (header_length s.band) rest) (λ t. bind (read_answer s.band t.0) (frame_part s.cost t.1))

-- the whole capture
abbrev pub verdict_of : List ℕ → Result Verdict Fault
verdict_of capture = bind (settings_of capture) (λ s. header_part s.0 s.1)

-- what is printed of it
abbrev pub lines_of : Result Verdict Fault → List ℕ
lines_of (Ok v) = frame_lines (mode_number v.mode) v.octets v.cost v.psdu
lines_of (Err f) = refused_line f

abbrev pub report_of : List ℕ → List ℕ
report_of capture = lines_of (verdict_of capture)

-- an outcome, with the octets at the start of the buffer
abbrev pub verdict_in : Result Outcome Fault → List ℕ → Result Verdict Fault
verdict_in (Ok o) room = Ok (record { mode = o.mode; octets = o.length; cost = o.cost; psdu = take o.length room })
verdict_in (Err e) room = Err e
