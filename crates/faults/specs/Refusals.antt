-- The refusals: the number of each, its sentence, and what a fault is shown as.
-- Assumes nothing.
use Rattle.std.specs.Prelude.{ℕ, List, ◌++◌, codes, decimal}
use Rattle.faults.specs.declared.Fault.{Fault}
use Rattle.faults.specs.declared.Layer.{Layer}
use Rattle.faults.specs.declared.Layer.TheVariants.{Line, Header, Frame, Bench}
use Rattle.faults.specs.declared.FaultKind.{FaultKind}
use Rattle.faults.specs.declared.FaultKind.TheVariants.{ShortMemory, FullFrame, EarlyClose, PsduLength, ShortBuffer, ChipCount, ChipValue, GroupValue, MultiplexedSfd, UnknownSfd, Parity, RateMode, FrameLength, Settings, Section, BenchLength}

-- the number of each refusal
abbrev pub numbered : FaultKind → ℕ
numbered ShortMemory = 1
numbered FullFrame = 2
numbered EarlyClose = 3
numbered PsduLength = 4
numbered ShortBuffer = 5
numbered ChipCount = 6
numbered ChipValue = 7
numbered GroupValue = 8
numbered MultiplexedSfd = 9
numbered UnknownSfd = 10
numbered Parity = 11
numbered RateMode = 12
numbered FrameLength = 13
numbered Settings = 14
numbered Section = 15
numbered BenchLength = 16

-- what each says
abbrev pub sentence : FaultKind → List ℕ
sentence ShortMemory = codes "too few costs or survivor words"
sentence FullFrame = codes "the frame has all its blocks"
sentence EarlyClose = codes "the frame still lacks blocks"
sentence PsduLength = codes "a PSDU has 4 to 2047 octets"
sentence ShortBuffer = codes "the PSDU does not fit the buffer"
sentence ChipCount = codes "wrong number of chips"
sentence ChipValue = codes "a chip is neither 0 nor 1"
sentence GroupValue = codes "the value has more bits than a group"
sentence MultiplexedSfd = codes "the SFD announces M-DSSS"
sentence UnknownSfd = codes "the octet is no SFD"
sentence Parity = codes "a parity bit of the PHR is wrong"
sentence RateMode = codes "the band lacks the rate mode"
sentence FrameLength = codes "the header's length is out of range"
sentence Settings = codes "the capture's settings are wrong"
sentence Section = codes "a section of the capture has the wrong size"
sentence BenchLength = codes "the bench takes at most 255 octets"

abbrev pub named : Layer → List ℕ
named Line = codes "line"
named Header = codes "header"
named Frame = codes "frame"
named Bench = codes "bench"

abbrev pub fault : FaultKind → ℕ → Layer → Fault
fault kind place layer = record { kind = kind; place = place; layer = layer }

-- the sentence that a fault is shown as
abbrev pub described : Fault → List ℕ
described f =
    codes "refusal " ++ (decimal (numbered f.kind) ++ (codes " at " ++ (decimal f.place ++ (codes " (" ++ (named f.layer ++ (codes "): " ++ sentence f.kind))))))
