-- The PHR, whose bits p0 to p15 are those of a number from its least bit on: what they say, and which number says a mode and a length.
-- Assumes nothing.
use Rattle.std.specs.Prelude.{ℕ, zero, suc, ◌+◌, ◌*◌, ◌/◌, ◌%◌, Bool, false, cond, List, [], ◌∷◌, is_some, Ok, Err, Result, ◌==◌, nat_lt}
use Rattle.faults.specs.declared.Fault.{Fault}
use Rattle.faults.specs.declared.FaultKind.{FaultKind}
use Rattle.faults.specs.declared.FaultKind.TheVariants.{MultiplexedSfd, UnknownSfd, Parity, FrameLength, RateMode as UnknownMode}
use Rattle.faults.specs.declared.Layer.TheVariants.{Header}
use Rattle.faults.specs.Refusals.{fault}
use Rattle.codebits.specs.Bits.{◌⊕◌, one, bit_at}
use Rattle.bands.specs.declared.band.Band.{Band}
use Rattle.bands.specs.declared.band.RateMode.{RateMode}
use Rattle.bands.specs.declared.band.RateMode.TheVariants.{Mode0, Mode1, Mode2, Mode3}
use Rattle.bands.specs.Numbers.{mode_number}
use Rattle.bands.specs.Modes.{psdu_line}

-- the start-of-frame delimiters (SFD) of DSSS and of multiplexed DSSS
abbrev pub dsss_sfd : ℕ
dsss_sfd = 0xA7

abbrev pub multiplexed_sfd : ℕ
multiplexed_sfd = 0x58

-- the band has the mode
abbrev pub has_mode : Band → RateMode → Bool
has_mode b m = is_some (psdu_line b m)

-- the sum modulo 2 of n bits of a number from bit i on
unfoldable pub sum_from : ℕ → ℕ → ℕ → Bool
sum_from w i zero = false
sum_from w i (suc n) = sum_from w i n ⊕ bit_at w (i + n)

-- what p0 has to be, p2 ⊕ … ⊕ p8, and p1, p9 ⊕ … ⊕ p15
abbrev pub low_parity : ℕ → Bool
low_parity w = sum_from w 2 7

abbrev pub high_parity : ℕ → Bool
high_parity w = sum_from w 9 7

-- a mode by its number, of two bits
abbrev pub mode_numbered : ℕ → RateMode
mode_numbered zero = Mode0
mode_numbered (suc zero) = Mode1
mode_numbered (suc (suc zero)) = Mode2
mode_numbered (suc (suc (suc n))) = Mode3

-- p2 and p3 are the mode, p4 is ignored, and p5 to p15 are the length
abbrev pub mode_of : ℕ → RateMode
mode_of w = mode_numbered (w / 4 % 4)

abbrev pub length_of : ℕ → ℕ
length_of w = w / 32

-- a header refuses
abbrev pub refuse : {X : Type 0} → FaultKind → ℕ → Result X Fault
refuse kind place = Err (fault kind place Header)

-- a mode of the band, and then a length
abbrev pub judged_fields : Band → RateMode → ℕ → Result (RateMode × ℕ) Fault
judged_fields b m l = cond (has_mode b m) (cond (nat_lt l 4) (refuse FrameLength l) (Ok (m, l))) (refuse UnknownMode (mode_number m))

-- the parities, and then the fields
abbrev pub read_phr : Band → ℕ → Result (RateMode × ℕ) Fault
read_phr b w =
    cond (bit_at w 0 ⊕ low_parity w) (refuse Parity 0)
    (cond (bit_at w 1 ⊕ high_parity w) (refuse Parity 1) (judged_fields b (mode_of w) (length_of w)))

-- the SFD, and then the two octets of the PHR
abbrev pub read_fields : Band → ℕ → ℕ → ℕ → Result (RateMode × ℕ) Fault
read_fields b sfd lo hi = cond (sfd == dsss_sfd) (read_phr b (lo + hi * 256)) (refuse (cond (sfd == multiplexed_sfd) MultiplexedSfd UnknownSfd) sfd)

-- p2 to p15 of a mode and a length, with p4 zero, and the PHR with its parities
abbrev pub phr_body : RateMode → ℕ → ℕ
phr_body m l = 4 * mode_number m + 32 * l

abbrev pub phr : RateMode → ℕ → ℕ
phr m l = phr_body m l + 2 * one (high_parity (phr_body m l)) + one (low_parity (phr_body m l))

-- its two octets, the least first
abbrev pub phr_octets : RateMode → ℕ → List ℕ
phr_octets m l = phr m l % 256 ∷ phr m l / 256 ∷ []
