-- What is sent for a header: a preamble of zeros, the SFD and the PHR, coded differentially from 0 on and spread bit by bit.
-- Assumes nothing.
use Rattle.std.specs.Prelude.{ℕ, ◌+◌, ◌*◌, Bool, true, false, List, ◌∷◌, ◌++◌, length, replicate}
use Rattle.codebits.specs.Bits.{previous}
use Rattle.codebits.specs.Message.{message_bit}
use Rattle.codebits.specs.Differential.{sent_bit}
use Rattle.frames.specs.Sent.{spread_groups}
use Rattle.linecode.specs.Codes.{Code}
use Rattle.bands.specs.declared.band.Band.{Band}
use Rattle.bands.specs.declared.band.Band.TheVariants.{Mhz780, Mhz868, Mhz915, Mhz2450}
use Rattle.bands.specs.declared.band.RateMode.{RateMode}
use Rattle.bands.specs.Modes.{header_code}
use Rattle.header.specs.Phr.{dsss_sfd, phr_octets}

abbrev pub preamble_octets : Band → ℕ
preamble_octets Mhz780 = 8
preamble_octets Mhz868 = 4
preamble_octets Mhz915 = 8
preamble_octets Mhz2450 = 8

-- the bits of a header, which are its groups, and its chips
abbrev pub header_bits : Band → ℕ
header_bits b = 8 * (preamble_octets b + 3)

abbrev pub header_length : Band → ℕ
header_length b = header_bits b * (header_code b).chips

-- the octets of a header
abbrev pub header_octets : Band → RateMode → ℕ → List ℕ
header_octets b m l = replicate (preamble_octets b) 0 ++ (dsss_sfd ∷ phr_octets m l)

-- octets' bits as they are sent, each octet from its least bit on: coded differentially from 0
unfoldable pub octet_stream : List ℕ → ℕ → Bool
octet_stream os = sent_bit true false (message_bit os)

-- the chips of octets by a line code with one bit to a group, and the last encoded bit
unfoldable pub octet_chips : Code → List ℕ → List ℕ
octet_chips k os = spread_groups k (octet_stream os) 0 (8 * length os)

unfoldable pub last_encoded : List ℕ → Bool
last_encoded os = previous false (octet_stream os) (8 * length os)

abbrev pub header_chips : Band → RateMode → ℕ → List ℕ
header_chips b m l = octet_chips (header_code b) (header_octets b m l)

abbrev pub header_last : Band → RateMode → ℕ → Bool
header_last b m l = last_encoded (header_octets b m l)
