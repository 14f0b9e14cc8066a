-- What holds of the headers of every band.
-- Assumes nothing.
use Rattle.std.proofs.Common.{◌≡◌, ℕ, ◌+◌, ◌-◌, ◌/◌, ◌%◌, ◌<◌, ◌≤◌, List, [], ◌∷◌, length, get_or, take, drop, replicate, sym, refl, ap, ◌∙◌, lit<, lit≤}
use Rattle.std.proofs.lemmas.List.{length-replicate, get_or-append-add}
use Rattle.linecode.specs.Codes.{Lawful}
use Rattle.tables.specs.CodeLaws.{code_lawful}
use Rattle.tables.specs.declared.code.TableCode.TheVariants.{Dsss16x1k0, Dsss64x1, Dsss128x1}
use Rattle.bands.specs.declared.band.Band.{Band}
use Rattle.bands.specs.declared.band.Band.TheVariants.{Mhz780, Mhz868, Mhz915, Mhz2450}
use Rattle.bands.specs.declared.band.RateMode.{RateMode}
use Rattle.bands.specs.Modes.{header_code}
use Rattle.header.specs.Phr.{dsss_sfd, phr, phr_octets}
use Rattle.header.specs.Headers.{preamble_octets, header_octets}

pub one_bit : (b : Band) → (header_code b).bits ≡ 1
one_bit Mhz780 = refl
one_bit Mhz868 = refl
one_bit Mhz915 = refl
one_bit Mhz2450 = refl

pub some_preamble : (b : Band) → 0 < preamble_octets b
some_preamble Mhz780 = lit< tt
some_preamble Mhz868 = lit< tt
some_preamble Mhz915 = lit< tt
some_preamble Mhz2450 = lit< tt

pub few_preamble : (b : Band) → preamble_octets b ≤ 8
few_preamble Mhz780 = lit≤ tt
few_preamble Mhz868 = lit≤ tt
few_preamble Mhz915 = lit≤ tt
few_preamble Mhz2450 = lit≤ tt

-- the octets as the code lays them out around the PHR's, without the preamble octets that the band lacks
abbrev pub laid : List ℕ → ℕ → List ℕ
laid os p = take (11 - (8 - p)) (drop (8 - p) (0 ∷ 0 ∷ 0 ∷ 0 ∷ 0 ∷ 0 ∷ 0 ∷ 0 ∷ 0xA7 ∷ get_or os 0 0 ∷ get_or os 1 0 ∷ []))

laid_at : (b : Band) (m : RateMode) (l : ℕ) → laid (phr_octets m l) (preamble_octets b) ≡ header_octets b m l
laid_at Mhz780 m l = refl
laid_at Mhz868 m l = refl
laid_at Mhz915 m l = refl
laid_at Mhz2450 m l = refl

pub laid_out : (b : Band) (m : RateMode) (l w p : ℕ) (os : List ℕ) → w ≡ phr m l → os ≡ w % 256 ∷ w / 256 ∷ [] → p ≡ preamble_octets b → laid os p ≡ header_octets b m l
laid_out b m l w p os ew eo ep = ap (λ x. laid x p) (eo ∙ ap (λ (x : ℕ). x % 256 ∷ x / 256 ∷ []) ew) ∙ (ap (laid (phr_octets m l)) ep ∙ laid_at b m l)

-- the octets after the preamble
pub octet_at : (b : Band) (m : RateMode) (l i : ℕ) → get_or (header_octets b m l) (preamble_octets b + i) 0 ≡ get_or (dsss_sfd ∷ phr_octets m l) i 0
octet_at b m l i =
    let front : List ℕ = replicate (preamble_octets b) 0 in
    ap (λ (x : ℕ). get_or (header_octets b m l) (x + i) 0) (sym (length-replicate (preamble_octets b) 0)) ∙ get_or-append-add front (dsss_sfd ∷ phr_octets m l) i 0

pub octets_long : (b : Band) (m : RateMode) (l : ℕ) → length (header_octets b m l) ≡ preamble_octets b + 3
octets_long Mhz780 m l = refl
octets_long Mhz868 m l = refl
octets_long Mhz915 m l = refl
octets_long Mhz2450 m l = refl

pub header_lawful : (b : Band) → Lawful (header_code b)
header_lawful Mhz780 = code_lawful Dsss64x1
header_lawful Mhz868 = code_lawful Dsss16x1k0
header_lawful Mhz915 = code_lawful Dsss64x1
header_lawful Mhz2450 = code_lawful Dsss128x1
