-- The PSDU of every accepted capture is the nearest to what its chips show.
-- Assumes nothing.
use Rattle.std.specs.Prelude.{◌≡◌, ℕ, ◌*◌, ◌≤◌, List, Ok}
use Rattle.codebits.specs.Message.{blocks}
use Rattle.frames.specs.Sent.{block_chips}
use Rattle.costs.specs.Kinds.{count_kind, graded_kind}
use Rattle.costs.specs.declared.Observation.{Observation}
use Rattle.header.specs.Headers.{header_length}
use Rattle.header.specs.Reading.{Fields, read_answer}
use Rattle.nearest.specs.Nearest.{NearestPsdu}
use Rattle.reading.specs.Frames.{frame_seen}
use Rattle.captures.specs.declared.cost.Cost.{Cost}
use Rattle.captures.specs.declared.cost.Cost.TheVariants.{Count as CountOf, Graded as GradedOf}
use Rattle.captures.specs.declared.settings.CostChoice.{CostChoice}
use Rattle.captures.specs.declared.settings.CostChoice.TheVariants.{Count as ByCount, Graded as ByGraded}
use Rattle.captures.specs.declared.settings.Settings.{Settings}
use Rattle.captures.specs.Sections.{settings_of, section_start, section_of}
use Rattle.captures.specs.Decoding.{chips_for}
use Rattle.captures.specs.Captures.{longest, frame_after, Verdict, verdict_of}

-- nearest by the cost that the settings name, which is the one told
abbrev pub NearestBy : CostChoice → (ℕ → Observation) → ℕ → List ℕ → Cost → Type 0
NearestBy ByCount seen L psdu (CountOf n) = NearestPsdu count_kind seen L psdu (record { differing = n })
NearestBy ByCount seen L psdu (GradedOf s d) = ⊥
NearestBy ByGraded seen L psdu (CountOf n) = ⊥
NearestBy ByGraded seen L psdu (GradedOf s d) = NearestPsdu graded_kind seen L psdu (record { sure = s; doubtful = d })

-- What an accepted capture holds, section by section, and what is told of it.
pub record Accepted (capture : List ℕ) (v : Verdict) : Type 0 where
  pub settings : Settings
  pub after_settings : List ℕ
  pub section_1 : settings_of capture ≡ Ok (settings, after_settings)
  pub chips_of_header : List ℕ
  pub after_header : List ℕ
  pub section_2 : section_of 2 (header_length settings.band) after_settings ≡ Ok (chips_of_header, after_header)
  pub header : Fields
  pub header_read : read_answer settings.band chips_of_header ≡ Ok header
  pub short : header.length ≤ longest
  pub octets : List ℕ
  pub section_3 : section_start 3 (blocks header.length * block_chips (frame_after header).code) after_header ≡ Ok octets
  pub chips : List ℕ
  pub chips_read : chips_for (frame_after header) octets ≡ Ok chips
  -- mode and length are the header's
  pub mode_told : v.mode ≡ header.mode
  pub length_told : v.octets ≡ header.length
  -- no PSDU of that length is cheaper than the one told, and another one as cheap has 1 at the latest bit where the two differ
  pub nearest : NearestBy settings.cost (frame_seen (frame_after header) chips) header.length v.psdu v.cost

abbrev pub AcceptedNearest : Type 0
AcceptedNearest = (capture : List ℕ) (v : Verdict) → verdict_of capture ≡ Ok v → Accepted capture v
