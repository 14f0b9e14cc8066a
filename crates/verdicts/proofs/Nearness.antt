-- What is known of a capture that no check refused.
-- Assumes nothing.
use Rattle.std.proofs.Common.{◌≡◌, ℕ, ◌*◌, ◌≤◌, true, false, ltb, List, Ok, Err, Result, sym, refl, ◌∙◌, subst, ⊎_elim, arith}
use Rattle.std.proofs.lemmas.Bool.{cases_Bool, cond-true, cond-false, ltb-false}
use Rattle.faults.specs.declared.Fault.{Fault}
use Rattle.faults.specs.declared.FaultKind.TheVariants.{BenchLength}
use Rattle.codebits.specs.Message.{blocks}
use Rattle.frames.specs.Sent.{Frame, block_chips}
use Rattle.costs.specs.Kind.{Kind, Laws, most_charges}
use Rattle.costs.specs.Kinds.{count_kind, graded_kind}
use Rattle.costs.specs.declared.Observation.{Observation}
use Rattle.costs.specs.TwoKinds.{count_laws, graded_laws}
use Rattle.header.specs.Headers.{header_length}
use Rattle.header.specs.Reading.{Fields, read_answer}
use Rattle.nearest.specs.Nearest.{NearestPsdu}
use Rattle.nearest.specs.Path.{traced_psdu, traced_psdu_cost}
use Rattle.nearest.proofs.Path.{traces_psdu}
use Rattle.reading.specs.Frames.{frame_seen}
use Rattle.captures.specs.declared.cost.Cost.{Cost}
use Rattle.captures.specs.declared.settings.CostChoice.{CostChoice}
use Rattle.captures.specs.declared.settings.CostChoice.TheVariants.{Count as ByCount, Graded as ByGraded}
use Rattle.captures.specs.declared.settings.Settings.{Settings}
use Rattle.captures.specs.Sections.{bind, refuse, settings_of, section_start, section_of}
use Rattle.captures.specs.Decoding.{chips_for, decided_by}
use Rattle.captures.specs.Costs.{told_count, told_graded, told_by}
use Rattle.captures.specs.Captures.{longest, frame_after, decoded_as, Verdict, psdu_part, frame_part, header_part}
use Rattle.verdicts.specs.Accepted.{NearestBy, Accepted, AcceptedNearest}

-- what was handed on
pub bind_ok : {X Y : Type 0} (r : Result X Fault) (next : X → Result Y Fault) (y : Y) → bind r next ≡ Ok y → (x : X) × (r ≡ Ok x) × (next x ≡ Ok y)
bind_ok (Ok x) next y e = (x, refl, e)
bind_ok (Err f) next y e = let z : ◌≡◌ {A = ℕ} 0 1 = cc in absurd (omega arith)

ok_same : {Y : Type 0} (x y : Y) → ◌≡◌ {A = Result Y Fault} (Ok x) (Ok y) → x ≡ y
ok_same x y e = cc

abbrev verdict_with : Fields → Cost × List ℕ → Verdict
verdict_with f d = record { mode = f.mode; octets = f.length; cost = d.0; psdu = d.1 }

not_long : (choice : CostChoice) (rest : List ℕ) (f : Fields) (v : Verdict) → frame_part choice rest f ≡ Ok v → (f.length ≤ longest) × (psdu_part choice f rest ≡ Ok v)
not_long choice rest f v e =
    ⊎_elim
    (λ (yes : ltb longest f.length ≡ true). let z : ◌≡◌ {A = ℕ} 0 1 = cc (e, cond-true (ltb longest f.length) (refuse BenchLength f.length) (psdu_part choice f rest) yes) in absurd (omega arith))
    (λ (no : ltb longest f.length ≡ false). (ltb-false longest f.length no, sym (cond-false (ltb longest f.length) (refuse BenchLength f.length) (psdu_part choice f rest) no) ∙ e))
    (cases_Bool (ltb longest f.length))

-- what was decoded is the nearest
abbrev Decided : CostChoice → Frame → List ℕ → Cost × List ℕ → Type 0
Decided choice f octets d = (chips : List ℕ) × (chips_for f octets ≡ Ok chips) × NearestBy choice (frame_seen f chips) f.octets d.1 d.0

module _ (f : Frame) (octets : List ℕ) (d : Cost × List ℕ) (short : f.octets ≤ 2047) where
  -- for a kind of cost and what is told of it
  module _ {C : Type 0} (kind : Kind Observation C) (laws : Laws most_charges kind) (tell : C → Cost) (Near : (ℕ → Observation) → ℕ → List ℕ → Cost → Type 0)
      (near : (seen : ℕ → Observation) (L : ℕ) (psdu : List ℕ) (cost : C) → NearestPsdu kind seen L psdu cost → Near seen L psdu (tell cost))
    where
      decided_by_kind : (r : Result (List ℕ) Fault) → chips_for f octets ≡ r → told_by tell (bind r (decided_by kind f)) ≡ Ok d →
          (chips : List ℕ) × (chips_for f octets ≡ Ok chips) × Near (frame_seen f chips) f.octets d.1 d.0
      decided_by_kind (Ok chips) is ok =
          let seen = frame_seen f chips in
          let L = f.octets in
          let got : Cost × List ℕ = (tell (traced_psdu_cost kind seen L), traced_psdu kind seen L) in
          let same : got ≡ d = cc in
          (chips, is, subst (λ (x : Cost × List ℕ). Near seen L x.1 x.0) same (near seen L _ _ (traces_psdu kind laws seen L short)))
      decided_by_kind (Err e) is ok = let z : ◌≡◌ {A = ℕ} 0 1 = cc in absurd (omega arith)

  decided : (choice : CostChoice) → decoded_as choice f octets ≡ Ok d → Decided choice f octets d
  decided ByCount ok = decided_by_kind count_kind count_laws told_count (NearestBy ByCount) (λ seen L psdu cost n. n) (chips_for f octets) refl ok
  decided ByGraded ok = decided_by_kind graded_kind graded_laws told_graded (NearestBy ByGraded) (λ seen L psdu cost n. n) (chips_for f octets) refl ok

-- section by section
module _ (capture : List ℕ) (v : Verdict) (s : Settings) (rest : List ℕ) (section_1 : settings_of capture ≡ Ok (s, rest)) where
  module _ (head more : List ℕ) (section_2 : section_of 2 (header_length s.band) rest ≡ Ok (head, more)) (f : Fields) (header_read : read_answer s.band head ≡ Ok f) where
    by_verdict : (octets : List ℕ) → f.length ≤ longest → section_start 3 (blocks f.length * block_chips (frame_after f).code) more ≡ Ok octets →
        (d : Cost × List ℕ) → decoded_as s.cost (frame_after f) octets ≡ Ok d → (w : Verdict) → w ≡ v → verdict_with f d ≡ w → Accepted capture v
    by_verdict octets short section_3 d ok w same is =
        let near = decided (frame_after f) octets d (omega arith) s.cost ok in
        subst (λ (x : Verdict). Accepted capture x) (is ∙ same) (record {
          settings = s;
          after_settings = rest;
          section_1 = section_1;
          chips_of_header = head;
          after_header = more;
          section_2 = section_2;
          header = f;
          header_read = header_read;
          short = short;
          octets = octets;
          section_3 = section_3;
          chips = near.0;
          chips_read = near.1;
          mode_told = refl;
          length_told = refl;
          nearest = near.2;
        })

    by_octets : (octets : List ℕ) → f.length ≤ longest → section_start 3 (blocks f.length * block_chips (frame_after f).code) more ≡ Ok octets →
        bind (decoded_as s.cost (frame_after f) octets) (λ d. Ok (verdict_with f d)) ≡ Ok v → Accepted capture v
    by_octets octets short section_3 e =
        let told = bind_ok (decoded_as s.cost (frame_after f) octets) (λ d. Ok (verdict_with f d)) v e in
        by_verdict octets short section_3 told.0 told.1 v refl (ok_same (verdict_with f told.0) v told.2)

    by_fields : frame_part s.cost more f ≡ Ok v → Accepted capture v
    by_fields e =
        let fits = not_long s.cost more f v e in
        let three = bind_ok (section_start 3 (blocks f.length * block_chips (frame_after f).code) more) (λ octets. bind (decoded_as s.cost (frame_after f) octets) (λ d. Ok (verdict_with f d))) v fits.1 in
        by_octets three.0 fits.0 three.1 three.2

  by_header : (head more : List ℕ) → section_of 2 (header_length s.band) rest ≡ Ok (head, more) → bind (read_answer s.band head) (frame_part s.cost more) ≡ Ok v → Accepted capture v
  by_header head more section_2 e =
      let read = bind_ok (read_answer s.band head) (frame_part s.cost more) v e in
      by_fields head more section_2 read.0 read.1 read.2

  by_settings : header_part s rest ≡ Ok v → Accepted capture v
  by_settings e =
      let two = bind_ok (section_of 2 (header_length s.band) rest) (λ t. bind (read_answer s.band t.0) (frame_part s.cost t.1)) v e in
      by_header two.0.0 two.0.1 two.1 two.2

pub accepted_nearest : AcceptedNearest
accepted_nearest capture v e =
    let one = bind_ok (settings_of capture) (λ s. header_part s.0 s.1) v e in
    by_settings capture v one.0.0 one.0.1 one.1 one.2
