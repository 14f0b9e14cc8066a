-- The step of a call, by what its checks and its reading answered.
-- Assumes nothing.
use Rattle.std.proofs.Common.{◌≡◌, ℕ, ltb, leb, List, length, Ok, Err, Result, refl, ap, ◌∙◌, arith}
use Rattle.std.proofs.lemmas.Bool.{cond-false}
use Rattle.faults.specs.declared.Fault.{Fault}
use Rattle.faults.specs.declared.FaultKind.TheVariants.{ShortMemory, FullFrame}
use Rattle.faults.specs.declared.Layer.TheVariants.{Frame}
use Rattle.linecode.specs.Chips.{judged, unless_refused}
use Rattle.linecode.specs.Codes.{Code}
use Rattle.codebits.specs.Message.{blocks, message_length}
use Rattle.frames.specs.Sent.{block_chips}
use Rattle.costs.specs.Kind.{Kind}
use Rattle.costs.specs.declared.Observation.{Observation}
use Rattle.reading.specs.Reading.{last_seen, read_answer}
use Rattle.receiver.specs.Judging.{refused_if, room_judged}
use Rattle.receiver.specs.Receiver.{Open, octets, position, block_by, block_step}
use Rattle.receiver.proofs.Passing.{passed}

-- checks that passed go on to the later ones
room_goes_on : (L n c w : ℕ) (u : Unit {0}) → room_judged L n c w (Ok tt) ≡ Ok u → (later : Result (Unit {0}) Fault) → room_judged L n c w later ≡ later
room_goes_on L n c w u e later =
    let full = refused_if (leb (blocks L) n) FullFrame (blocks L) (Ok tt) in
    let words = refused_if (ltb w (message_length L)) ShortMemory w full in
    let p = passed (ltb c 128) ShortMemory c words u e in
    let q = passed (ltb w (message_length L)) ShortMemory w full u p.1 in
    let r = passed (leb (blocks L) n) FullFrame (blocks L) (Ok tt) u q.1 in
    cond-false (ltb c 128) _ _ p.0 ∙ (cond-false (ltb w (message_length L)) _ _ q.0 ∙ cond-false (leb (blocks L) n) _ _ r.0)

-- what reading answered tells how the chips were judged
read_told : (j : Result (Unit {0}) Fault) (last x : Observation) → unless_refused j last ≡ Ok x → (j ≡ Ok tt) × (x ≡ last)
read_told (Ok u) last x e = (refl, cc)
read_told (Err f) last x e = let z : ◌≡◌ {A = ℕ} 0 1 = cc in absurd (omega arith)

module _ {C : Type 0} (kind : Kind Observation C) (k : Code) (f : Open) (costs : List C) (words chips : List ℕ) (u : Unit {0})
    (room : room_judged (octets f.header) f.accepted (length costs) (length words) (Ok tt) ≡ Ok u)
  where
    pub accepted_step : (x : Observation) → read_answer k (position k f) chips ≡ Ok x → (block_step kind k f costs words chips ≡ block_by kind k f costs words chips (Ok tt)) × (x ≡ last_seen k (position k f) chips)
    accepted_step x e =
        let told = read_told (judged Frame (block_chips k) chips) (last_seen k (position k f) chips) x e in
        (ap (block_by kind k f costs words chips) (room_goes_on (octets f.header) f.accepted (length costs) (length words) u room (judged Frame (block_chips k) chips) ∙ told.0), told.1)
