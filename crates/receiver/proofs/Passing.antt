-- What is known of a call that no check refused.
-- Assumes nothing.
use Rattle.std.proofs.Common.{◌≡◌, ℕ, ◌<◌, ◌≤◌, Bool, true, false, List, Ok, Result, refl, arith}
use Rattle.std.proofs.lemmas.Bool.{ltb-false, leb-false}
use Rattle.faults.specs.declared.Fault.{Fault}
use Rattle.faults.specs.declared.FaultKind.{FaultKind}
use Rattle.faults.specs.declared.Layer.TheVariants.{Frame}
use Rattle.linecode.specs.Chips.{judged}
use Rattle.linecode.specs.Codes.{Code}
use Rattle.codebits.specs.Message.{blocks, message_length}
use Rattle.frames.specs.Sent.{block_chips}
use Rattle.receiver.specs.Judging.{refused_if, memory_judged, block_judged, close_judged}

-- a check that does not refuse
pub passed : (t : Bool) (kind : FaultKind) (place : ℕ) (later : Result (Unit {0}) Fault) (u : Unit {0}) → refused_if t kind place later ≡ Ok u → (t ≡ false) × (later ≡ Ok u)
passed true kind place later u e = let z : ◌≡◌ {A = ℕ} 0 1 = cc in absurd (omega arith)
passed false kind place later u e = (refl, e)

-- enough costs and words
pub record Enough (L c w : ℕ) (later : Result (Unit {0}) Fault) (u : Unit {0}) : Type 0 where
  pub costs : 128 ≤ c
  pub words : message_length L ≤ w
  pub goes_on : later ≡ Ok u

pub enough : (L costs words : ℕ) (later : Result (Unit {0}) Fault) (u : Unit {0}) → memory_judged L costs words later ≡ Ok u → Enough L costs words later u
enough L costs words later u e =
    let p = passed _ _ _ _ u e in
    let q = passed _ _ _ _ u p.1 in
    record { costs = ltb-false costs 128 p.0; words = ltb-false words (message_length L) q.0; goes_on = q.1 }

-- a block that is accepted
pub record Acceptable (k : Code) (L accepted c w : ℕ) (chips : List ℕ) : Type 0 where
  pub costs : 128 ≤ c
  pub words : message_length L ≤ w
  pub lacking : accepted < blocks L
  pub good : judged Frame (block_chips k) chips ≡ Ok tt

pub acceptable : (k : Code) (L accepted costs words : ℕ) (chips : List ℕ) (u : Unit {0}) → block_judged k L accepted costs words chips ≡ Ok u → Acceptable k L accepted costs words chips
acceptable k L accepted costs words chips u e =
    let m = enough L costs words _ u e in
    let p = passed _ _ _ _ u m.goes_on in
    record { costs = m.costs; words = m.words; lacking = leb-false (blocks L) accepted p.0; good = p.1 }

-- a close that is accepted
pub record Closable (L accepted c w room : ℕ) : Type 0 where
  pub costs : 128 ≤ c
  pub words : message_length L ≤ w
  pub full : blocks L ≤ accepted
  pub fits : L ≤ room

pub closable : (L accepted costs words room : ℕ) (u : Unit {0}) → close_judged L accepted costs words room ≡ Ok u → Closable L accepted costs words room
closable L accepted costs words room u e =
    let m = enough L costs words _ u e in
    let p = passed _ _ _ _ u m.goes_on in
    let q = passed _ _ _ _ u p.1 in
    record { costs = m.costs; words = m.words; full = ltb-false accepted (blocks L) p.0; fits = ltb-false room L q.0 }
