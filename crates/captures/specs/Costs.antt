-- Each kind of cost, as a line tells it.
-- Assumes nothing.
use Rattle.std.specs.Prelude.{List, ℕ, Ok, Err, Result}
use Rattle.faults.specs.declared.Fault.{Fault}
use Rattle.costs.specs.declared.Count.{Count}
use Rattle.costs.specs.declared.Graded.{Graded}
use Rattle.captures.specs.declared.cost.Cost.{Cost}
use Rattle.captures.specs.declared.cost.Cost.TheVariants.{Count as CountOf, Graded as GradedOf}

abbrev pub told_count : Count → Cost
told_count c = CountOf c.differing

abbrev pub told_graded : Graded → Cost
told_graded c = GradedOf c.sure c.doubtful

-- the same of what is decoded
abbrev pub told_by : {C : Type 0} → (C → Cost) → Result (C × List ℕ) Fault → Result (Cost × List ℕ) Fault
told_by of (Ok p) = Ok (of p.0, p.1)
told_by of (Err e) = Err e
