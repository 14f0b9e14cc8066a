-- No call changes how many costs and words there are.
-- Assumes nothing.
use Rattle.std.proofs.Common.{◌≡◌, ℕ, List, length, Ok, Err, Result, refl, ◌∙◌, arith}
use Rattle.faults.specs.declared.Fault.{Fault}
use Rattle.linecode.specs.Codes.{Code}
use Rattle.costs.specs.Kind.{Kind}
use Rattle.costs.specs.declared.Observation.{Observation}
use Rattle.trellis.proofs.Frames.{costs_length, words_length}
use Rattle.receiver.specs.Judging.{block_judged}
use Rattle.receiver.specs.Receiver.{Open, octets, shown, block_by}
use Rattle.receiver.specs.Runs.{Phase, Calls, start, begin, block, close, abandon, after}
use Rattle.receiver.proofs.Passing.{acceptable}

module _ {C : Type 0} (kind : Kind Observation C) where
  module _ (k : Code) (f : Open) (costs : List C) (words : List ℕ) (chips : List ℕ) where
    costs_by : (j : Result (Unit {0}) Fault) → block_judged k (octets f.header) f.accepted (length costs) (length words) chips ≡ j → length (block_by kind k f costs words chips j).costs ≡ length costs
    costs_by (Ok u) e = costs_length kind (shown k f chips) (octets f.header) f.accepted costs (acceptable k (octets f.header) f.accepted (length costs) (length words) chips u e).costs
    costs_by (Err x) e = refl

    words_by : (j : Result (Unit {0}) Fault) → block_judged k (octets f.header) f.accepted (length costs) (length words) chips ≡ j → length (block_by kind k f costs words chips j).words ≡ length words
    words_by (Ok u) e =
        let ok = acceptable k (octets f.header) f.accepted (length costs) (length words) chips u e in
        words_length kind (shown k f chips) (octets f.header) f.accepted costs words (omega (arith, ok.words, ok.lacking))
    words_by (Err x) e = refl

  module _ (costs : List C) (words : List ℕ) where
    pub costs_stay : {p : Phase} (cs : Calls p) → length (after kind costs words cs).costs ≡ length costs
    costs_stay start = refl
    costs_stay (begin cs h k) = costs_stay cs
    costs_stay (block {k} cs chips) = let s = after kind costs words cs in costs_by k s.receiver s.costs s.words chips _ refl ∙ costs_stay cs
    costs_stay (close cs room) = costs_stay cs
    costs_stay (abandon cs) = costs_stay cs

    pub words_stay : {p : Phase} (cs : Calls p) → length (after kind costs words cs).words ≡ length words
    words_stay start = refl
    words_stay (begin cs h k) = words_stay cs
    words_stay (block {k} cs chips) = let s = after kind costs words cs in words_by k s.receiver s.costs s.words chips _ refl ∙ words_stay cs
    words_stay (close cs room) = words_stay cs
    words_stay (abandon cs) = words_stay cs
