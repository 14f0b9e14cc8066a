-- The two kinds of cost: the count of the differences, and the graded cost.
-- Assumes nothing.
use Rattle.std.specs.Prelude.{ℕ, ◌+◌, ◌-◌, ◌^◌, min, Bool, not, ◌&&◌, ◌||◌, ◌==◌, nat_le, nat_lt}
use Rattle.codebits.specs.Bits.{◌⊕◌, one}
use Rattle.costs.specs.Kind.{Kind}
use Rattle.costs.specs.Observed.{bit_of, doubt_of}
use Rattle.costs.specs.declared.Observation.{Observation}
use Rattle.costs.specs.declared.Count.{Count}
use Rattle.costs.specs.declared.Graded.{Graded}

-- one more where a test holds; a number at 2^32 - 1 stays there
abbrev pub grown : ℕ → Bool → ℕ
grown n t = min (n + one t) (2 ^ 32 - 1)

-- whether an observed bit differs from the claimed one, at a sure bit, and at a doubtful one
abbrev pub differs : Observation → Bool → Bool
differs o claimed = bit_of o ⊕ claimed

abbrev pub surely_differs : Observation → Bool → Bool
surely_differs o claimed = not (doubt_of o) && differs o claimed

abbrev pub doubtfully_differs : Observation → Bool → Bool
doubtfully_differs o claimed = doubt_of o && differs o claimed

abbrev pub count_kind : Kind Observation Count
count_kind = record {
  nothing = record { differing = 0 };
  charge = λ c o claimed. record { differing = grown c.differing (differs o claimed) };
  at_most = λ a b. nat_le a.differing b.differing;
}

-- sure differences are compared first
abbrev pub graded_kind : Kind Observation Graded
graded_kind = record {
  nothing = record { sure = 0; doubtful = 0 };
  charge = λ c o claimed. record { sure = grown c.sure (surely_differs o claimed); doubtful = grown c.doubtful (doubtfully_differs o claimed) };
  at_most = λ a b. nat_lt a.sure b.sure || (a.sure == b.sure && nat_le a.doubtful b.doubtful);
}
