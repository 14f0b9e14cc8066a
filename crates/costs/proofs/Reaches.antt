-- A cost that few charges reach, more charges reach too.
-- Assumes nothing.
use Rattle.std.proofs.Common.{ℕ, zero, suc, ◌≤◌, arith}
use Rattle.costs.specs.Kind.{Kind, Reached}
use Rattle.costs.specs.Kind.Reached.{at_nothing, by_charge}

pub reached_more : {O C : Type 0} {kind : Kind O C} {m : ℕ} {c : C} (n : ℕ) → m ≤ n → Reached kind m c → Reached kind n c
reached_more n h at_nothing = at_nothing
reached_more zero h (by_charge o x r) = absurd (omega arith)
reached_more (suc n) h (by_charge o x r) = by_charge o x (reached_more n (omega arith) r)
