-- The count and the graded cost keep the laws: few charges never bring a number to where it stays.
-- Assumes nothing.
use Rattle.std.specs.Prelude.{◌≡◌, ℕ, suc, ◌+◌, ◌≤◌, Bool, ◌==◌, nat_le, nat_lt}
use Rattle.std.proofs.Common.{ap, ◌∙◌, arith}
use Rattle.std.proofs.lemmas.Bool.Decides.{nat_tests}
use Rattle.codebits.specs.Bits.{one}
use Rattle.costs.specs.Kind.{Reached, Laws, most_charges}
use Rattle.costs.specs.Kind.Reached.{at_nothing, by_charge}
use Rattle.costs.specs.Kinds.{grown, differs, surely_differs, doubtfully_differs, count_kind, graded_kind}
use Rattle.costs.specs.declared.Count.{Count}
use Rattle.costs.specs.declared.Graded.{Graded}
use Rattle.codebits.proofs.Numbers.{one_small}

grown_more : (a n : ℕ) (t : Bool) → a ≤ n → grown a t ≤ suc n
grown_more a n t h = omega (arith, one_small t)

leb_add : (a b c : ℕ) → nat_le (a + c) (b + c) ≡ nat_le a b
leb_add a b c = grind (arith, nat_tests)

ltb_add : (a b c : ℕ) → nat_lt (a + c) (b + c) ≡ nat_lt a b
ltb_add a b c = grind (arith, nat_tests)

eqb_add : (a b c : ℕ) → (a + c == b + c) ≡ (a == b)
eqb_add a b c = grind (arith, nat_tests)

counted : ℕ → Count
counted n = record { differing = n }

count_reached : {n : ℕ} {c : Count} → Reached count_kind n c → c.differing ≤ n
count_reached at_nothing = omega arith
count_reached (by_charge {n} {c} o x r) = grown_more c.differing n (differs o x) (count_reached r)

pub count_laws : Laws most_charges count_kind
unfolding counted
count_laws = record {
  total = λ a b _ _. grind (arith, nat_tests);
  antisymmetric = λ a b _ _ p q. let e : a.differing ≡ b.differing = grind (arith, nat_tests) in ap counted e;
  transitive = λ a b c _ _ _ p q. grind (arith, nat_tests);
  same_charge = λ m few a b o x ra rb.
      let grows : (n : ℕ) → n ≤ m → grown n (differs o x) ≡ n + one (differs o x) = λ n h. omega (arith, one_small (differs o x)) in
      rw (grows a.differing (count_reached ra), grows b.differing (count_reached rb))
      (leb_add a.differing b.differing (one (differs o x)));
}

graded : ℕ → ℕ → Graded
graded s d = record { sure = s; doubtful = d }

graded_reached : {n : ℕ} {c : Graded} → Reached graded_kind n c → (c.sure ≤ n) × (c.doubtful ≤ n)
graded_reached at_nothing = (omega arith, omega arith)
graded_reached (by_charge {n} {c} o x r) =
    (grown_more c.sure n (surely_differs o x) (graded_reached r).0, grown_more c.doubtful n (doubtfully_differs o x) (graded_reached r).1)

pub graded_laws : Laws most_charges graded_kind
unfolding graded
graded_laws = record {
  total = λ a b _ _. grind (arith, nat_tests);
  antisymmetric = λ a b _ _ p q.
      let e : a.sure ≡ b.sure = grind (arith, nat_tests) in
      let f : a.doubtful ≡ b.doubtful = grind (arith, nat_tests) in
      ap (λ n. graded n a.doubtful) e ∙ ap (graded b.sure) f;
  transitive = λ a b c _ _ _ p q. grind (arith, nat_tests);
  same_charge = λ m few a b o x ra rb.
      let grows : (n : ℕ) (t : Bool) → n ≤ m → grown n t ≡ n + one t = λ n t h. omega (arith, one_small t) in
      rw (
        grows a.sure (surely_differs o x) (graded_reached ra).0,
        grows b.sure (surely_differs o x) (graded_reached rb).0,
        grows a.doubtful (doubtfully_differs o x) (graded_reached ra).1,
        grows b.doubtful (doubtfully_differs o x) (graded_reached rb).1,
        ltb_add a.sure b.sure (one (surely_differs o x)),
        eqb_add a.sure b.sure (one (surely_differs o x)),
        leb_add a.doubtful b.doubtful (one (doubtfully_differs o x)),
      );
}
