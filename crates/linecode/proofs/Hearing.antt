-- A group with few damaged chips still gives its value: what is heard of chips that were judged good.
-- Assumes nothing.
use Rattle.std.proofs.Common.{◌≡◌, ℕ, ◌-◌, ◌*◌, ◌^◌, ◌<◌, ◌≤◌, Bool, false, List, length, Ok, Result, sym, ◌∙◌, subst, ⊎_elim, arith}
use Rattle.std.proofs.lemmas.Bool.{cases_eq, false≢true}
use Rattle.faults.specs.declared.Fault.{Fault}
use Rattle.faults.specs.declared.Layer.TheVariants.{Line}
use Rattle.linecode.specs.Codes.{Code, Lawful, Width, distance, nearest, value_of, despread_answer, least_distance}
use Rattle.linecode.specs.Promises.{Nearest, HeardUnlessRefused, LeastDistance}
use Rattle.linecode.specs.Judging.{judged_good, every_leading}
use Rattle.linecode.proofs.Answers.{despread_ok, despread_was}
use Rattle.linecode.proofs.Least.{is_least}
use Rattle.linecode.proofs.Metric.{distance_self, distance_sym, distance_triangle, same_at_zero}
use Rattle.linecode.proofs.Nearness.{nearest_is, nearest_unique}

-- there are 2, 4, 16 or 256 values
pub values : (g : ℕ) → Width g → (0 < 2 ^ g) × (2 ^ g ≤ 256)
values g w =
    let P : ℕ → Type 0 = λ x. (0 < 2 ^ x) × (2 ^ x ≤ 256) in
    ⊎_elim (λ e. subst P (sym e) (omega arith, omega arith))
    (⊎_elim (λ e. subst P (sym e) (omega arith, omega arith))
    (⊎_elim (λ e. subst P (sym e) (omega arith, omega arith)) (λ e. subst P (sym e) (omega arith, omega arith)))) w

module _ (k : Code) (l : Lawful k) (p v : ℕ) (hp : p < 2 ^ 32) (hv : v < 2 ^ k.bits) where
  -- fewer than half of m chips are damaged, and every other word is m chips away
  pub value_near : (xs : List ℕ) → length xs ≡ k.chips → (m : ℕ) → ((u : ℕ) → u < 2 ^ k.bits → (u ≡ v → ⊥) → m ≤ distance (k.word p v) (k.word p u)) → 2 * distance (k.word p v) xs < m → value_of k p xs ≡ (v, false)
  value_near xs e m far few =
      let d : ℕ → ℕ = λ u. distance (k.word p u) xs in
      let top = 2 ^ k.bits - 1 in
      let some = values k.bits l.width in
      let wv = l.sized p v hp hv in
      let beats : (u : ℕ) → u ≤ top → (u ≡ v → ⊥) → d v < d u = λ u le other.
      let lt : u < 2 ^ k.bits = omega arith in
      let wu = l.sized p u hp lt in
      let tri = distance_triangle (k.word p v) xs (k.word p u) (wv ∙ sym e) (e ∙ sym wu) in
      let back = distance_sym xs (k.word p u) (e ∙ sym wu) in
      let away = far u lt other in
      omega arith in
      nearest_unique d top (nearest d top) (v, false) (nearest_is d top)
      (record {
        within = omega arith;
        least = λ u le. ⊎_elim (λ same. subst (λ (x : ℕ). d v ≤ d x) (sym same) (omega arith)) (λ other. omega (arith, beats u le other)) (cases_eq u v);
        lowest = λ u below. beats u (omega arith) (λ same. omega arith);
        sure = λ _ u le other. beats u le other;
        tied = λ t. absurd (false≢true t);
      })

  -- two words differ in one chip at least
  pub apart_one : (u : ℕ) → u < 2 ^ k.bits → (u ≡ v → ⊥) → 1 ≤ distance (k.word p v) (k.word p u)
  apart_one u hu other =
      ⊎_elim
      (λ z. absurd (other (sym (l.apart p v u hp hv hu (same_at_zero (k.word p v) (k.word p u) (l.sized p v hp hv ∙ sym (l.sized p u hp hu)) z)))))
      (λ n. omega arith)
      (cases_eq (distance (k.word p v) (k.word p u)) 0)

  pub value_clean : value_of k p (k.word p v) ≡ (v, false)
  value_clean = let z = distance_self (k.word p v) in value_near (k.word p v) (l.sized p v hp hv) 1 apart_one (omega arith)

  pub despread_clean : despread_answer k p (k.word p v) ≡ Ok (v, false)
  despread_clean =
      let w = k.word p v in
      let long = l.sized p v hp hv in
      let good = judged_good Line k.chips w long (every_leading w (λ i h. l.binary p v i hp hv (omega arith)) ∙ long) in
      sym (despread_ok k p w tt (v, false) good (sym value_clean))

-- what is heard of chips that were not refused
pub heard : (k : Code) → Lawful k → (p : ℕ) → p < 2 ^ 32 → (xs : List ℕ) (answer : Result (ℕ × Bool) Fault) → answer ≡ despread_answer k p xs → HeardUnlessRefused k p xs answer
heard k l p hp xs answer is r ok =
    let was = despread_was k p xs r (sym is ∙ ok) in
    let d : ℕ → ℕ = λ v. distance (k.word p v) xs in
    record {
      nearest = subst (λ (a : ℕ × Bool). Nearest d (2 ^ k.bits - 1) a) (sym was.value) (nearest_is d (2 ^ k.bits - 1));
      unwrecked = λ v hv few.
          was.value
          ∙ value_near k l p v hp hv xs was.sized (least_distance k p) (λ u hu other. (is_least k l p hp).none_nearer v u hv hu (λ e. other (sym e))) few;
    }

pub least_distance_lem : LeastDistance
least_distance_lem k l p hp = is_least k l p hp
