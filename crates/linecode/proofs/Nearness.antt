-- The nearest value: the fold has the property, the property fixes the value, and equal distances give equal values.
-- Assumes nothing.
use Rattle.std.proofs.Common.{◌≡◌, ℕ, zero, suc, ◌<◌, ◌≤◌, Bool, true, false, cond, eqb, ltb, sym, refl, ap, ◌∙◌, subst, ⊎_elim, arith}
use Rattle.std.proofs.lemmas.Bool.{eq-eqb, ne_eqb, lt-ltb, le-ltb, eqb-true, eqb-false, ltb-true, ltb-false, cases_Bool, cond-true, cond-false, cases_lt, cases_order, true≢false, false≢true}
use Rattle.linecode.specs.Codes.{nearer, nearest}
use Rattle.linecode.specs.Promises.{Nearest}

pub nearest_none : (d : ℕ → ℕ) → nearest d 0 ≡ (0, false)
unfolding nearest
nearest_none d = refl

pub nearest_more : (d : ℕ → ℕ) (k : ℕ) → nearest d (suc k) ≡ nearer d (suc k) (nearest d k)
unfolding nearest
nearest_more d k = refl

module _ (d : ℕ → ℕ) (k : ℕ) (b : ℕ × Bool) (h : Nearest d k b) where
  -- one value more: it is nearer, as near, or not as near
  takes : d (suc k) < d b.0 → Nearest d (suc k) (suc k, false)
  takes lt = record {
    within = omega arith;
    least = λ u le. ⊎_elim (λ below. omega (arith, h.least u (omega arith))) (λ top. let e : u ≡ suc k = omega arith in subst (λ (x : ℕ). d (suc k) ≤ d x) (sym e) (omega arith)) (cases_lt u (suc k));
    lowest = λ u below. omega (arith, h.least u (omega arith));
    sure = λ _ u le other. omega (arith, h.least u (omega arith));
    tied = λ e. absurd (false≢true e);
  }

  ties : d (suc k) ≡ d b.0 → Nearest d (suc k) (b.0, true)
  ties same = record {
    within = omega (arith, h.within);
    least = λ u le. ⊎_elim (λ below. h.least u (omega arith)) (λ top. let e : u ≡ suc k = omega arith in subst (λ (x : ℕ). d b.0 ≤ d x) (sym e) (omega arith)) (cases_lt u (suc k));
    lowest = h.lowest;
    sure = λ e. absurd (true≢false e);
    tied = λ _. (suc k, omega arith, (λ e. omega (arith, h.within)), same);
  }

  keeps : d b.0 < d (suc k) → Nearest d (suc k) b
  keeps gt = record {
    within = omega (arith, h.within);
    least = λ u le. ⊎_elim (λ below. h.least u (omega arith)) (λ top. let e : u ≡ suc k = omega arith in subst (λ (x : ℕ). d b.0 ≤ d x) (sym e) (omega arith)) (cases_lt u (suc k));
    lowest = h.lowest;
    sure = λ e u le other. ⊎_elim (λ below. h.sure e u (omega arith) other) (λ top. let s : u ≡ suc k = omega arith in subst (λ (x : ℕ). d b.0 < d x) (sym s) gt) (cases_lt u (suc k));
    tied = λ e. let t = h.tied e in (t.0, omega (arith, t.1), t.2, t.3);
  }

  step : Nearest d (suc k) (nearer d (suc k) b)
  step =
      ⊎_elim
      (λ lt. subst (λ (r : ℕ × Bool). Nearest d (suc k) r) (sym (cond-true (ltb (d (suc k)) (d b.0)) _ _ lt)) (takes (ltb-true _ _ lt)))
      (λ ge.
      ⊎_elim
      (λ eq. subst (λ (r : ℕ × Bool). Nearest d (suc k) r) (sym (cond-false (ltb (d (suc k)) (d b.0)) _ _ ge ∙ cond-true (eqb (d (suc k)) (d b.0)) _ _ eq)) (ties (eqb-true _ _ eq)))
      (λ ne. subst (λ (r : ℕ × Bool). Nearest d (suc k) r) (sym (cond-false (ltb (d (suc k)) (d b.0)) _ _ ge ∙ cond-false (eqb (d (suc k)) (d b.0)) _ _ ne))
      (keeps (let le = ltb-false (d (suc k)) (d b.0) ge in let apart = eqb-false (d (suc k)) (d b.0) ne in ⊎_elim (λ e. absurd (apart e)) (⊎_elim (λ l. omega arith) (λ l. l)) (cases_order (d (suc k)) (d b.0)))))
      (cases_Bool (eqb (d (suc k)) (d b.0))))
      (cases_Bool (ltb (d (suc k)) (d b.0)))

-- the fold has the property
pub nearest_is : (d : ℕ → ℕ) (k : ℕ) → Nearest d k (nearest d k)
nearest_is d zero =
    subst (λ (r : ℕ × Bool). Nearest d 0 r) (sym (nearest_none d))
    (record {
      within = omega arith;
      least = λ u le. let e : u ≡ 0 = omega arith in subst (λ (x : ℕ). d 0 ≤ d x) (sym e) (omega arith);
      lowest = λ u below. absurd (omega arith);
      sure = λ _ u le other. absurd (other (omega arith));
      tied = λ e. absurd (false≢true e);
    })
nearest_is d (suc k) = subst (λ (r : ℕ × Bool). Nearest d (suc k) r) (sym (nearest_more d k)) (step d k (nearest d k) (nearest_is d k))

-- the property fixes the value and the flag
module _ (d : ℕ → ℕ) (k : ℕ) (r s : ℕ × Bool) (p : Nearest d k r) (q : Nearest d k s) where
  same_value : r.0 ≡ s.0
  same_value =
      ⊎_elim (λ e. e)
      (⊎_elim (λ lt. omega (arith, q.lowest r.0 lt, p.least s.0 q.within)) (λ gt. omega (arith, p.lowest s.0 gt, q.least r.0 p.within)))
      (cases_order r.0 s.0)

  no_tie : (a : ℕ × Bool) (b : ℕ × Bool) → Nearest d k a → Nearest d k b → a.0 ≡ b.0 → a.1 ≡ false → b.1 ≡ true → ⊥
  no_tie a b x y e f t =
      let u = y.tied t in
      let lt = x.sure f u.0 u.1 (λ g. u.2 (g ∙ e)) in
      let at = ap d e in
      omega (arith, lt, u.3, at)

  same_flag : r.1 ≡ s.1
  same_flag =
      ⊎_elim
      (λ rt. ⊎_elim (λ st. rt ∙ sym st) (λ sf. absurd (no_tie s r q p (sym same_value) sf rt)) (cases_Bool s.1))
      (λ rf. ⊎_elim (λ st. absurd (no_tie r s p q same_value rf st)) (λ sf. rf ∙ sym sf) (cases_Bool s.1))
      (cases_Bool r.1)

  pub nearest_unique : r ≡ s
  nearest_unique = ap (λ v. (v, r.1)) same_value ∙ ap (λ t. (s.0, t)) same_flag

-- distances that agree give the same value
pub nearest_same : (d e : ℕ → ℕ) (k : ℕ) → ((u : ℕ) → u ≤ k → d u ≡ e u) → nearest d k ≡ nearest e k
nearest_same d e zero h = nearest_none d ∙ sym (nearest_none e)
nearest_same d e (suc k) h =
    let below = nearest_same d e k (λ u le. h u (omega arith)) in
    let top = h (suc k) (omega arith) in
    let b = nearest e k in
    let at = h b.0 (omega (arith, (nearest_is e k).within)) in
    nearest_more d k ∙ ap (nearer d (suc k)) below
    ∙ ap (λ x. cond (ltb x (d b.0)) (suc k, false) (cond (eqb x (d b.0)) (b.0, true) b)) top
    ∙ ap (λ y. cond (ltb (e (suc k)) y) (suc k, false) (cond (eqb (e (suc k)) y) (b.0, true) b)) at
    ∙ sym (nearest_more e k)

-- one value more, v, as a loop meets it: the best so far is over the values below v
module _ (d : ℕ → ℕ) (k v n : ℕ) (b : ℕ × Bool) (v_is : v ≡ suc k) (n_is : n ≡ suc k) (best : b ≡ nearest d k) where
  more : nearest d n ≡ nearer d v b
  more = ap (nearest d) n_is ∙ nearest_more d k ∙ ap (nearer d (suc k)) (sym best) ∙ ap (λ x. nearer d x b) (sym v_is)

  pub nearest_takes : d v < d b.0 → (v, false) ≡ nearest d n
  nearest_takes lt = sym (more ∙ cond-true (ltb (d v) (d b.0)) _ _ (lt-ltb (d v) (d b.0) lt))

  pub nearest_ties : d v ≡ d b.0 → (b.0, true) ≡ nearest d n
  nearest_ties e = sym (more ∙ cond-false (ltb (d v) (d b.0)) _ _ (le-ltb (d v) (d b.0) (omega arith)) ∙ cond-true (eqb (d v) (d b.0)) _ _ (eq-eqb (d v) (d b.0) e))

  pub nearest_keeps : d b.0 < d v → b ≡ nearest d n
  nearest_keeps gt = sym (more ∙ cond-false (ltb (d v) (d b.0)) _ _ (le-ltb (d v) (d b.0) (omega arith)) ∙ cond-false (eqb (d v) (d b.0)) _ _ (ne_eqb (d v) (d b.0) (λ e. omega arith)))
