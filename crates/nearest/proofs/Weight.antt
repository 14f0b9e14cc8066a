-- Two messages differ in their code bits as often as the code bits of their sum are 1, and that is ten times or more.
-- Assumes nothing.
use Rattle.std.proofs.Common.{◌≡◌, ℕ, zero, suc, ◌+◌, ◌-◌, ◌*◌, ◌/◌, ◌%◌, ◌<◌, ◌≤◌, Bool, true, false, cond, not, ◌&&◌, T, eqb, leb, ◌≢◌, ◌⊎◌, List, [], ◌∷◌, get_or, refl, ◌∙◌, inl, inr, add-one, arith, leb→le, below_more}
use mathlib.Core.Path.{fun_ext}
use Rattle.std.proofs.lemmas.Bool.{cases_lt, cases_Bool, ne_eqb}
use Rattle.codebits.proofs.Numbers.{number_below, number_same}
use Rattle.codebits.specs.Bits.{◌⊕◌, one, count, differences, number_at}
use Rattle.codebits.specs.Convolution.{back, first, second, code_bit}
use Rattle.nearest.specs.Messages.{ZeroFrom, SameBelow}
use Rattle.nearest.specs.Distance.{impulse, DistanceTen}
use Rattle.nearest.specs.Trellis.{first_of, second_of}
use Rattle.nearest.proofs.Coding.{twice_suc, code_first, code_second, back_same}
use Rattle.nearest.proofs.Window.{window, window_first, window_second, window_next, window_settled}

-- a test of every number below n
every : ℕ → (ℕ → Bool) → Bool
every zero f = true
every (suc n) f = f n && every n f

and_both : (a b : Bool) → T (a && b) → T a × T b
and_both true b t = (tt, t)
and_both false b t = absurd t

every_at : (n : ℕ) (f : ℕ → Bool) → T (every n f) → (k : ℕ) → k < n → T (f k)
unfolding every
every_at zero f t k h = absurd (omega arith)
every_at (suc n) f t k h = elim (cases_lt k n) [
  | inl lt ↦ every_at n f (and_both (f n) (every n f) t).1 k lt
  | inr ge ↦ let e : k ≡ n = omega arith in rw e (and_both (f n) (every n f) t).0
]

-- the least weight with which a path that has left state zero comes to each state
leasts : List ℕ
leasts =
    10 ∷ 2 ∷ 3 ∷ 3 ∷ 5 ∷ 3 ∷ 4 ∷ 4 ∷ 7 ∷ 5 ∷ 4 ∷ 4 ∷ 4 ∷ 6 ∷ 5 ∷ 5
    ∷ 7 ∷ 5 ∷ 6 ∷ 6 ∷ 4 ∷ 4 ∷ 5 ∷ 5 ∷ 6 ∷ 4 ∷ 7 ∷ 7 ∷ 5 ∷ 7 ∷ 6 ∷ 6
    ∷ 8 ∷ 8 ∷ 7 ∷ 5 ∷ 7 ∷ 7 ∷ 6 ∷ 4 ∷ 5 ∷ 5 ∷ 4 ∷ 6 ∷ 6 ∷ 6 ∷ 7 ∷ 5
    ∷ 7 ∷ 7 ∷ 6 ∷ 4 ∷ 8 ∷ 8 ∷ 7 ∷ 7 ∷ 6 ∷ 6 ∷ 7 ∷ 7 ∷ 7 ∷ 7 ∷ 6 ∷ 6 ∷ []

least : ℕ → ℕ
least s = get_or leasts s 0

-- the weight of a step from s with message bit b
step_weight : ℕ → Bool → ℕ
step_weight s b = one (first_of s b) + one (second_of s b)

-- the table rises by no more than the step weighs
rises : Bool → ℕ → Bool
rises b s = leb (least (2 * (s % 32) + one b)) (least s + step_weight s b)

rises_at : (b : Bool) (s : ℕ) → s < 64 → T (rises b s)
rises_at true = every_at 64 (rises true) (unfold every rises least leasts step_weight first_of second_of in tt)
rises_at false = every_at 64 (rises false) (unfold every rises least leasts step_weight first_of second_of in tt)

back_empty : (k d : ℕ) → back (λ i. false) k d ≡ false
unfolding back
back_empty k d = elim (leb d k) as (λ b. cond b false false ≡ false) [ true ↦ refl | false ↦ refl ]

module _ (z : ℕ → Bool) where
  -- the weight of the code bits of the places below k
  weight : ℕ → ℕ
  weight k = count (code_bit z) (2 * k)

  weight_suc : (k : ℕ) → weight (suc k) ≡ weight k + step_weight (window z k) (z k)
  unfolding weight count step_weight
  weight_suc k = rw (twice_suc k, code_first z k, code_second z k, window_first z k, window_second z k) (omega arith)

  Empty : ℕ → Type 0
  Empty k = SameBelow k z (λ i. false)

  least_rises : (k : ℕ) → least (window z (suc k)) ≤ least (window z k) + step_weight (window z k) (z k)
  unfolding rises
  least_rises k =
      rw (window_next z k)
      (leb→le _ _ (rises_at (z k) (window z k) (number_below (λ d. back z k (suc d)) 0 6)))

  -- the first 1 takes the path from state zero to state one, at weight two
  leaves : (k : ℕ) → Empty k → z k ≡ true → least (window z (suc k)) ≤ weight (suc k)
  unfolding Empty
  leaves k empty t =
      let start : window z k ≡ 0 =
      number_same (λ d. back z k (suc d)) (λ d. false) 0 0 6 (λ r l. back_same z (λ i. false) k (0 + r) empty ∙ back_empty k (suc (0 + r))) ∙ unfold number_at in refl in
      let two : step_weight (window z k) (z k) ≡ 2 = rw (start, t) (unfold step_weight first_of second_of in refl) in
      let one_state : window z (suc k) ≡ 1 = rw (window_next z k, start, t) in
      let its_least : least 1 ≡ 2 = unfold least leasts in refl in
      rw one_state (omega (arith, weight_suc k))

  least_weight : (k : ℕ) → Empty k ⊎ (least (window z k) ≤ weight k)
  unfolding Empty
  least_weight zero = inl (λ i h. absurd (omega arith))
  least_weight (suc k) =
      elim (least_weight k) [
        | inl empty ↦
            elim (cases_Bool (z k)) [ inl t ↦ inr (leaves k empty t) | inr f ↦ inl (rw (← add-one k) (below_more (λ i. z i ≡ false) k empty f)) ]
        | inr h ↦ inr (omega (arith, least_rises k, weight_suc k))
      ]

  weight_ten : (e n : ℕ) → e + 6 ≤ n → ZeroFrom e z → (k : ℕ) → z k ≡ true → 10 ≤ weight n
  unfolding Empty
  weight_ten e n room ends k t = elim (least_weight n) [
    | inl empty ↦ absurd (elim (cases_lt k n) [ inl lt ↦ both t (empty k lt) | inr ge ↦ both t (ends k (omega arith)) ])
    | inr h ↦ rw (window_settled e z ends n room, ten) at h
  ]
    where
      ten : least 0 ≡ 10
      ten = unfold least leasts in refl

      both : z k ≡ true → z k ≡ false → ⊥
      both p q = let c : ◌≡◌ {A = ℕ} 0 1 = cc in omega arith

-- the code is linear: the code bits of a sum are the sums of the code bits
swap : (a b c d : Bool) → (a ⊕ b) ⊕ (c ⊕ d) ≡ (a ⊕ c) ⊕ (b ⊕ d)
swap true b true d = not_both b d
  where
    not_both : (b d : Bool) → not b ⊕ not d ≡ b ⊕ d
    not_both true true = refl
    not_both true false = refl
    not_both false true = refl
    not_both false false = refl
swap true b false d = not_left b d
  where
    not_left : (b d : Bool) → not b ⊕ d ≡ not (b ⊕ d)
    not_left true true = refl
    not_left true false = refl
    not_left false d = refl
swap false b true d = not_right b d
  where
    not_right : (b d : Bool) → b ⊕ not d ≡ not (b ⊕ d)
    not_right true true = refl
    not_right true false = refl
    not_right false d = refl
swap false b false d = refl

five :
    (a a' b b' c c' d d' e e' : Bool) →
    (a ⊕ a') ⊕ (b ⊕ b') ⊕ (c ⊕ c') ⊕ (d ⊕ d') ⊕ (e ⊕ e') ≡ (a ⊕ b ⊕ c ⊕ d ⊕ e) ⊕ (a' ⊕ b' ⊕ c' ⊕ d' ⊕ e')
five a a' b b' c c' d d' e e' =
    rw (swap a a' b b', swap (a ⊕ b) (a' ⊕ b') c c', swap (a ⊕ b ⊕ c) (a' ⊕ b' ⊕ c') d d', swap (a ⊕ b ⊕ c ⊕ d) (a' ⊕ b' ⊕ c' ⊕ d') e e')

module _ (x y : ℕ → Bool) where
  sum : ℕ → Bool
  sum k = x k ⊕ y k

  back_sum : (k d : ℕ) → back sum k d ≡ back x k d ⊕ back y k d
  unfolding back sum
  back_sum k d = elim (leb d k) as (λ b. cond b (x (k - d) ⊕ y (k - d)) false ≡ cond b (x (k - d)) false ⊕ cond b (y (k - d)) false) [ true ↦ refl | false ↦ refl ]

  first_sum : (k : ℕ) → first sum k ≡ first x k ⊕ first y k
  unfolding first
  first_sum k =
      rw (back_sum k 0, back_sum k 2, back_sum k 3, back_sum k 5, back_sum k 6)
      (five (back x k 0) (back y k 0) (back x k 2) (back y k 2) (back x k 3) (back y k 3) (back x k 5) (back y k 5) (back x k 6) (back y k 6))

  second_sum : (k : ℕ) → second sum k ≡ second x k ⊕ second y k
  unfolding second
  second_sum k =
      rw (back_sum k 0, back_sum k 1, back_sum k 2, back_sum k 3, back_sum k 6)
      (five (back x k 0) (back y k 0) (back x k 1) (back y k 1) (back x k 2) (back y k 2) (back x k 3) (back y k 3) (back x k 6) (back y k 6))

  code_sum : (j : ℕ) → code_bit sum j ≡ code_bit x j ⊕ code_bit y j
  unfolding code_bit
  code_sum j =
      rw (first_sum (j / 2), second_sum (j / 2))
      (elim (eqb (j % 2) 0)
      as (λ b. cond b (first x (j / 2) ⊕ first y (j / 2)) (second x (j / 2) ⊕ second y (j / 2)) ≡ cond b (first x (j / 2)) (second x (j / 2)) ⊕ cond b (first y (j / 2)) (second y (j / 2)))
      [ true ↦ refl | false ↦ refl ])

unlike : (a b : Bool) → a ≢ b → a ⊕ b ≡ true
unlike true true ne = absurd (ne refl)
unlike true false ne = refl
unlike false true ne = refl
unlike false false ne = absurd (ne refl)

-- two messages that differ are ten places apart, by the weight of their sum
pub ten_apart :
    (e n : ℕ) (x y : ℕ → Bool) → e + 6 ≤ n → ZeroFrom e x → ZeroFrom e y → (k : ℕ) → x k ≢ y k →
    10 ≤ differences (code_bit x) (code_bit y) (2 * n)
unfolding differences weight sum
ten_apart e n x y room zx zy k ne =
    let ends : ZeroFrom e (sum x y) = λ i h. rw (zx i h, zy i h) in
    let far : 10 ≤ count (code_bit (sum x y)) (2 * n) = weight_ten (sum x y) e n room ends k (unlike (x k) (y k) ne) in
    rw (fun_ext (code_sum x y)) at far

-- a single 1 reaches ten at the seventh place, and then the coder is at rest
single : ℕ → Bool
single = sum impulse (λ k. false)

single_ends : ZeroFrom 1 single
unfolding single sum
single_ends k h = rw (ne_eqb k 0 (λ e. omega arith))

at_rest : step_weight 0 false ≡ 0
unfolding step_weight first_of second_of
at_rest = refl

single_ten : (d : ℕ) → weight single (7 + d) ≡ 10
single_ten zero = unfold weight count code_bit first second back single sum in refl
single_ten (suc d) =
    let next : 7 + suc d ≡ suc (7 + d) = omega arith in
    rw (next, weight_suc single (7 + d), window_settled 1 single single_ends (7 + d) (omega arith), single_ends (7 + d) (omega arith), at_rest, single_ten d)

pub distance_ten : DistanceTen
unfolding differences weight single
distance_ten = record {
  at_least = ten_apart;
  reached = λ n h.
      let at : 7 + (n - 7) ≡ n = omega arith in
      rw (← fun_ext (code_sum impulse (λ k. false))) (rw at at (single_ten (n - 7)));
}
