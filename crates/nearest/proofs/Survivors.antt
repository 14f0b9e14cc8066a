-- The survivors trace back the cheapest message; of those as cheap, the one with 0 at the latest place where they differ.
-- Assumes nothing.
use Rattle.std.proofs.Common.{◌≡◌, ℕ, zero, suc, ◌+◌, ◌-◌, ◌*◌, ◌^◌, ◌<◌, ◌≤◌, Bool, true, false, not, ◌&&◌, ltb, leb, ◌≢◌, ◌⊎◌, sym, refl, ap, ◌∙◌, inl, inr, arith, lit<, pow_pos, pow_mono}
use mathlib.Core.Path.{fun_ext}
use Rattle.std.proofs.lemmas.Bool.{cases_lt, leb-true, cases_Bool, true≢false, and_parts, and_left, and_right, le-ltb, not-true}
use Rattle.codebits.specs.Bits.{bit_at}
use Rattle.codebits.specs.Convolution.{back, first, second, code_bit}
use Rattle.codebits.specs.Message.{tail_bits}
use Rattle.costs.specs.Kind.{Kind, Reached, Laws, cost_of}
use Rattle.costs.specs.Kind.Reached.{at_nothing, by_charge}
use Rattle.costs.proofs.Reaches.{reached_more}
use Rattle.nearest.specs.Messages.{ZeroFrom, SameBelow}
use Rattle.nearest.specs.Nearest.{OneLatest, NearestMessage, message_cost}
use Rattle.nearest.specs.Path.{traced_message, traced_cost}
use Rattle.nearest.specs.Trellis.{before, first_of, second_of, free, charged_both, candidate, takes, stepped, metric, survivor, traced}
use Rattle.nearest.proofs.Coding.{code_first, code_second, twice_suc, back_at, dropped_zero}
use Rattle.nearest.proofs.Numbers.{zero_bit}
use Rattle.nearest.proofs.Trace.{traced_here, traced_below, traced_past, SameOrLater, extend, everywhere, parted}
use Rattle.nearest.proofs.Window.{window, window_newest, window_before, window_first, window_second, window_comes, window_bit, window_zero, window_same, window_settled}

-- the states that a message can be in after k steps
Open : ℕ → ℕ → Type 0
Open k s = (s < 64) × (s < 2 ^ k)

module _ {O C : Type 0} (kind : Kind O C) (observed : ℕ → O) (N n e : ℕ) (laws : Laws N kind) (budget : 2 * n ≤ N) where
  -- the cost of a message over its first k places
  cost : (ℕ → Bool) → ℕ → C
  cost m k = cost_of kind observed (code_bit m) (2 * k)

  best : ℕ → ℕ → C
  best k s = metric kind observed e k s

  took : ℕ → ℕ → Bool
  took k s = survivor kind observed e k s

  -- the costs of k steps, and the two charges of step k
  Within : ℕ → C → Type 0
  Within k c = Reached kind (2 * k) c

  pair : ℕ → C → Bool → Bool → C
  pair k c x y = charged_both kind (observed (2 * k)) (observed (suc (2 * k))) c x y

  starts : Within 0 kind.nothing
  unfolding Within
  starts = at_nothing

  goes_on : (k : ℕ) (a : C) (x y : Bool) → Within k a → Within (suc k) (pair k a x y)
  unfolding Within pair
  goes_on k a x y w = rw (twice_suc k) (by_charge (observed (suc (2 * k))) y (by_charge (observed (2 * k)) x w))

  -- what the laws say of the costs of k steps
  wide : (k : ℕ) (a : C) → k ≤ n → Within k a → Reached kind N a
  unfolding Within
  wide k a h w = reached_more N (omega arith) w

  keeps : (k : ℕ) (a b : C) (x y : Bool) → k < n → Within k a → Within k b → kind.at_most (pair k a x y) (pair k b x y) ≡ kind.at_most a b
  unfolding Within pair
  keeps k a b x y h wa wb =
      laws.same_charge (suc (2 * k)) (omega arith) (kind.charge a (observed (2 * k)) x) (kind.charge b (observed (2 * k)) x) (observed (suc (2 * k))) y
      (by_charge (observed (2 * k)) x wa) (by_charge (observed (2 * k)) x wb)
      ∙ laws.same_charge (2 * k) (omega arith) a b (observed (2 * k)) x wa wb

  total : (k : ℕ) (a b : C) → k ≤ n → Within k a → Within k b → kind.at_most a b ≡ false → kind.at_most b a ≡ true
  total k a b h wa wb f = elim (laws.total a b (wide k a h wa) (wide k b h wb)) [ inl t ↦ absurd (true≢false (sym t ∙ f)) | inr t ↦ t ]

  chain : (k : ℕ) (a b c : C) → k ≤ n → Within k a → Within k b → Within k c → kind.at_most a b ≡ true → kind.at_most b c ≡ true → kind.at_most a c ≡ true
  chain k a b c h wa wb wc = laws.transitive a b c (wide k a h wa) (wide k b h wb) (wide k c h wc)

  self : (k : ℕ) (a : C) → k ≤ n → Within k a → kind.at_most a a ≡ true
  self k a h w = elim (cases_Bool (kind.at_most a a)) [ inl t ↦ t | inr f ↦ total k a a h w w f ]

  -- the two ways to come to s at step k
  way : ℕ → ℕ → Bool → C
  way k s d = candidate kind (observed (2 * k)) (observed (suc (2 * k))) (best k) s d

  best_suc : (k s : ℕ) → best (suc k) s ≡ way k s (took k s)
  unfolding best way took metric survivor stepped
  best_suc k s = refl

  took_is : (k s : ℕ) → took k s ≡ free e k && not (kind.at_most (way k s false) (way k s true))
  unfolding way took survivor takes best
  took_is k s = refl

  way_is : (k s : ℕ) (d : Bool) → way k s d ≡ pair k (best k (before s d)) (first_of (before s d) (bit_at s 0)) (second_of (before s d) (bit_at s 0))
  unfolding way candidate pair
  way_is k s d = refl

  best_within : (k s : ℕ) → Within k (best k s)
  best_within zero s = unfold best metric in starts
  best_within (suc k) s = rw (best_suc k s, way_is k s (took k s)) (goes_on k _ _ _ (best_within k _))

  way_within : (k s : ℕ) (d : Bool) → Within (suc k) (way k s d)
  way_within k s d = rw (way_is k s d) (goes_on k _ _ _ (best_within k _))

  cost_suc : (m : ℕ → Bool) (k : ℕ) → cost m (suc k) ≡ pair k (cost m k) (first m k) (second m k)
  unfolding cost cost_of pair
  cost_suc m k =
      ap (cost_of kind observed (code_bit m)) (twice_suc k)
      ∙ cc (code_first m k, code_second m k)

  cost_within : (m : ℕ → Bool) (k : ℕ) → Within k (cost m k)
  cost_within m zero = unfold cost cost_of in starts
  cost_within m (suc k) = rw (cost_suc m k) (goes_on k _ _ _ (cost_within m k))

  -- the way taken is at most the other, if the other is open
  picks : (k s : ℕ) (d : Bool) → k < n → (free e k ≡ false → d ≡ false) → kind.at_most (best (suc k) s) (way k s d) ≡ true
  picks k s d h z = rw (best_suc k s, took_is k s) (go (free e k) (kind.at_most (way k s false) (way k s true)) refl d z)
    where
      go : (f a : Bool) → kind.at_most (way k s false) (way k s true) ≡ a → (d : Bool) → (f ≡ false → d ≡ false) → kind.at_most (way k s (f && not a)) (way k s d) ≡ true
      go true true ea true z = ea
      go true true ea false z = self (suc k) (way k s false) h (way_within k s false)
      go true false ea true z = self (suc k) (way k s true) h (way_within k s true)
      go true false ea false z = total (suc k) (way k s false) (way k s true) h (way_within k s false) (way_within k s true) ea
      go false a ea true z = absurd (true≢false (z refl))
      go false a ea false z = self (suc k) (way k s false) h (way_within k s false)

  -- the way that a message itself comes
  own_way : (m : ℕ → Bool) (k : ℕ) → way k (window m (suc k)) (back m k 6) ≡ pair k (best k (window m k)) (first m k) (second m k)
  own_way m k = way_is k (window m (suc k)) (back m k 6) ∙ rw (window_before m k, window_newest m k, window_first m k, window_second m k)

  -- no message is cheaper than the way by which it comes to a state, nor than that state
  own_from : (m : ℕ → Bool) (k : ℕ) → k < n → kind.at_most (best k (window m k)) (cost m k) ≡ true → kind.at_most (way k (window m (suc k)) (back m k 6)) (cost m (suc k)) ≡ true
  own_from m k h least = rw (own_way m k, cost_suc m k) (keeps k _ _ _ _ h (best_within k _) (cost_within m k) ∙ least)

  best_least : (m : ℕ → Bool) → ZeroFrom e m → (k : ℕ) → k ≤ n → kind.at_most (best k (window m k)) (cost m k) ≡ true
  best_least m z zero h = unfold best metric cost cost_of in self zero kind.nothing h starts
  best_least m z (suc k) h =
      chain (suc k) _ _ _ h (best_within (suc k) _) (way_within k _ _) (cost_within m (suc k))
      (picks k (window m (suc k)) (back m k 6) h (dropped_zero e m z k)) (own_from m k h (best_least m z k (omega arith)))

  before_open : (k s : ℕ) → Open (suc k) s → Open k (before s (took k s))
  unfolding Open free
  before_open k s (small, below) = go (took k s) refl
    where
      go : (t : Bool) → took k s ≡ t → (before s t < 64) × (before s t < 2 ^ k)
      go false et = (omega arith, omega arith)
      go true et =
          let six : 6 ≤ k = leb-true 6 k (and_parts (leb 6 k) (ltb k (e + 6)) (and_parts (free e k) (not (kind.at_most (way k s false) (way k s true))) (sym (took_is k s) ∙ et)).0).0 in
          let big : 2 ^ 6 ≤ 2 ^ k = pow_mono six in
          (omega arith, omega arith)

  -- the traced message comes to the state that it was traced from, at the cost of that state
  window_traced : (k s : ℕ) → Open k s → window (traced took k s) k ≡ s
  unfolding Open
  window_traced zero s r = window_zero (traced took zero s) ∙ omega arith
  window_traced (suc k) s r =
      let s' = before s (took k s) in
      window_comes (traced took (suc k) s) k s (took k s) r.0
      (window_same (traced took (suc k) s) (traced took k s') k (traced_below took k s) ∙ window_traced k s' (before_open k s r))
      (traced_here took k s)

  cost_same : (x y : ℕ → Bool) (k : ℕ) → SameBelow k x y → cost x k ≡ cost y k
  cost_same x y zero h = unfold cost cost_of in refl
  cost_same x y (suc k) h =
      let below : SameBelow k x y = λ i l. h i (omega arith) in
      let c : cost x k ≡ cost y k = cost_same x y k below in
      let w : window x k ≡ window y k = window_same x y k below in
      let b : x k ≡ y k = h k (omega arith) in
      rw (cost_suc x k, cost_suc y k, c, ← window_first x k, ← window_second x k, w, b, window_first y k, window_second y k)

  cost_traced : (k s : ℕ) → Open k s → cost (traced took k s) k ≡ best k s
  cost_traced zero s r = unfold cost cost_of best metric in refl
  cost_traced (suc k) s r =
      let s' = before s (took k s) in
      let x = traced took (suc k) s in
      let same : SameBelow k x (traced took k s') = traced_below took k s in
      let open' : Open k s' = before_open k s r in
      let c : cost x k ≡ best k s' = cost_same x (traced took k s') k same ∙ cost_traced k s' open' in
      let w : window x k ≡ s' = window_same x (traced took k s') k same ∙ window_traced k s' open' in
      let b : x k ≡ bit_at s 0 = traced_here took k s in
      rw (cost_suc x k, ← window_first x k, ← window_second x k, c, w, b, best_suc k s) (sym (way_is k s (took k s)))

  -- a message that comes to s at no more than the cost of s is the traced one, or has 1 at the latest place where they differ
  latest_one : (y : ℕ → Bool) → ZeroFrom e y → (k s : ℕ) → k ≤ n → Open k s → window y k ≡ s → kind.at_most (cost y k) (best k s) ≡ true →
      SameOrLater k (traced took k s) y
  latest_one y z zero s h r w c = inl (λ i l. absurd (omega arith))
  latest_one y z (suc k) s h r w c =
      go (latest_one y z k (before s (took k s)) (omega arith) (before_open k s r)) (took k s) refl (back y k 6) refl
    where
      s' : ℕ
      s' = before s (took k s)

      x : ℕ → Bool
      x = traced took (suc k) s

      Earlier : Type 0
      Earlier = window y k ≡ s' → kind.at_most (cost y k) (best k s') ≡ true → SameOrLater k (traced took k s') y

      here : x k ≡ y k
      here = traced_here took k s ∙ (ap (λ v. bit_at v 0) (sym w) ∙ window_newest y k)

      came : before s (back y k 6) ≡ window y k
      came = rw w at (window_before y k)

      own : way k s (back y k 6) ≡ pair k (best k (window y k)) (first y k) (second y k)
      own = rw w at (own_way y k)

      -- the message comes the way that was taken
      same_way : Earlier → took k s ≡ back y k 6 → SameOrLater (suc k) x y
      same_way ih t =
          let w' : window y k ≡ s' = sym came ∙ ap (before s) (sym t) in
          let all : best (suc k) s ≡ pair k (best k (window y k)) (first y k) (second y k) = best_suc k s ∙ (ap (way k s) t ∙ own) in
          let c' : kind.at_most (cost y k) (best k (window y k)) ≡ true =
          sym (keeps k _ _ (first y k) (second y k) h (cost_within y k) (best_within k _)) ∙ (rw (cost_suc y k, all) at c) in
          extend k x (traced took k s') y (traced_below took k s) here (ih w' (ap (λ v. kind.at_most (cost y k) (best k v)) (sym w') ∙ c'))

      -- it comes the other way, with a 1: there it differs latest
      other_way : took k s ≡ false → back y k 6 ≡ true → SameOrLater (suc k) x y
      other_way t d =
          let wx : window x k ≡ before s false =
          window_same x (traced took k s') k (traced_below took k s) ∙ (window_traced k s' (before_open k s r) ∙ ap (before s) t) in
          let wy : window y k ≡ before s true = sym came ∙ ap (before s) d in
          inr (parted k s x y (unfold Open in r.0) wx wy d here)

      -- it comes the other way, with a 0: then that way was no dearer and would have been taken
      no_way : took k s ≡ true → back y k 6 ≡ false → ⊥
      no_way t d =
          let dearer : kind.at_most (way k s false) (way k s true) ≡ false =
          not-true _ (and_parts (free e k) (not (kind.at_most (way k s false) (way k s true))) (sym (took_is k s) ∙ t)).1 in
          let below : kind.at_most (way k s false) (cost y (suc k)) ≡ true = rw (w, d) at (own_from y k h (best_least y z k (omega arith))) in
          let above : kind.at_most (cost y (suc k)) (way k s true) ≡ true = rw (best_suc k s, t) at c in
          true≢false (sym (chain (suc k) _ _ _ h (way_within k s false) (cost_within y (suc k)) (way_within k s true) below above) ∙ dearer)

      go : Earlier → (t : Bool) → took k s ≡ t → (d : Bool) → back y k 6 ≡ d → SameOrLater (suc k) x y
      go ih true et true ed = same_way ih (et ∙ sym ed)
      go ih false et false ed = same_way ih (et ∙ sym ed)
      go ih false et true ed = other_way et ed
      go ih true et false ed = absurd (no_way et ed)

  -- from state zero, six steps and more after e, the traced message is zero from e on
  zero_open : (k : ℕ) → Open k 0
  unfolding Open
  zero_open k = (lit< tt, pow_pos k)

  tail_zero : (k : ℕ) → e + 6 ≡ k → ZeroFrom e (traced took k 0)
  tail_zero k h i l = elim (cases_lt i k) [
    | inl lt ↦
        let d = k - suc i in
        let x = traced took k 0 in
        let at : k - suc d ≡ i = omega arith in
        let le : suc d ≤ k = omega arith in
        (rw at at (sym (back_at x k (suc d) le) ∙ (sym (window_bit x k d (omega arith)) ∙ (ap (λ v. bit_at v d) (window_traced k 0 (zero_open k)) ∙ zero_bit d))))
    | inr ge ↦ traced_past took k 0 i ge
  ]

  traced_ends : (k : ℕ) → e + 6 ≤ k → ZeroFrom e (traced took k 0)
  traced_ends zero h = absurd (omega arith)
  traced_ends (suc k) h = elim (cases_lt k (e + 6)) [
    | inl lt ↦ tail_zero (suc k) (omega arith)
    | inr ge ↦ after (traced_ends k ge) ge
  ]
    where
      shut : e + 6 ≤ k → took k 0 ≡ false
      shut ge = took_is k 0 ∙ and_left (free e k) _ (unfold free in and_right (leb 6 k) (ltb k (e + 6)) (le-ltb k (e + 6) ge))

      after : ZeroFrom e (traced took k 0) → e + 6 ≤ k → ZeroFrom e (traced took (suc k) 0)
      after z ge i l = elim (cases_lt i k) [
        | inl lt ↦ traced_below took k 0 i lt ∙ (rw (shut ge) (z i l))
        | inr past ↦ elim (cases_lt k i) [ inl lt ↦ traced_past took (suc k) 0 i lt | inr le ↦ let at : i ≡ k = omega arith in rw at (traced_here took k 0) ]
      ]

  -- whatever the observations are, by the laws alone
  pub nearest_message : e + tail_bits ≤ n → NearestMessage kind observed e n (traced_message kind observed e n) (traced_cost kind observed e n)
  unfolding took cost best
  nearest_message room = record {
    is_rival = ends;
    cost_told = sym told;
    none_cheaper = λ y z. rw (told, ← window_settled e y z n room) (best_least y z n (omega arith));
    equal_later = λ y z ne c. found y z ne (everywhere e n x y (omega arith) ends z (latest_one y z n 0 (omega arith) (zero_open n) (window_settled e y z n room) (rw told at c)));
  }
    where
      x : ℕ → Bool
      x = traced_message kind observed e n

      ends : ZeroFrom e x
      ends = traced_ends n room

      told : message_cost kind observed n x ≡ traced_cost kind observed e n
      told = cost_traced n 0 (zero_open n)

      found : (y : ℕ → Bool) → ZeroFrom e y → y ≢ x → ((i : ℕ) → x i ≡ y i) ⊎ OneLatest x y → OneLatest x y
      found y z ne (inl same) = absurd (ne (sym (fun_ext same)))
      found y z ne (inr later) = later
