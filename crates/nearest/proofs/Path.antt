-- The nearest message is the nearest PSDU, of which there is one, and what is traced goes by what came.
-- Assumes nothing.
use Rattle.std.proofs.Common.{◌≡◌, ℕ, zero, suc, ◌*◌, ◌≤◌, Bool, ◌≢◌, List, sym, refl, ap, ◌∙◌, inl, inr, arith, lit<}
use mathlib.Core.Path.{fun_ext}
use Rattle.std.proofs.lemmas.Bool.{cases_order, both_ways}
use Rattle.codebits.specs.Message.{IsPsdu, message_bit, message_length, octets_of}
use Rattle.costs.specs.Kind.{Kind, Laws, most_charges}
use Rattle.nearest.specs.Messages.{longest_psdu, SameBelow}
use Rattle.nearest.specs.Nearest.{OneLatest, NearestMessage, NearestPsdu, psdu_cost, NearestIsOne}
use Rattle.nearest.specs.Path.{traced_message, traced_psdu, traced_psdu_cost, NearestByLaws, TracesNearestPsdu, ByWhatCame}
use Rattle.nearest.specs.Trellis.{metric, survivor}
use Rattle.nearest.proofs.Octets.{message_ends, octets_psdu, octets_bit, same_psdu, differ, room}
use Rattle.nearest.proofs.Survivors.{nearest_message}
use Rattle.nearest.proofs.Trace.{traced_same}

module _ {O C : Type 0} (kind : Kind O C) (observed : ℕ → O) (L : ℕ) where
  -- the octets of the nearest message are the nearest PSDU
  pub octets_nearest : (m : ℕ → Bool) (told : C) → NearestMessage kind observed (8 * L) (message_length L) m told → NearestPsdu kind observed L (octets_of L m) told
  octets_nearest m told near = record {
    is_rival = octets_psdu L m;
    cost_told = rw same near.cost_told;
    none_cheaper = λ q iq. rw same (near.none_cheaper (message_bit q) (message_ends L q iq));
    equal_later = λ q iq ne c. rw same (near.equal_later (message_bit q) (message_ends L q iq) (λ e. ne (alike q iq e)) (rw same at c));
  }
    where
      same : message_bit (octets_of L m) ≡ m
      same = fun_ext (octets_bit L m near.is_rival)

      alike : (q : List ℕ) → IsPsdu L q → message_bit q ≡ m → q ≡ octets_of L m
      alike q iq e = same_psdu L q (octets_of L m) iq (octets_psdu L m) (λ i l. ap (λ x. x i) (e ∙ sym same))

  -- for any budget of charges that covers the frame
  pub nearest_psdu : (N : ℕ) → Laws N kind → 2 * message_length L ≤ N → NearestPsdu kind observed L (traced_psdu kind observed L) (traced_psdu_cost kind observed L)
  nearest_psdu N laws budget =
      octets_nearest (traced_message kind observed (8 * L) (message_length L)) (traced_psdu_cost kind observed L)
      (nearest_message kind observed N (message_length L) (8 * L) laws budget (room L))

-- the longest frame is charged within the budget, even twice
pub within_budget : (L : ℕ) → L ≤ longest_psdu → 2 * (2 * message_length L) ≤ most_charges
within_budget L h = omega arith

pub nearest_by_laws : {O C : Type 0} → NearestByLaws O C
nearest_by_laws kind N laws observed e n room budget = nearest_message kind observed N n e laws budget room

pub traces_psdu : {O C : Type 0} (kind : Kind O C) → Laws most_charges kind → TracesNearestPsdu kind
traces_psdu kind laws observed L h = nearest_psdu kind observed L most_charges laws (omega (arith, within_budget L h))

-- of two messages, only one has 1 at the latest place where they differ
not_both_later : (x y : ℕ → Bool) → OneLatest x y → OneLatest y x → ⊥
not_both_later x y (i, xi, yi, after_i) (j, yj, xj, after_j) = elim (cases_order i j) [
  | inl same ↦ both_ways (x j) (rw same at xi) xj
  | inr (inl lt) ↦ both_ways (y j) yj (sym (after_i j lt) ∙ xj)
  | inr (inr gt) ↦ both_ways (x i) xi (sym (after_j i gt) ∙ yi)
]

pub nearest_is_one : {O C : Type 0} → NearestIsOne O C
nearest_is_one kind observed L p q told other near near' = elim (differ L p q near.is_rival near'.is_rival) [
  | inl same ↦ (same, near.cost_told ∙ (ap (psdu_cost kind observed L) same ∙ sym near'.cost_told))
  | inr (k, at) ↦
      let ne : p ≢ q = λ e. at (ap (λ r. message_bit r k) e) in
      absurd (not_both_later (message_bit p) (message_bit q)
      (near.equal_later q near'.is_rival (λ e. ne (sym e)) (near'.none_cheaper p near.is_rival))
      (near'.equal_later p near.is_rival ne (near.none_cheaper q near'.is_rival)))
]

module _ {O C : Type 0} (kind : Kind O C) (a b : ℕ → O) (e : ℕ) where
  pub metric_local : (k : ℕ) → SameBelow (2 * k) a b → (s : ℕ) → metric kind a e k s ≡ metric kind b e k s
  unfolding metric
  metric_local zero h s = refl
  metric_local (suc k) h s =
      let earlier : metric kind a e k ≡ metric kind b e k = fun_ext (metric_local k (λ j l. h j (omega arith))) in
      rw (h (2 * k) (omega arith), h (suc (2 * k)) (omega arith), earlier)

  pub survivor_local : (k : ℕ) → SameBelow (2 * suc k) a b → (s : ℕ) → survivor kind a e k s ≡ survivor kind b e k s
  unfolding survivor
  survivor_local k h s =
      let earlier : metric kind a e k ≡ metric kind b e k = fun_ext (metric_local k (λ j l. h j (omega arith))) in
      rw (h (2 * k) (omega arith), h (suc (2 * k)) (omega arith), earlier)

  pub trace_local : (k : ℕ) → SameBelow (2 * k) a b → traced_message kind a e k ≡ traced_message kind b e k
  trace_local k h =
      traced_same (survivor kind a e) (survivor kind b e) k 0 (lit< tt)
      (λ i l t small. survivor_local i (λ j lj. h j (omega arith)) t)

pub by_what_came : {O C : Type 0} (kind : Kind O C) → ByWhatCame kind
by_what_came kind = record { costs = metric_local kind; survivors = survivor_local kind; trace = trace_local kind }
