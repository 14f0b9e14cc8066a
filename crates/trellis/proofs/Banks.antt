-- What is written to a bank, and that a step goes by the costs of the 64 states alone.
-- Assumes nothing.
use Rattle.std.proofs.Common.{◌≡◌, ℕ, zero, suc, ◌+◌, ◌*◌, ◌<◌, ◌≤◌, Bool, true, false, ◌≢◌, List, length, get_or, take, set, sym, refl, ap, ◌∙◌, inl, inr, zero-add, arith, length-set}
use Rattle.std.proofs.lemmas.List.FromFn.{length-map-range_with_len, get_or-map-range_with_len, fill_by_all}
use Rattle.std.proofs.lemmas.List.{get_or-set_same, get_or-set_other, get_or-take}
use Rattle.std.proofs.lemmas.Bool.{cases_lt}
use Rattle.costs.specs.Kind.{Kind}
use Rattle.codebits.proofs.Numbers.{one_small}
use Rattle.nearest.specs.Trellis.{before, candidate, takes, stepped}
use Rattle.codebits.proofs.Numbers.{number_same}
use Rattle.trellis.specs.Memory.{state_count, cost_in, bank_of, word_of, Written}
use Rattle.trellis.specs.Block.{start_of}

pub before_small : (s : ℕ) (d : Bool) → s < 64 → before s d < 64
before_small s d h = omega (arith, one_small d)

-- two ways to give the costs that agree at the 64 states
abbrev pub Alike : {A : Type 0} → (ℕ → A) → (ℕ → A) → Type 0
Alike f g = (s : ℕ) → s < state_count → f s ≡ g s

pub bank_length : {C : Type 0} (cost : ℕ → C) → length (bank_of cost) ≡ state_count
unfolding bank_of
bank_length cost = length-map-range_with_len cost 0 state_count

pub bank_at : {C : Type 0} (cost : ℕ → C) (s : ℕ) (d : C) → s < state_count → get_or (bank_of cost) s d ≡ cost s
unfolding bank_of
bank_at cost s d h = get_or-map-range_with_len cost 0 state_count s s d h (zero-add s)

pub cost_at : {O C : Type 0} (kind : Kind O C) (cost : ℕ → C) → Alike (cost_in kind (bank_of cost) 0) cost
cost_at kind cost s h = rw (zero-add s) (bank_at cost s kind.nothing h)

-- a bank is known by the costs of its states
pub bank_is : {O C : Type 0} (kind : Kind O C) (cost : ℕ → C) (bank : List C) → length bank ≡ state_count → Alike (cost_in kind bank 0) cost → bank ≡ bank_of cost
unfolding bank_of
bank_is kind cost bank len h = fill_by_all cost bank state_count kind.nothing len (λ s l. sym (ap (λ p. get_or bank p kind.nothing) (zero-add s)) ∙ h s l)

-- what the states cost before a block is told by bank one
pub starts_in_front : {O C : Type 0} (kind : Kind O C) (block : ℕ) (costs : List C) → Alike (start_of kind block (take state_count costs)) (start_of kind block costs)
starts_in_front kind zero costs s h = refl
starts_in_front kind (suc block) costs s h = get_or-take state_count costs (0 + s) kind.nothing (omega arith)

pub word_same : (f g : ℕ → Bool) → Alike f g → word_of f ≡ word_of g
unfolding word_of
word_same f g h = number_same f g 0 0 state_count (λ r l. rw (zero-add r) (h r l))

-- a step goes by the costs of the 64 states
module _ {O C : Type 0} (kind : Kind O C) (a b : O) (is_free : Bool) (f g : ℕ → C) (same : Alike f g) where
  candidate_same : (d : Bool) → Alike (λ s. candidate kind a b f s d) (λ s. candidate kind a b g s d)
  unfolding candidate
  candidate_same d s h = rw (same (before s d) (before_small s d h))

  pub takes_same : Alike (takes kind a b is_free f) (takes kind a b is_free g)
  unfolding takes
  takes_same s h = rw (candidate_same false s h, candidate_same true s h)

  pub stepped_same : Alike (stepped kind a b is_free f) (stepped kind a b is_free g)
  unfolding stepped
  stepped_same s h = rw (takes_same s h) (candidate_same (takes kind a b is_free g s) s h)

-- nothing is written yet; one more state; and a part after a part
module _ {C : Type 0} (none : C) (cost : ℕ → C) where
  pub written_none : (lo : ℕ) (old : List C) → Written none cost lo lo old old
  written_none lo old = record { here = λ s a b. absurd (omega arith); elsewhere = λ i h. refl }

  pub written_more :
      (lo n : ℕ) (x : C) (old new : List C) → lo ≤ n → n < length new → Written none cost lo n old new → x ≡ cost n →
      Written none cost lo (n + 1) old (set new n x)
  written_more lo n x old new le room w e = record {
    here = λ s a b. elim (cases_lt s n) [
      | inl lt ↦ let ne : s ≢ n = omega arith in get_or-set_other new n s x none ne ∙ w.here s a lt
      | inr ge ↦ let last : s ≡ n = omega arith in rw last (get_or-set_same new n x none room ∙ e)
    ];
    elsewhere = λ k h. elim h [
      | inl lt ↦ let ne : k ≢ n = omega arith in get_or-set_other new n k x none ne ∙ w.elsewhere k (inl lt)
      | inr ge ↦
          let ne : k ≢ n = omega arith in
          let past : n ≤ k = omega arith in
          get_or-set_other new n k x none ne ∙ w.elsewhere k (inr past)
    ];
  }

  -- the two states of butterfly i of those from `base` on
  pub written_two :
      (base i : ℕ) (x y : C) (old new : List C) → 2 * (base + i) + 1 < length new → Written none cost (2 * base) (2 * (base + i)) old new →
      x ≡ cost (2 * (base + i)) → y ≡ cost (2 * (base + i) + 1) → Written none cost (2 * base) (2 * (base + (i + 1))) old (set (set new (2 * (base + i)) x) (2 * (base + i) + 1) y)
  written_two base i x y old new room w is_x is_y =
      let n = 2 * (base + i) in
      let end : 2 * (base + (i + 1)) ≡ n + 1 + 1 = omega arith in
      let room_1 : n + 1 < length (set new n x) = rw (length-set new n x) room in
      rw end (written_more (2 * base) (n + 1) y old (set new n x) (omega arith) room_1 (written_more (2 * base) n x old new (omega arith) (omega arith) w is_x) is_y)

  pub written_join : (mid hi : ℕ) (old new last : List C) → mid ≤ hi → Written none cost 0 mid old new → Written none cost mid hi new last → Written none cost 0 hi old last
  written_join mid hi old new last le w v = record {
    here = λ s a b. elim (cases_lt s mid) [
      | inl lt ↦ v.elsewhere s (inl lt) ∙ w.here s a lt
      | inr ge ↦ v.here s ge b
    ];
    elsewhere = λ k h. elim h [
      | inl lt ↦ absurd (omega arith)
      | inr ge ↦ let past : mid ≤ k = omega arith in v.elsewhere k (inr ge) ∙ w.elsewhere k (inr past)
    ];
  }

  -- a bank whose states are all written
  pub written_all : (old new : List C) → length new ≡ state_count → Written none cost 0 state_count old new → new ≡ bank_of cost
  unfolding bank_of
  written_all old new len w = fill_by_all cost new state_count none len (λ s l. w.here s (omega arith) l)
