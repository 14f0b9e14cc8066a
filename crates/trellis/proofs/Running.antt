-- How the banks stand after n steps of a block.
-- Assumes nothing.
use Rattle.std.proofs.Common.{◌≡◌, ℕ, suc, ◌+◌, ◌-◌, ◌*◌, ◌<◌, Bool, List, ◌++◌, length, get_or, set, refl, ◌∙◌, add-one, arith}
use Rattle.std.proofs.lemmas.List.FromFn.{fill_by_all}
use Rattle.std.proofs.lemmas.List.Edits.{fill_by_more}
use Rattle.codebits.specs.Message.{block_bits}
use Rattle.costs.specs.Kind.{Kind}
use Rattle.nearest.specs.Trellis.{free, stepped}
use Rattle.trellis.specs.Memory.{state_count, cost_in, bank_of, step_word}
use Rattle.trellis.specs.Block.{ran, took, banks, took_word, block_words}
use Rattle.trellis.proofs.Banks.{Alike, bank_length, cost_at, bank_is, takes_same, stepped_same, word_same}

-- The bank that the next step reads holds the costs after n steps, the other one those after one step less, and the words are those of the steps so far.
pub record Running {O C : Type 0} (kind : Kind O C) (observed : ℕ → O) (e first : ℕ) (start : ℕ → C) (n : ℕ) (from to : List C) (words : List ℕ) : Type 0 where
  pub latest : Alike (cost_in kind from 0) (ran kind observed e first start n)
  pub earlier : (m : ℕ) → suc m ≡ n → Alike (cost_in kind to 0) (ran kind observed e first start m)
  pub lengths : (length from ≡ state_count) × (length to ≡ state_count)
  pub so_far : (k : ℕ) → k < n → get_or words k 0 ≡ took_word kind observed e first start k

module _ {O C : Type 0} (kind : Kind O C) (observed : ℕ → O) (e first : ℕ) (start : ℕ → C) where
  pub running_none : (from to : List C) (words : List ℕ) → length from ≡ state_count → length to ≡ state_count → Alike (cost_in kind from 0) start → Running kind observed e first start 0 from to words
  unfolding ran
  running_none from to words one two h = record { latest = h; earlier = λ m z. absurd (omega arith); lengths = (one, two); so_far = λ k l. absurd (omega arith) }

  -- one step more, from the bank that holds the latest costs to the other
  pub running_more :
      (n : ℕ) (from to : List C) (words : List ℕ) (a b : O) (is_free : Bool) (newer : List C) (w : ℕ) →
      Running kind observed e first start n from to words → a ≡ observed (2 * n) → b ≡ observed (2 * n + 1) → is_free ≡ free e (first + n) →
      n < length words → newer ≡ bank_of (stepped kind a b is_free (cost_in kind from 0)) → w ≡ step_word kind a b is_free 0 from →
      Running kind observed e first start (n + 1) newer from (set words n w)
  unfolding ran took_word took
  running_more n from to words a b is_free newer w r a_is b_is free_is room new word =
      let odd : 2 * n + 1 ≡ suc (2 * n) = omega arith in
      let next : Alike (stepped kind a b is_free (cost_in kind from 0)) (ran kind observed e first start (suc n))
      = rw (a_is, b_is, free_is, odd) (stepped_same kind (observed (2 * n)) (observed (suc (2 * n))) (free e (first + n)) _ _ r.latest) in
      let this : w ≡ took_word kind observed e first start n
      = word ∙ rw (a_is, b_is, free_is, odd) (word_same _ _ (takes_same kind (observed (2 * n)) (observed (suc (2 * n))) (free e (first + n)) _ _ r.latest)) in
      record {
        latest = λ s h. rw (new, add-one n) (cost_at kind _ s h ∙ next s h);
        earlier = λ m z s h. let at : m ≡ n = omega arith in rw at (r.latest s h);
        lengths = (rw new (bank_length _), r.lengths.0);
        so_far = λ k l. rw this (fill_by_more (took_word kind observed e first start) words n 0 room r.so_far k l);
      }

  -- the banks and the words after the block
  module _ (from to : List C) (words : List ℕ) (r : Running kind observed e first start block_bits from to words) where
    pub running_costs : from ++ to ≡ banks kind observed e first start
    unfolding banks
    running_costs = rw (bank_is kind _ from r.lengths.0 r.latest, bank_is kind _ to r.lengths.1 (r.earlier (block_bits - 1) refl)) refl

    pub running_words : length words ≡ block_bits → words ≡ block_words kind observed e first start
    unfolding block_words
    running_words len = fill_by_all (took_word kind observed e first start) words block_bits 0 len r.so_far
