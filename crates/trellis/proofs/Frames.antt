-- The blocks of a frame, one after the other, run the trellis of the whole frame.
-- Assumes nothing.
use Rattle.std.proofs.Common.{◌≡◌, ℕ, zero, suc, ◌+◌, ◌-◌, ◌*◌, ◌/◌, ◌%◌, ◌<◌, ◌≤◌, Bool, List, ◌++◌, length, get_or, take, drop, sym, refl, ap, ◌∙◌, inl, inr, zero-add, arith, lit<}
use Rattle.std.proofs.lemmas.List.FromFn.{length-map-range_with_len, get_or-map-range_with_len}
use Rattle.std.proofs.lemmas.List.{get_or_append_left, get_or-append_right, get_or-take, length-append, length-drop, length-take-le}
use Rattle.std.proofs.lemmas.Bool.{cases_lt}
use Rattle.codebits.specs.Bits.{bit_at}
use Rattle.codebits.specs.Message.{block_bits, block_code_bits, blocks, message_length, octets_of}
use Rattle.costs.specs.Kind.{Kind, Laws, most_charges}
use Rattle.costs.specs.declared.Observation.{Observation}
use Rattle.nearest.specs.Messages.{longest_psdu, SameBelow}
use Rattle.nearest.specs.Nearest.{NearestPsdu}
use Rattle.nearest.specs.Path.{traced_psdu, traced_psdu_cost}
use Rattle.nearest.specs.Trellis.{free, metric, survivor}
use Rattle.codebits.proofs.Numbers.{number_bit}
use Rattle.nearest.proofs.Path.{metric_local, survivor_local, traces_psdu}
use Rattle.nearest.proofs.Trace.{traced_same}
use Rattle.trellis.specs.Memory.{state_count, cost_in, bank_of, word_of, observed_at}
use Rattle.trellis.specs.Block.{ran, took, banks, took_word, block_words, start_of, costs_after, words_after}
use Rattle.trellis.specs.Trace.{took_by, traced_by}
use Rattle.trellis.specs.Frame.{Holds, costs_after_blocks, words_after_blocks, in_order, BlocksRunTheTrellis}
use Rattle.trellis.proofs.Banks.{Alike, bank_length, bank_at, takes_same, stepped_same}

-- bit s of a word is that of state s
pub word_bit : (f : ℕ → Bool) (s : ℕ) → s < state_count → bit_at (word_of f) s ≡ f s
unfolding word_of
word_bit f s h = number_bit f 0 state_count s h ∙ ap f (zero-add s)

-- steps from step `first` of the frame on, where the states cost what they do after as many steps
module _ {O C : Type 0} (kind : Kind O C) (all observed : ℕ → O) (e first n : ℕ) (start : ℕ → C) (seen : (j : ℕ) → j < 2 * n → observed j ≡ all (2 * first + j))
    (starts : Alike start (metric kind all e first)) where
  ran_metric : (k : ℕ) → k ≤ n → Alike (ran kind observed e first start k) (metric kind all e (first + k))
  unfolding ran metric
  ran_metric zero le s h = let at : first + 0 ≡ first = omega arith in rw at (starts s h)
  ran_metric (suc k) le s h =
      let at : first + suc k ≡ suc (first + k) = omega arith in
      let one : 2 * first + 2 * k ≡ 2 * (first + k) = omega arith in
      let two : 2 * first + suc (2 * k) ≡ suc (2 * (first + k)) = omega arith in
      rw (at, seen (2 * k) (omega arith), seen (suc (2 * k)) (omega arith), one, two)
      (stepped_same kind (all (2 * (first + k))) (all (suc (2 * (first + k)))) (free e (first + k)) _ _ (ran_metric k (omega arith)) s h)

  took_survivor : (k : ℕ) → k < n → Alike (took kind observed e first start k) (survivor kind all e (first + k))
  unfolding took survivor
  took_survivor k lt s h =
      let one : 2 * first + 2 * k ≡ 2 * (first + k) = omega arith in
      let two : 2 * first + suc (2 * k) ≡ suc (2 * (first + k)) = omega arith in
      rw (seen (2 * k) (omega arith), seen (suc (2 * k)) (omega arith), one, two)
      (takes_same kind (all (2 * (first + k))) (all (suc (2 * (first + k)))) (free e (first + k)) _ _ (ran_metric k (omega arith)) s h)

module _ {C : Type 0} (kind : Kind Observation C) (all : ℕ → Observation) (octets : ℕ) where
  pub holds_none : (costs : List C) (words : List ℕ) → Holds kind all octets 0 costs words
  unfolding metric
  holds_none costs words = record { state_costs = λ s h. refl; survivors = λ k l. absurd (omega arith) }

  module _ (block : ℕ) (costs : List C) (words : List ℕ) (observed : List Observation) (room : block_bits * suc block ≤ length words)
      (seen : (j : ℕ) → j < block_code_bits → observed_at observed j ≡ all (block_code_bits * block + j)) (holds : Holds kind all octets block costs words) where
    seen_on : (j : ℕ) → j < 2 * block_bits → observed_at observed j ≡ all (2 * (block_bits * block) + j)
    seen_on j l = let at : 2 * (block_bits * block) + j ≡ block_code_bits * block + j = omega arith in rw at (seen j l)

    more_costs : (s : ℕ) → s < state_count → start_of kind (suc block) (costs_after kind observed octets block costs) s ≡ metric kind all (8 * octets) (block_bits * suc block) s
    unfolding costs_after banks
    more_costs s h =
        let one = bank_of (ran kind (observed_at observed) (8 * octets) (block_bits * block) (start_of kind block costs) block_bits) in
        let two = bank_of (ran kind (observed_at observed) (8 * octets) (block_bits * block) (start_of kind block costs) (block_bits - 1)) in
        let one_length : length one ≡ state_count = bank_length _ in
        let here : s < length one = omega arith in
        let inside : s < length (one ++ two) = omega (arith, length-append one two) in
        let end : block_bits * block + block_bits ≡ block_bits * suc block = omega arith in
        rw (zero-add s)
        (get_or_append_left (one ++ two) (drop (2 * state_count) costs) kind.nothing s inside
        ∙ (get_or_append_left one two kind.nothing s here
        ∙ (bank_at _ s kind.nothing h
        ∙ (ran_metric kind all (observed_at observed) (8 * octets) (block_bits * block) block_bits (start_of kind block costs) seen_on holds.state_costs block_bits (omega arith) s h
        ∙ ap (λ n. metric kind all (8 * octets) n s) end))))

    new_word : (n : ℕ) → n < block_bits → (s : ℕ) → s < state_count →
        bit_at (get_or (block_words kind (observed_at observed) (8 * octets) (block_bits * block) (start_of kind block costs)) n 0) s ≡ survivor kind all (8 * octets) (block_bits * block + n) s
    unfolding block_words took_word
    new_word n l s h =
        ap (λ w. bit_at w s) (get_or-map-range_with_len (took_word kind (observed_at observed) (8 * octets) (block_bits * block) (start_of kind block costs)) 0 block_bits n n 0 l (zero-add n))
        ∙ (word_bit _ s h ∙ took_survivor kind all (observed_at observed) (8 * octets) (block_bits * block) block_bits (start_of kind block costs) seen_on holds.state_costs n l s h)

    new_length : length (block_words kind (observed_at observed) (8 * octets) (block_bits * block) (start_of kind block costs)) ≡ block_bits
    unfolding block_words
    new_length = length-map-range_with_len (took_word kind (observed_at observed) (8 * octets) (block_bits * block) (start_of kind block costs)) 0 block_bits

    more_words : (k : ℕ) → k < block_bits * suc block → (s : ℕ) → s < state_count → took_by (words_after kind observed octets block costs words) k s ≡ survivor kind all (8 * octets) k s
    unfolding words_after
    more_words k l s h =
        let old = take (block_bits * block) words in
        let new = block_words kind (observed_at observed) (8 * octets) (block_bits * block) (start_of kind block costs) in
        let rest = drop (block_bits * block + block_bits) words in
        let old_length : length old ≡ block_bits * block = length-take-le (block_bits * block) words (omega arith) in
        elim (cases_lt k (block_bits * block)) [
          | inl lt ↦
              let inside : k < length old = omega arith in
              ap (λ w. bit_at w s) (get_or_append_left old (new ++ rest) 0 k inside ∙ get_or-take (block_bits * block) words k 0 lt) ∙ holds.survivors k lt s h
          | inr ge ↦
              let n = k - block_bits * block in
              let small : n < block_bits = omega arith in
              let inside : n < length new = omega (arith, new_length) in
              let at : block_bits * block + n ≡ k = omega arith in
              ap (λ w. bit_at w s) (get_or-append_right old (new ++ rest) (block_bits * block) k 0 old_length ge ∙ get_or_append_left new rest 0 n inside)
              ∙ (new_word n small s h ∙ ap (λ i. survivor kind all (8 * octets) i s) at)
        ]

    pub holds_more : Holds kind all octets (suc block) (costs_after kind observed octets block costs) (words_after kind observed octets block costs words)
    holds_more = record { state_costs = more_costs; survivors = more_words }

  pub holds_later :
      (later : ℕ → Observation) (block : ℕ) (costs : List C) (words : List ℕ) → SameBelow (block_code_bits * block) all later → Holds kind all octets block costs words →
      Holds kind later octets block costs words
  holds_later later block costs words same h = record {
    state_costs = λ s l. h.state_costs s l ∙ metric_local kind all later (8 * octets) (block_bits * block) (λ j lj. same j (omega arith)) s;
    survivors = λ k lk s l. h.survivors k lk s l ∙ survivor_local kind all later (8 * octets) k (λ j lj. same j (omega arith)) s;
  }

  start_later : (block : ℕ) (costs : List C) (s : ℕ) → 0 < block → start_of kind block costs s ≡ cost_in kind costs 0 s
  start_later zero costs s h = absurd (omega arith)
  start_later (suc block) costs s h = refl

  pub holds_traces : (costs : List C) (words : List ℕ) → Holds kind all octets (blocks octets) costs words →
      (traced_by octets words ≡ traced_psdu kind all octets) × (cost_in kind costs 0 0 ≡ traced_psdu_cost kind all octets)
  unfolding traced_by
  holds_traces costs words h =
      let some : 0 < blocks octets = omega arith in (
        ap (octets_of octets) (traced_same (took_by words) (survivor kind all (8 * octets)) (message_length octets) 0 (lit< tt) h.survivors),
        sym (start_later (blocks octets) costs 0 some) ∙ h.state_costs 0 (lit< tt),
      )

  pub holds_nearest : Laws most_charges kind → (costs : List C) (words : List ℕ) → octets ≤ longest_psdu → Holds kind all octets (blocks octets) costs words →
      NearestPsdu kind all octets (traced_by octets words) (cost_in kind costs 0 0)
  holds_nearest laws costs words le h =
      let told = holds_traces costs words h in
      rw (told.0, told.1) (traces_psdu kind laws all octets le)

-- the memory keeps its size
pub costs_length : {C : Type 0} (kind : Kind Observation C) (observed : List Observation) (octets block : ℕ) (costs : List C) → 2 * state_count ≤ length costs →
    length (costs_after kind observed octets block costs) ≡ length costs
unfolding costs_after banks
costs_length kind observed octets block costs room =
    simp (length-append, length-drop, bank_length) (omega arith)

pub words_length :
    {C : Type 0} (kind : Kind Observation C) (observed : List Observation) (octets block : ℕ) (costs : List C) (words : List ℕ) → block_bits * suc block ≤ length words →
    length (words_after kind observed octets block costs words) ≡ length words
unfolding words_after block_words
words_length kind observed octets block costs words room =
    let old : length (take (block_bits * block) words) ≡ block_bits * block = length-take-le (block_bits * block) words (omega arith) in
    simp (length-append, length-drop, old) (omega arith)

-- the whole frame
module _ {C : Type 0} (kind : Kind Observation C) (octets : ℕ) (observed : ℕ → List Observation) (costs : List C) (words : List ℕ) where
  seen_in_order : (block j : ℕ) → j < block_code_bits → observed_at (observed block) j ≡ in_order observed (block_code_bits * block + j)
  unfolding in_order
  seen_in_order block j h =
      let which : (block_code_bits * block + j) / block_code_bits ≡ block = omega arith in
      let place : (block_code_bits * block + j) % block_code_bits ≡ j = omega arith in
      rw (which, place)

  words_kept : (n : ℕ) → block_bits * n ≤ length words → length (words_after_blocks kind octets observed costs words n) ≡ length words
  unfolding words_after_blocks
  words_kept zero h = refl
  words_kept (suc n) h =
      let before = words_kept n (omega arith) in
      words_length kind (observed n) octets n (costs_after_blocks kind octets observed costs words n) (words_after_blocks kind octets observed costs words n) (rw before h) ∙ before

  pub holds_blocks : (n : ℕ) → block_bits * n ≤ length words →
      Holds kind (in_order observed) octets n (costs_after_blocks kind octets observed costs words n) (words_after_blocks kind octets observed costs words n)
  unfolding costs_after_blocks words_after_blocks
  holds_blocks zero h = holds_none kind (in_order observed) octets costs words
  holds_blocks (suc n) h =
      holds_more kind (in_order observed) octets n (costs_after_blocks kind octets observed costs words n) (words_after_blocks kind octets observed costs words n) (observed n)
      (rw (words_kept n (omega arith)) h) (seen_in_order n) (holds_blocks n (omega arith))

pub blocks_run : {C : Type 0} (kind : Kind Observation C) → Laws most_charges kind → BlocksRunTheTrellis kind
blocks_run kind laws = record {
  none = holds_none kind;
  more = λ all octets block costs words observed room seen h. holds_more kind all octets block costs words observed room seen h;
  by_what_came = λ all later octets block costs words same h. holds_later kind all octets later block costs words same h;
  traces = holds_traces kind;
  nearest = λ all octets. holds_nearest kind all octets laws;
  whole_frame = λ octets observed costs words le room.
      holds_nearest kind (in_order observed) octets laws
      (costs_after_blocks kind octets observed costs words (blocks octets)) (words_after_blocks kind octets observed costs words (blocks octets)) le
      (holds_blocks kind octets observed costs words (blocks octets) room);
}
