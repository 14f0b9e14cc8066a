-- Over any list of calls, the blocks come in order, and their chips are the frame's.
-- Assumes nothing.
use Rattle.std.proofs.Common.{◌≡◌, ℕ, zero, suc, ◌+◌, ◌-◌, ◌*◌, ◌<◌, ◌≤◌, eqb, ◌⊎◌, List, [], ◌∷◌, ◌++◌, map, length, take, sym, refl, ap, ◌∙◌, subst, inl, inr, ⊎_elim, mul_assoc, suc-mul, add-mul, zero-mul, arith}
use Rattle.std.specs.List.{range_with_len, flat_map}
use Rattle.std.proofs.lemmas.Bool.{ltb-true, ltb-false, eqb-true, cases_Bool, cond-true, cond-false, and_left, and_right}
use Rattle.std.proofs.lemmas.List.{take_at, take_all}
use Rattle.linecode.specs.Codes.{Code, Lawful}
use Rattle.codebits.specs.Message.{blocks}
use Rattle.frames.specs.Sent.{psdu_bit, spread_groups, block_groups, block_chips, sent_chips}
use Rattle.frames.proofs.Cuts.{sent_cut}
use Rattle.frames.proofs.Parts.{groups_none, groups_split, groups_length}
use Rattle.frames.proofs.Widths.{few_groups}
use Rattle.sender.specs.Sending.{State, blocks_to_send, frame_by, sent_stream, block_words, pending, answer, next_chips, chips_after, advanced, state_after}
use Rattle.sender.specs.Runs.{Call, fresh, after, Written, noted, written, By, part_of, RunsSend}
use Rattle.sender.proofs.Steps.{is_length_when, most, all_blocks, next_is, is_written, answer_written, state_written}

abbrev room : Call → ℕ
room c = length c.buffer

abbrev news : State → Call → List Written
news s c = noted (answer c.code s (room c)) c.code (chips_after c.code s c.buffer)

-- what a call that writes leaves, and what another leaves
record Writes (s : State) (c : Call) : Type 0 where
  pub left : s.block < blocks_to_send (length s.psdu)
  pub news_is : news s c ≡ record { number = s.block; code = c.code; chips = next_chips c.code s } ∷ []
  pub state_is : state_after c.code s (room c) ≡ advanced s

record Refuses (s : State) (c : Call) : Type 0 where
  pub no_news : news s c ≡ []
  pub state_is : state_after c.code s (room c) ≡ s

either : (s : State) (c : Call) → Writes s c ⊎ Refuses s c
either s c =
    let k : Code = c.code in
    ⊎_elim
    (λ p.
    ⊎_elim
    (λ r.
    let left : s.block < blocks_to_send (length s.psdu) = ltb-true _ _ p in
    let fits : room c ≡ block_chips k = eqb-true _ _ r in
    inl (record {
      left = left;
      news_is = ap (λ a. noted a k (chips_after k s c.buffer)) (answer_written k s (room c) left fits)
          ∙ ap (λ xs. record { number = s.block; code = k; chips = xs } ∷ []) (cond-true _ _ _ (is_written k s (room c) left fits));
      state_is = state_written k s (room c) left fits;
    }))
    (λ r. inr (record {
      no_news = ap (λ a. noted a k (chips_after k s c.buffer)) (cond-true (pending s) _ _ p ∙ cond-false (eqb (room c) (block_chips k)) _ _ r);
      state_is = cond-false _ _ _ (and_right (pending s) (eqb (room c) (block_chips k)) r);
    }))
    (cases_Bool (eqb (room c) (block_chips k))))
    (λ p. inr (record {
      no_news = ap (λ a. noted a k (chips_after k s c.buffer)) (cond-false (pending s) _ _ p);
      state_is = cond-false _ _ _ (and_left (pending s) (eqb (room c) (block_chips k)) p);
    }))
    (cases_Bool (pending s))

-- a fact about the blocks that are written, by the two ways of the first call
by_calls :
    (P : State → List Call → List Written → Type 0) → ((s : State) → P s [] []) →
    ((s : State) (c : Call) (cs : List Call) → Writes s c → P (advanced s) cs (written (advanced s) cs) →
    P s (c ∷ cs) (record { number = s.block; code = c.code; chips = next_chips c.code s } ∷ written (advanced s) cs)) →
    ((s : State) (c : Call) (cs : List Call) → Refuses s c → P s cs (written s cs) → P s (c ∷ cs) (written s cs)) →
    (s : State) (cs : List Call) → P s cs (written s cs)
unfolding written
by_calls P none more same s [] = none s
by_calls P none more same s (c ∷ cs) =
    ⊎_elim
    (λ w. rw (w.news_is, w.state_is) (more s c cs w (by_calls P none more same (advanced s) cs)))
    (λ r. rw (r.no_news, r.state_is) (same s c cs r (by_calls P none more same s cs)))
    (either s c)

-- the blocks from the cursor's block on, in order
numbers : (s : State) (cs : List Call) → map (λ w. w.number) (written s cs) ≡ range_with_len s.block (length (written s cs))
numbers =
    by_calls (λ s cs ws. map (λ w. w.number) ws ≡ range_with_len s.block (length ws)) (λ s. refl)
    (λ s c cs w ih. ap (λ xs. s.block ∷ xs) ih) (λ s c cs r ih. ih)

bounded : (s : State) (cs : List Call) → s.block ≤ blocks_to_send (length s.psdu) → s.block + length (written s cs) ≤ blocks_to_send (length s.psdu)
bounded =
    by_calls (λ s cs ws. s.block ≤ blocks_to_send (length s.psdu) → s.block + length ws ≤ blocks_to_send (length s.psdu)) (λ s h. omega arith)
    (λ s c cs w ih h. omega (arith, ih (omega (arith, w.left)))) (λ s c cs r ih h. ih h)

parts_are : (s : State) (cs : List Call) → map (λ w. w.chips) (written s cs) ≡ map (part_of s) (written s cs)
parts_are =
    by_calls (λ s cs ws. map (λ w. w.chips) ws ≡ map (part_of s) ws) (λ s. refl)
    (λ s c cs w ih. ap (λ xs. next_chips c.code s ∷ xs) ih) (λ s c cs r ih. ih)

-- a list of calls moves on by the blocks that it writes
abbrev Moved : State → State → ℕ → Type 0
Moved s t n = (t.block ≡ s.block + n) × (t.psdu ≡ s.psdu)

moves_on : (s : State) (cs : List Call) → Moved s (after s cs) (length (written s cs))
unfolding after
moves_on =
    by_calls (λ s cs ws. Moved s (after s cs) (length ws)) (λ s. (omega arith, refl))
    (λ s c cs w ih. subst (λ (t : State). Moved s (after t cs) (suc (length (written (advanced s) cs)))) (sym w.state_is) (omega (arith, ih.0), ih.1))
    (λ s c cs r ih. subst (λ (t : State). Moved s (after t cs) (length (written s cs))) (sym r.state_is) ih)

-- by one line code, the words of the groups from the cursor's block on
module _ (k : Code) (l : Lawful k) where
  words : (s : State) (cs : List Call) → By k cs → flat_map (λ w. w.chips) (written s cs) ≡ spread_groups k (sent_stream s) (s.block * block_groups k) (length (written s cs) * block_groups k)
  words =
      by_calls (λ s cs ws. By k cs → flat_map (λ w. w.chips) ws ≡ spread_groups k (sent_stream s) (s.block * block_groups k) (length ws * block_groups k)) none more
      (λ s c cs r ih by. ih by.1)
    where
      none : (s : State) → By k [] → [] ≡ spread_groups k (sent_stream s) (s.block * block_groups k) (0 * block_groups k)
      none s by = sym (ap (spread_groups k (sent_stream s) (s.block * block_groups k)) (zero-mul (block_groups k)) ∙ groups_none k (sent_stream s) (s.block * block_groups k))

      more : (s : State) (c : Call) (cs : List Call) → Writes s c →
          (By k cs → flat_map (λ w. w.chips) (written (advanced s) cs) ≡ spread_groups k (sent_stream s) ((s.block + 1) * block_groups k) (length (written (advanced s) cs) * block_groups k)) →
          By k (c ∷ cs) → next_chips c.code s ++ flat_map (λ w. w.chips) (written (advanced s) cs) ≡ spread_groups k (sent_stream s) (s.block * block_groups k) (suc (length (written (advanced s) cs)) * block_groups k)
      more s c cs w ih by =
          let g : ℕ = block_groups k in
          let n : ℕ = length (written (advanced s) cs) in
          let first : next_chips c.code s ≡ block_words k s g = ap (λ x. next_chips x s) by.0 ∙ next_is k l s w.left in
          let rest : flat_map (λ w. w.chips) (written (advanced s) cs) ≡ spread_groups k (sent_stream s) (s.block * g + g) (n * g)
          = ih by.1 ∙ ap (λ x. spread_groups k (sent_stream s) x (n * g)) (omega (arith, add-mul s.block 1 g)) in
          let whole : g + n * g ≡ suc n * g = omega (arith, suc-mul n g) in
          let cut = groups_split k (sent_stream s) (s.block * g) g (n * g) in
          ap (λ xs. xs ++ flat_map (λ w. w.chips) (written (advanced s) cs)) first
          ∙ (ap (λ xs. block_words k s g ++ xs) rest ∙ (sym cut ∙ ap (spread_groups k (sent_stream s) (s.block * g)) whole))

  -- n of the blocks of a frame are its chips from the first on
  front : (s : State) (n : ℕ) → n ≤ blocks_to_send (length s.psdu) → spread_groups k (sent_stream s) 0 (n * block_groups k) ≡ take (n * block_chips k) (sent_chips (frame_by k s) s.psdu)
  unfolding psdu_bit
  front s zero h = ap (spread_groups k (sent_stream s) 0) (zero-mul (block_groups k)) ∙ (groups_none k (sent_stream s) 0 ∙ sym (ap (λ x. take x (sent_chips (frame_by k s) s.psdu)) (zero-mul (block_chips k))))
  front s (suc n) h =
      let g : ℕ = block_groups k in
      let octets : ℕ = length s.psdu in
      let can = is_length_when octets 0 (omega arith) in
      let all = all_blocks octets can in
      let few = most octets can in
      let rest : ℕ = blocks octets - suc n in
      let whole : blocks octets * g ≡ suc n * g + rest * g = let e : blocks octets ≡ suc n + rest = omega arith in ap (λ x. x * g) e ∙ add-mul (suc n) rest g in
      let size = groups_length k (sent_stream s) l 0 (suc n * g) (omega (arith, few_groups (suc n) k.bits l.width)) in
      sym (ap (take (suc n * block_chips k)) (ap (spread_groups k (sent_stream s) 0) whole ∙ groups_split k (sent_stream s) 0 (suc n * g) (rest * g))
      ∙ take_at _ _ (suc n * block_chips k) (size ∙ mul_assoc (suc n) g k.chips))

pub runs_send : RunsSend
runs_send q d e cs =
    let s : State = fresh q d e in
    let octets : ℕ = length q in
    let n : ℕ = length (written s cs) in
    let bound = bounded s cs (omega arith) in
    let no_more : n ≤ blocks_to_send octets = omega arith in
    let together : (k : Code) → Lawful k → By k cs → flat_map (λ w. w.chips) (written s cs) ≡ take (n * block_chips k) (sent_chips (frame_by k s) q)
    = λ k l by. words k l s cs by ∙ (ap (λ x. spread_groups k (sent_stream s) x (n * block_groups k)) (zero-mul (block_groups k)) ∙ front k l s n no_more) in
    record {
      in_order = numbers s cs;
      no_more = no_more;
      parts = parts_are s cs;
      together = together;
      finished = λ k l by can done.
          let moved = moves_on s cs in
          let over = ltb-false _ _ done in
          let all = all_blocks octets can in
          let end : n ≡ blocks octets = omega (arith, moved.0, ap (λ xs. blocks_to_send (length xs)) moved.1) in
          let whole = sent_cut.whole (frame_by k s) q l (most octets can) in
          together k l by ∙ take_all (n * block_chips k) (sent_chips (frame_by k s) q) (omega (arith, ap (λ x. x * block_chips k) end, mul_assoc (blocks octets) (block_groups k) k.chips));
    }
