-- What the call for the next block answers and leaves where it writes a block.
-- Assumes nothing.
use Rattle.std.proofs.Common.{◌≡◌, ℕ, ◌<◌, ◌≤◌, true, leb, length, Some, Ok, ◌∙◌, subst, ⊎_elim, arith}
use Rattle.std.proofs.lemmas.Bool.{lt-ltb, eq-eqb, and_from, and_parts, leb-true, cond-true, cond-false, cases_Bool}
use Rattle.linecode.specs.Codes.{Code, Lawful}
use Rattle.codebits.specs.Message.{blocks, is_length}
use Rattle.frames.specs.Sent.{psdu_bit, block_groups, block_chips}
use Rattle.frames.proofs.Cuts.{sent_cut}
use Rattle.sender.specs.Sending.{State, blocks_to_send, frame_by, pending, answer, writes, block_words, next_chips, advanced, state_after}

-- a PSDU with a block to send has the right length
pub is_length_when : (octets b : ℕ) → b < blocks_to_send octets → is_length octets ≡ true
is_length_when octets b h =
    ⊎_elim (λ t. t) (λ f. let none : b < 0 = subst (λ (n : ℕ). b < n) (cond-false (is_length octets) (blocks octets) 0 f) h in absurd (omega arith))
    (cases_Bool (is_length octets))

module _ (octets : ℕ) (can : is_length octets ≡ true) where
  pub most : octets ≤ 2047
  most = leb-true octets 2047 (and_parts (leb 4 octets) (leb octets 2047) can).1

  pub all_blocks : blocks_to_send octets ≡ blocks octets
  all_blocks = cond-true (is_length octets) (blocks octets) 0 can

-- the block's part of the frame's chips is its words
pub next_is : (k : Code) → Lawful k → (s : State) → s.block < blocks_to_send (length s.psdu) → next_chips k s ≡ block_words k s (block_groups k)
unfolding psdu_bit
next_is k l s left =
    let octets : ℕ = length s.psdu in
    let can = is_length_when octets s.block left in
    let all = all_blocks octets can in
    sent_cut.block (frame_by k s) s.psdu l (most octets can) s.block (omega arith)

module _ (k : Code) (s : State) (room : ℕ) (left : s.block < blocks_to_send (length s.psdu)) (fits : room ≡ block_chips k) where
  is_pending : pending s ≡ true
  is_pending = lt-ltb _ _ left

  pub is_written : writes k s room ≡ true
  is_written = and_from _ _ is_pending (eq-eqb _ _ fits)

  pub answer_written : answer k s room ≡ Ok (Some s.block)
  answer_written = cond-true (pending s) _ _ is_pending ∙ cond-true _ _ _ (eq-eqb _ _ fits)

  pub state_written : state_after k s room ≡ advanced s
  state_written = cond-true (writes k s room) _ _ is_written
