-- A buffer that is filled block by block.
-- Assumes nothing.
use Rattle.std.proofs.Common.{◌≡◌, ℕ, ◌+◌, ◌-◌, ◌*◌, ◌^◌, ◌<◌, ◌≤◌, min, Bool, true, false, eqb, List, ◌++◌, length, take, drop, Some, None, Ok, Err, sym, refl, ap, ◌∙◌, subst, ⊎_elim, mul_assoc, add-mul, zero-add, zero-mul, arith, length-drop, length-take}
use borrow.Rule.Slice.PartMut.{put_mid}
use Rattle.std.proofs.lemmas.List.{take_all, take-append-drop}
use Rattle.std.proofs.lemmas.Slice.{take-put_mid}
use Rattle.std.proofs.lemmas.Bool.{cond-true, le-ltb, eq-eqb, cases_lt, cases_Bool, cond-false, and_left, and_from}
use Rattle.std.proofs.lemmas.Nat.{mul-le}
use Rattle.frames.proofs.Widths.{few_groups}
use Rattle.linecode.specs.Codes.{Code, Lawful}
use Rattle.codebits.specs.Message.{blocks, is_length}
use Rattle.frames.specs.Sent.{Frame, spread_groups, block_groups, block_chips, frame_chips, sent_chips, psdu_bit}
use Rattle.frames.proofs.Parts.{part_ends, groups_none, groups_split, groups_length}
use Rattle.sender.specs.Sending.{State, checked, blocks_to_send, sent_stream, frame_by, pending, answer, chips_after, advanced, state_after, writes, Filled, whole_answer, whole_chips}
use Rattle.faults.specs.declared.FaultKind.TheVariants.{PsduLength}
use Rattle.faults.specs.declared.Layer.TheVariants.{Frame as FrameLayer}
use Rattle.faults.specs.Refusals.{fault}
use Rattle.sender.specs.Runs.{fresh}
use Rattle.sender.proofs.Steps.{is_length_when, most, all_blocks, next_is, is_written, answer_written, state_written}

pub filled_none : (k : Code) (q : List ℕ) (d e : Bool) (s : State) (chips : List ℕ) → s ≡ fresh q d e → Filled k s chips
filled_none k q d e s chips is =
    let none : s.block ≡ 0 = ap (λ (t : State). t.block) is in
    let zero_groups : s.block * block_groups k ≡ 0 = ap (λ (x : ℕ). x * block_groups k) none ∙ zero-mul (block_groups k) in
    let zero_chips : s.block * block_chips k ≡ 0 = ap (λ (x : ℕ). x * block_chips k) none ∙ zero-mul (block_chips k) in
    record {
      bound = omega arith;
      front = ap (λ (x : ℕ). take x chips) zero_chips ∙ sym (ap (spread_groups k (sent_stream s) 0) zero_groups ∙ groups_none k (sent_stream s) 0);
    }

-- A block is left or not, and a block's chips are at hand.
module _ (k : Code) (s : State) where
  left_written : s.block < blocks_to_send (length s.psdu) → answer k s (block_chips k) ≡ Ok (Some s.block)
  left_written h = answer_written k s (block_chips k) h refl

  none_left : (room : ℕ) → blocks_to_send (length s.psdu) ≤ s.block → answer k s room ≡ Ok None
  none_left room h = cond-false (pending s) _ _ (le-ltb _ _ h)

  block_left : (n : ℕ) → Ok (Some n) ≡ answer k s (block_chips k) → s.block < blocks_to_send (length s.psdu)
  block_left n is =
      ⊎_elim (λ h. h) (λ h. let z : ◌≡◌ {A = ℕ} 0 1 = cc (none_left (block_chips k) h) in absurd (omega arith)) (cases_lt s.block (blocks_to_send (length s.psdu)))

  block_over : Ok None ≡ answer k s (block_chips k) → blocks_to_send (length s.psdu) ≤ s.block
  block_over is =
      ⊎_elim (λ h. let z : ◌≡◌ {A = ℕ} 0 1 = cc (left_written h) in absurd (omega arith)) (λ h. h) (cases_lt s.block (blocks_to_send (length s.psdu)))

module _ (k : Code) (l : Lawful k) (s : State) (from end : ℕ) (chips slice : List ℕ) (f : Filled k s chips)
    (long : length chips ≡ blocks_to_send (length s.psdu) * block_chips k) (is_from : from ≡ s.block * block_chips k) (is_end : end ≡ min (length chips) (from + block_chips k))
    (is_slice : slice ≡ take (end - from) (drop from chips)) where
  pub starts : from ≤ end
  starts =
      let most = mul-le s.block (block_chips k) (blocks_to_send (length s.psdu)) (block_chips k) f.bound (omega arith) in
      omega arith

  fits : s.block < blocks_to_send (length s.psdu) → length slice ≡ block_chips k
  fits left =
      let most = part_ends (blocks_to_send (length s.psdu)) (block_chips k) s.block left in
      ap length is_slice ∙ simp (length-take, length-drop) (omega arith)

  -- its positions are early
  early : s.block < blocks_to_send (length s.psdu) → s.block * block_groups k + block_groups k ≤ 2 ^ 32
  early h =
      let octets : ℕ = length s.psdu in
      let can = is_length_when octets s.block h in
      omega (arith, all_blocks octets can, most octets can, few_groups (s.block + 1) k.bits l.width, add-mul s.block 1 (block_groups k))

  -- the part is as good as a block's chips
  pub step_answer : answer k s (length slice) ≡ answer k s (block_chips k)
  step_answer = ⊎_elim (λ h. ap (answer k s) (fits h)) (λ h. none_left k s (length slice) h ∙ sym (none_left k s (block_chips k) h)) (cases_lt s.block (blocks_to_send (length s.psdu)))

  stays : (room : ℕ) → blocks_to_send (length s.psdu) ≤ s.block → writes k s room ≡ false
  stays room h = and_left (pending s) _ (le-ltb _ _ h)

  pub step_state : state_after k s (length slice) ≡ state_after k s (block_chips k)
  step_state =
      ⊎_elim (λ h. ap (state_after k s) (fits h)) (λ h. cond-false _ _ _ (stays (length slice) h) ∙ sym (cond-false _ _ _ (stays (block_chips k) h)))
      (cases_lt s.block (blocks_to_send (length s.psdu)))

  more : (m : ℕ) (s' : State) (slice' : List ℕ) → s' ≡ state_after k s (length slice) → slice' ≡ chips_after k s slice → s.block < blocks_to_send (length s.psdu) →
      Filled k s' (put_mid from m chips slice')
  more m s' slice' is_state is_slice' h =
      let b : ℕ = s.block in
      let g : ℕ = block_groups k in
      let stepped : s' ≡ advanced s = is_state ∙ state_written k s (length slice) h (fits h) in
      let words : slice' ≡ spread_groups k (sent_stream s) (b * g) g = is_slice' ∙ (cond-true _ _ _ (is_written k s (length slice) h (fits h)) ∙ next_is k l s h) in
      let size : length slice' ≡ block_chips k = ap length words ∙ groups_length k (sent_stream s) l (b * g) g (early h) in
      let most = part_ends (blocks_to_send (length s.psdu)) (block_chips k) b h in
      let to : (b + 1) * block_chips k ≡ from + block_chips k = omega (arith, add-mul b 1 (block_chips k)) in
      let P : State → Type 0 = λ t. Filled k t (put_mid from m chips slice') in
      subst P (sym stepped)
      record {
        bound = omega arith;
        front =
            take-put_mid from m chips slice' ((b + 1) * block_chips k) (omega arith) (omega (arith, starts))
            ∙ (ap (λ (xs : List ℕ). xs ++ slice') (ap (λ (x : ℕ). take x chips) is_from ∙ f.front)
            ∙ (ap (λ (xs : List ℕ). spread_groups k (sent_stream s) 0 (b * g) ++ xs) words
            ∙ (ap (λ (x : ℕ). spread_groups k (sent_stream s) 0 (b * g) ++ spread_groups k (sent_stream s) x g) (sym (zero-add (b * g)))
            ∙ (sym (groups_split k (sent_stream s) 0 (b * g) g) ∙ ap (spread_groups k (sent_stream s) 0) (omega (arith, add-mul b 1 g))))));
      }

  -- once none is left the chips stay as they are
  kept : (s' : State) (slice' : List ℕ) → s' ≡ state_after k s (length slice) → slice' ≡ chips_after k s slice → blocks_to_send (length s.psdu) ≤ s.block →
      Filled k s' (put_mid from (end - from) chips slice')
  kept s' slice' is_state is_slice' h =
      let same : slice' ≡ take (end - from) (drop from chips) = is_slice' ∙ (cond-false _ _ _ (stays (length slice) h) ∙ is_slice) in
      let whole : put_mid from (end - from) chips slice' ≡ chips
      = ap (put_mid from (end - from) chips) same ∙ (ap (λ (xs : List ℕ). take from chips ++ xs) (take-append-drop (end - from) (drop from chips)) ∙ take-append-drop from chips) in
      let here : s' ≡ s = is_state ∙ cond-false _ _ _ (stays (length slice) h) in
      let P : State → Type 0 = λ t. Filled k t (put_mid from (end - from) chips slice') in
      let Q : List ℕ → Type 0 = λ xs. Filled k s xs in
      subst P (sym here) (subst Q (sym whole) f)

  pub step_filled : (s' : State) (slice' : List ℕ) → s' ≡ state_after k s (length slice) → slice' ≡ chips_after k s slice → Filled k s' (put_mid from (end - from) chips slice')
  step_filled s' slice' is_state is_slice' =
      ⊎_elim (λ h. more (end - from) s' slice' is_state is_slice' h) (λ h. kept s' slice' is_state is_slice' h) (cases_lt s.block (blocks_to_send (length s.psdu)))

-- a cursor that has come some blocks on from s₀
abbrev pub Came : State → State → Type 0
Came s₀ s = s ≡ record { psdu = s₀.psdu; differential = s₀.differential; last = s₀.last; block = s.block }

pub came_none : (q : List ℕ) (d e : Bool) (s : State) → s ≡ fresh q d e → Came (fresh q d e) s
came_none q d e s is = is ∙ ap (λ (b : ℕ). record { psdu = q; differential = d; last = e; block = b }) (sym (ap (λ (t : State). t.block) is))

-- and comes on by one more
pub record CameOn (s₀ s s' : State) : Type 0 where
  pub came : Came s₀ s'
  pub left : s.block < blocks_to_send (length s₀.psdu)
  pub next : s'.block ≡ s.block + 1

pub came_on : (k : Code) (s₀ s s' : State) (n : ℕ) → Came s₀ s → Ok (Some n) ≡ answer k s (block_chips k) → s' ≡ state_after k s (block_chips k) → CameOn s₀ s s'
came_on k s₀ s s' n came some is =
    let h = block_left k s n some in
    let stepped : s' ≡ advanced s = is ∙ state_written k s (block_chips k) h refl in
    let moved : s'.block ≡ s.block + 1 = ap (λ (t : State). t.block) stepped in
    record {
      came = stepped ∙ (ap advanced came ∙ ap (λ (x : ℕ). record { psdu = s₀.psdu; differential = s₀.differential; last = s₀.last; block = x }) (sym moved));
      left = omega (arith, ap (λ (t : State). blocks_to_send (length t.psdu)) came);
      next = moved;
    }

-- once none is left the buffer holds the whole frame
pub filled_all : (k : Code) (s₀ s s' : State) (chips : List ℕ) → Came s₀ s → Ok None ≡ answer k s (block_chips k) → s' ≡ state_after k s (block_chips k) →
    Filled k s' chips → is_length (length s₀.psdu) ≡ true → length chips ≡ blocks_to_send (length s₀.psdu) * block_chips k → chips ≡ sent_chips (frame_by k s₀) s₀.psdu
unfolding psdu_bit
filled_all k s₀ s s' chips came none is f can long =
    let octets : ℕ = length s₀.psdu in
    let over = block_over k s none in
    let stay : s' ≡ s = is ∙ cond-false _ _ _ (and_left (pending s) _ (le-ltb _ _ over)) in
    let Q : State → Type 0 = λ t. Filled k t chips in
    let now : Filled k s chips = subst Q stay f in
    let same : length s.psdu ≡ octets = ap (λ (t : State). length t.psdu) came in
    let all : s.block ≡ blocks octets = omega (arith, all_blocks octets can, now.bound, ap blocks_to_send same) in
    let whole : length chips ≤ s.block * block_chips k = omega (arith, ap (λ (x : ℕ). x * block_chips k) all, ap (λ (x : ℕ). x * block_chips k) (all_blocks octets can)) in
    sym (take_all (s.block * block_chips k) chips whole)
    ∙ (now.front ∙ (ap (λ (t : State). spread_groups k (sent_stream t) 0 (s.block * block_groups k)) came ∙ ap (λ (x : ℕ). spread_groups k (sent_stream s₀) 0 (x * block_groups k)) all))

-- what the call answers and leaves where it is not refused
pub checked_ok : (octets : ℕ) (u : Unit {0}) → Ok u ≡ checked octets → is_length octets ≡ true
checked_ok octets u e =
    ⊎_elim (λ t. t)
    (λ no.
    let refused : checked octets ≡ Err (fault PsduLength octets FrameLayer) = cond-false (is_length octets) _ _ no in
    let z : ◌≡◌ {A = ℕ} 0 1 = cc in
    absurd (omega arith))
    (cases_Bool (is_length octets))

module _ (k : Code) (s : State) where
  abbrev frame : Frame
  frame = frame_by k s

  whole_room : (room : ℕ) → is_length (length s.psdu) ≡ true → room ≡ blocks_to_send (length s.psdu) * block_chips k → eqb room (frame_chips frame) ≡ true
  whole_room room can e =
      eq-eqb room (frame_chips frame) (e ∙ (ap (λ (x : ℕ). x * block_chips k) (all_blocks (length s.psdu) can) ∙ sym (mul_assoc (blocks (length s.psdu)) (block_groups k) k.chips)))

  pub whole_answer_lem : (room : ℕ) → is_length (length s.psdu) ≡ true → room ≡ blocks_to_send (length s.psdu) * block_chips k → whole_answer frame room ≡ Ok (blocks (length s.psdu))
  whole_answer_lem room can e = cond-true (is_length (length s.psdu)) _ _ can ∙ cond-true _ _ _ (whole_room room can e)

  pub whole_chips_lem : (chips : List ℕ) → is_length (length s.psdu) ≡ true → length chips ≡ blocks_to_send (length s.psdu) * block_chips k → whole_chips frame s.psdu chips ≡ sent_chips frame s.psdu
  whole_chips_lem chips can e = cond-true _ _ _ (and_from _ _ can (whole_room (length chips) can e))
