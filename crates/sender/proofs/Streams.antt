-- The bits of a PSDU as they are sent, one after the other.
-- Assumes nothing.
use Rattle.std.proofs.Common.{◌≡◌, ℕ, suc, ◌+◌, ◌*◌, ◌/◌, ◌%◌, ◌<◌, Bool, false, not, ◌&&◌, List, [], get_or, sym, ap, ◌∙◌, ◌⊎◌, ⊎_elim, inl, inr, arith}
use Rattle.std.proofs.lemmas.Bool.{cases_eq}
use Rattle.codebits.specs.Message.{message_bit}
use Rattle.codebits.specs.Convolution.{code_bit}
use mathlib.Core.Bool.{beq}
use Rattle.codebits.specs.Bits.{◌⊕◌, previous}
use Rattle.codebits.specs.Interleaving.{origin_in, origin}
use Rattle.codebits.proofs.Coding.{xor_is, sent_step}
use Rattle.codebits.proofs.Places.{origin_within}
use Rattle.frames.specs.Sent.{interleaved}
use Rattle.sender.specs.Stored.{last_sent, IsCoded}
use Rattle.sender.specs.Sending.{State, sent_stream, sent_before}

even_or_odd : (n : ℕ) → (n % 2 ≡ 0) ⊎ (n % 2 ≡ 1)
even_or_odd n = ⊎_elim (λ e. inl e) (λ e. inr (omega arith)) (cases_eq (n % 2) 0)

-- the interleaved bits of a block
pub interleaved_at : (q : List ℕ) (b : ℕ) (coded : List (List Bool)) → IsCoded q b coded → (p : ℕ) → p < 176
    → get_or (get_or coded (origin_in p / 2) []) (origin_in p % 2) false ≡ interleaved q (176 * b + p)
unfolding origin
interleaved_at q b coded (long, code) p h =
    let o : ℕ = origin_in p in
    let row : (176 * b + p) / 176 ≡ b = omega arith in
    let column : (176 * b + p) % 176 ≡ p = omega arith in
    let within = origin_within p h in
    let pair = code (o / 2) (omega arith) in
    rw (row, column)
    (⊎_elim
    (λ (e : o % 2 ≡ 0). rw (pair, e) (ap (code_bit (message_bit q)) (omega arith)))
    (λ (e : o % 2 ≡ 1). rw (pair, e) (ap (code_bit (message_bit q)) (omega arith)))
    (even_or_odd o))

-- the bit sent before the next place
pub before_more : (s : State) (p : ℕ) → sent_before s (p + 1) ≡ sent_stream s (176 * s.block + p)
unfolding last_sent
before_more s p = let at : 176 * s.block + (p + 1) ≡ suc (176 * s.block + p) = omega arith in ap (previous s.last (sent_stream s)) at

pub bit_sent : (s : State) (coded : List (List Bool)) → IsCoded s.psdu s.block coded → (p : ℕ) → p < 176 → (bit : Bool)
    → bit ≡ not (beq (get_or (get_or coded (origin_in p / 2) []) (origin_in p % 2) false) (s.differential && sent_before s p)) → bit ≡ sent_stream s (176 * s.block + p)
unfolding last_sent
bit_sent s coded is p h bit e =
    e ∙ (xor_is (get_or (get_or coded (origin_in p / 2) []) (origin_in p % 2) false) (s.differential && sent_before s p)
    ∙ (ap (λ b. b ⊕ (s.differential && sent_before s p)) (interleaved_at s.psdu s.block coded is p h) ∙ sym (sent_step s.differential s.last (interleaved s.psdu) (176 * s.block + p))))
