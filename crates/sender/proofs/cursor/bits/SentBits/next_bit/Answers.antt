use Rattle.std.proofs.Common.{◌≡◌, ℕ, ◌+◌, ◌*◌, ◌/◌, ◌%◌, ◌<◌, Bool, false, not, ◌&&◌, List, [], get_or, ap, sym, ◌∙◌}
use mathlib.Core.Bool.{beq}
use Rattle.codebits.specs.Interleaving.{origin_in}
use Rattle.sender.specs.Sending.{State, sent_stream, sent_before}
use Rattle.sender.specs.Stored.{IsCoded}
use Rattle.sender.proofs.Streams.{before_more, bit_sent}
use Rattle.sender.proofs.cursor.bits.SentBits.next_bit.Goals as goal

-- the bit that is made at place p, by the code bits and the bit before it
made : (s : State) (coded : List (List Bool)) → IsCoded s.psdu s.block coded → (p o : ℕ) (differential last : Bool) →
    p < 176 → o ≡ origin_in p → s.differential ≡ differential → last ≡ sent_before s p →
    not (beq (get_or (get_or coded (o / 2) []) (o % 2) false) (differential && last)) ≡ sent_stream s (176 * s.block + p)
made s coded is p o differential last h at set before = bit_sent s coded is p h _ (cc)

pub invariant_of-self : goal.invariant_of-self
invariant_of-self c =
    let self = c.args.self.now in
    let s : State = self.cursor.now in
    record { code = self.code; before = made s self.coded.now self.code self.place _ _ _ c.requires c.origin_of-origin.ensures.value (ap (λ (t : State). t.differential) (sym c.cursor.view_is)) self.before ∙ sym (before_more s self.place) }

pub returns-clause-bit : goal.returns-clause-bit
returns-clause-bit c =
    let self = c.args.self.now in
    made self.cursor.now self.coded.now self.code self.place _ _ _ c.requires c.origin_of-origin.ensures.value (ap (λ (t : State). t.differential) (sym c.cursor.view_is)) self.before
