use Rattle.std.proofs.Common.{◌≡◌, ℕ, ◌+◌, ◌*◌, ◌<◌, [], ◌∷◌, length, get_or}
use Rattle.codebits.specs.Message.{message_bit}
use Rattle.codebits.specs.Convolution.{code_bit}
use Rattle.sender.specs.Stored.{last_six}
use Rattle.sender.proofs.coding.encode_block.Given as goal

-- The register is that before message bit 88 × block + k, and the code bits of those before it are written.
abbrev pub invariant-loop-k : goal.invariant-loop-k
invariant-loop-k l =
    (l.register.bits ≡ last_six (message_bit l.psdu) (88 * l.block + l.k))
    × ((i : ℕ) → i < l.k → get_or l.coded i [] ≡ code_bit (message_bit l.psdu) (176 * l.block + 2 * i) ∷ code_bit (message_bit l.psdu) (176 * l.block + 2 * i + 1) ∷ [])
    × (length l.coded ≡ 88)
