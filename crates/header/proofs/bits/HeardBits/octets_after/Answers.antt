use Rattle.std.proofs.Common.{ℕ, ◌+◌, ◌-◌, ◌*◌, arith}
use Rattle.frames.proofs.Parts.{part_ends}
use Rattle.header.proofs.bits.HeardBits.octets_after.Goals as goal

pub encoded-self-requires-clause-within : goal.encoded-self-requires-clause-within
encoded-self-requires-clause-within g c =
    let n : ℕ = (g.L.LineCode.code c.args.self.now.line.now).chips in
    omega (arith, part_ends (8 * (c.args.preamble + 3)) n (8 * c.args.preamble - 1) (omega arith), c.requires.room)
