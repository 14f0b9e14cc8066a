use Rattle.std.proofs.Common.{sym, arith}
use Rattle.codebits.proofs.Places.{origin_rows}
use Rattle.sender.proofs.coding.origin_of.Goals as goal

pub returns : goal.returns
returns c = record { value = sym (origin_rows c.args.p c.requires); within = omega arith }
