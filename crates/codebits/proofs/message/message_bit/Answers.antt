use Rattle.std.proofs.Common.{sym, ap, arith, ◌%◌}
use Rattle.codebits.specs.Bits.{bit_at}
use Rattle.codebits.specs.Message.{message_bit}
use Rattle.codebits.proofs.Listed.{message_past}
use Rattle.codebits.proofs.message.message_bit.Goals as goal

pub returns-in-Some : goal.returns-in-Some
unfolding message_bit
returns-in-Some c = record { answer = ap (λ octet. bit_at octet (c.args.k % 8)) (c.in-Some.ensures.lookup.3.1 0) }

pub returns-in-None : goal.returns-in-None
returns-in-None c = let h = c.in-None.ensures.lookup in record { answer = sym (message_past c.args.psdu.now c.args.k (omega (arith, h))) }
