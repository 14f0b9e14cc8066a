use Rattle.header.proofs.Parities.{sum_is}
use Rattle.header.proofs.fields.Phr.parity.Goals as goal

pub returns : goal.returns
returns c = sum_is c.args.self.bits c.args.place 7
