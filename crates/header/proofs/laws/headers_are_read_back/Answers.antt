use Rattle.header.proofs.Back.{headers_back}
use Rattle.header.proofs.laws.headers_are_read_back.Goals as goal

pub returns : goal.returns
returns c = headers_back
