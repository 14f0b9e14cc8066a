use Rattle.trellis.proofs.Frames.{blocks_run}
use Rattle.receiver.proofs.Promised.{refusals_by_the_book}
use Rattle.receiver.proofs.promise.the_book_tells_every_refusal.Goals as goal

pub returns : goal.returns
returns g c = refusals_by_the_book g.K.CostKind.kind (blocks_run g.K.CostKind.kind g.met.K.CostKind.lawful)
