use Rattle.trellis.proofs.Frames.{blocks_run}
use Rattle.receiver.proofs.Promised.{accepted_closes_nearest}
use Rattle.receiver.proofs.promise.accepted_closes_are_nearest.Goals as goal

pub returns : goal.returns
returns g c = accepted_closes_nearest g.K.CostKind.kind (blocks_run g.K.CostKind.kind g.met.K.CostKind.lawful)
