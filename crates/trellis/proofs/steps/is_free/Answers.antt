use Rattle.std.proofs.Common.{rules}
use Rattle.nearest.specs.Trellis.{free}
use Rattle.trellis.proofs.steps.is_free.Goals as goal

pub returns : goal.returns
unfolding free
returns c = search rules
