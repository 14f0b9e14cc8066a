use Rattle.costs.specs.Kinds.{count_kind, graded_kind}
use Rattle.costs.specs.TwoKinds.{count_laws, graded_laws}
use Rattle.trellis.proofs.Frames.{blocks_run}
use Rattle.promise.proofs.Sent.{count_returns, graded_returns}
use Rattle.promise.proofs.accepted_closes_return_what_was_sent.Goals as goal

pub returns : goal.returns
returns c = record { count = count_returns (blocks_run count_kind count_laws); graded = graded_returns (blocks_run graded_kind graded_laws) }
