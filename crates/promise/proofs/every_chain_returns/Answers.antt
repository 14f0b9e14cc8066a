use Rattle.costs.specs.Kinds.{count_kind, graded_kind}
use Rattle.costs.specs.TwoKinds.{count_laws, graded_laws}
use Rattle.trellis.proofs.Frames.{blocks_run}
use Rattle.promise.proofs.Clean.{clean_by_count, clean_by_graded}
use Rattle.promise.proofs.Chain.{chain_returns}
use Rattle.promise.proofs.every_chain_returns.Goals as goal

pub returns : goal.returns
returns c = record {
  count = chain_returns count_kind (clean_by_count (blocks_run count_kind count_laws));
  graded = chain_returns graded_kind (clean_by_graded (blocks_run graded_kind graded_laws));
}
