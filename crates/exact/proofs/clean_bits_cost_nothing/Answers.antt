-- Neither kind charges for a sure bit that is claimed as observed.
use Rattle.exact.proofs.Few.{clean_count, clean_graded}
use Rattle.exact.proofs.clean_bits_cost_nothing.Goals as goal

pub returns : goal.returns
returns c = record { count = clean_count; graded = clean_graded }
