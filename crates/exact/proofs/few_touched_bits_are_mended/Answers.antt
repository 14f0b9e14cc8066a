-- Each touched bit is one difference or one doubtful place at most.
use Rattle.exact.proofs.Few.{few_touched_count, few_touched_graded}
use Rattle.exact.proofs.few_touched_bits_are_mended.Goals as goal

pub returns : goal.returns
returns c = record { count = few_touched_count; graded = few_touched_graded }
