-- What the two kinds tell is a number of differences.
use Rattle.costs.proofs.Tallies.{count_is, graded_is}
use Rattle.costs.proofs.costs_are_the_differences.Goals as goal

pub returns : goal.returns
returns c = record { count = count_is; graded = graded_is }
