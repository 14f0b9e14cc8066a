-- Each code bit that is not touched by a wrecked group is read as sent.
use Rattle.wrecked.proofs.Few.{few_wrecked_mended}
use Rattle.wrecked.proofs.few_wrecked_groups_are_mended.Goals as goal

pub returns : goal.returns
returns c = few_wrecked_mended
