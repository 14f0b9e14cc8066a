use Rattle.frames.proofs.Cuts.{sent_cut}
use Rattle.frames.proofs.sent_chips_are_cut.Goals as goal

pub returns : goal.returns
returns c = sent_cut
