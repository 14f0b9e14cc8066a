use Rattle.frames.proofs.Agrees.{sent_heard}
use Rattle.frames.proofs.sent_chips_are_heard.Goals as goal

pub returns : goal.returns
returns c = sent_heard
