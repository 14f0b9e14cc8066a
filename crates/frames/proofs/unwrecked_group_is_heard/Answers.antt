use Rattle.frames.proofs.Agrees.{unwrecked_heard}
use Rattle.frames.proofs.unwrecked_group_is_heard.Goals as goal

pub returns : goal.returns
returns c = unwrecked_heard
