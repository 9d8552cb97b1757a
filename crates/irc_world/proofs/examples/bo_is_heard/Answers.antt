use Rattle.irc_world.proofs.BoSpeaks.{bo_is_heard}
use Rattle.irc_world.proofs.examples.bo_is_heard.Goals as goal

pub returns : goal.returns
returns c = bo_is_heard
