use Rattle.irc_effects.proofs.ExamplesProved.{kick_shown_to_kicked}
use Rattle.irc_effects.proofs.examples.kick_shown_to_kicked.Goals as goal

pub returns : goal.returns
returns c = kick_shown_to_kicked
