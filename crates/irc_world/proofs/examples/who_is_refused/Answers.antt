use Rattle.irc_world.proofs.ExamplesProved.{who_is_refused}
use Rattle.irc_world.proofs.examples.who_is_refused.Goals as goal

pub returns : goal.returns
returns c = who_is_refused
