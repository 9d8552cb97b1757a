use Rattle.irc_effects.proofs.ExamplesProved.{join_once_more_shows_nothing}
use Rattle.irc_effects.proofs.examples.join_once_more_shows_nothing.Goals as goal

pub returns : goal.returns
returns c = join_once_more_shows_nothing
