use Rattle.irc_effects.proofs.ExamplesProved.{join_shown_to_all}
use Rattle.irc_effects.proofs.examples.join_shown_to_all.Goals as goal

pub returns : goal.returns
returns c = join_shown_to_all
