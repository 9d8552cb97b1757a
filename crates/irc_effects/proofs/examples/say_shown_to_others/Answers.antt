use Rattle.irc_effects.proofs.ExamplesProved.{say_shown_to_others}
use Rattle.irc_effects.proofs.examples.say_shown_to_others.Goals as goal

pub returns : goal.returns
returns c = say_shown_to_others
