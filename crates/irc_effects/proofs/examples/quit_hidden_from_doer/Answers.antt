use Rattle.irc_effects.proofs.ExamplesProved.{quit_hidden_from_doer}
use Rattle.irc_effects.proofs.examples.quit_hidden_from_doer.Goals as goal

pub returns : goal.returns
returns c = quit_hidden_from_doer
