use Rattle.irc_effects.proofs.ExamplesProved.{rename_shown_once}
use Rattle.irc_effects.proofs.examples.rename_shown_once.Goals as goal

pub returns : goal.returns
returns c = rename_shown_once
