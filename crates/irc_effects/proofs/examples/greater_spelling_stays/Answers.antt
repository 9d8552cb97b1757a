use Rattle.irc_effects.proofs.ExamplesProved.{greater_spelling_stays}
use Rattle.irc_effects.proofs.examples.greater_spelling_stays.Goals as goal

pub returns : goal.returns
returns c = greater_spelling_stays
