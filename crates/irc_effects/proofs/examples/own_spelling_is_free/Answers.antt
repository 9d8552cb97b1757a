use Rattle.irc_effects.proofs.ExamplesProved.{own_spelling_is_free}
use Rattle.irc_effects.proofs.examples.own_spelling_is_free.Goals as goal

pub returns : goal.returns
returns c = own_spelling_is_free
