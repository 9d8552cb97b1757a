use Rattle.irc_effects.proofs.NameWords.{names_are_line_words}
use Rattle.irc_effects.proofs.laws.names_are_line_words.Goals as goal

pub returns : goal.returns
returns c = names_are_line_words
