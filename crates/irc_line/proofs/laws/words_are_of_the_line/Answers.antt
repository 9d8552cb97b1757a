use Rattle.irc_line.proofs.LineWords.{lines_are_carried, words_are_of_the_line}
use Rattle.irc_line.proofs.laws.words_are_of_the_line.Goals as goal

pub returns-clause-lines : goal.returns-clause-lines
returns-clause-lines c = lines_are_carried

pub returns-clause-words : goal.returns-clause-words
returns-clause-words c = words_are_of_the_line
