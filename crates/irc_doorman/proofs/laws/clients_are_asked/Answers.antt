use Rattle.irc_doorman.proofs.Examples.{lines_are_judged, texts_are_so, words_are_one}
use Rattle.irc_doorman.proofs.laws.clients_are_asked.Goals as goal

pub returns-clause-texts : goal.returns-clause-texts
returns-clause-texts c = texts_are_so

pub returns-clause-lines : goal.returns-clause-lines
returns-clause-lines c = lines_are_judged

pub returns-clause-words : goal.returns-clause-words
returns-clause-words c = words_are_one
