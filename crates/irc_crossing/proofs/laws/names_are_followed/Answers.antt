use Rattle.irc_crossing.proofs.Following.{comers_are_others, names_are_followed, takers_are_others}
use Rattle.irc_crossing.proofs.laws.names_are_followed.Goals as goal

pub returns-clause-renamed : goal.returns-clause-renamed
returns-clause-renamed c = names_are_followed

pub returns-clause-comers : goal.returns-clause-comers
returns-clause-comers c = comers_are_others

pub returns-clause-takers : goal.returns-clause-takers
returns-clause-takers c = takers_are_others
