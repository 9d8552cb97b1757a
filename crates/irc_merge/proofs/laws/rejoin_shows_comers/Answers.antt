use Rattle.irc_merge.proofs.Rejoined.{sides_agree, rejoin_shows_comers, rejoin_shows_only_comers}
use Rattle.irc_merge.proofs.laws.rejoin_shows_comers.Goals as goal

pub returns-clause-agree : goal.returns-clause-agree
returns-clause-agree c = sides_agree

pub returns-clause-comers : goal.returns-clause-comers
returns-clause-comers c = rejoin_shows_comers

pub returns-clause-only : goal.returns-clause-only
returns-clause-only c = rejoin_shows_only_comers
