use Rattle.irc_crossing.proofs.Nothing.{nothing_is_asked, nothing_is_changed, nothing_is_logged}
use Rattle.irc_crossing.proofs.Nothing.{nothing_is_raised}
use Rattle.irc_crossing.proofs.laws.nothing_crossed.Goals as goal

pub returns-clause-changed : goal.returns-clause-changed
returns-clause-changed c = nothing_is_changed

pub returns-clause-asked : goal.returns-clause-asked
returns-clause-asked c = nothing_is_asked

pub returns-clause-raised : goal.returns-clause-raised
returns-clause-raised c = nothing_is_raised

pub returns-clause-logged : goal.returns-clause-logged
returns-clause-logged c = nothing_is_logged
