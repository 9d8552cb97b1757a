use Rattle.irc_crossing.proofs.Examples.{begun_is_asked, comer_is_brought, ended_is_asked}
use Rattle.irc_crossing.proofs.Examples.{next_is_unset, others_are_not_asked}
use Rattle.irc_crossing.proofs.Examples.{raises_behind_out, spelling_stays}
use Rattle.irc_crossing.proofs.laws.ended_channels.Goals as goal

pub returns-clause-unset : goal.returns-clause-unset
returns-clause-unset c = next_is_unset

pub returns-clause-ended : goal.returns-clause-ended
returns-clause-ended c = ended_is_asked

pub returns-clause-begun : goal.returns-clause-begun
returns-clause-begun c = begun_is_asked

pub returns-clause-brought : goal.returns-clause-brought
returns-clause-brought c = comer_is_brought

pub returns-clause-others : goal.returns-clause-others
returns-clause-others c = others_are_not_asked

pub returns-clause-spelled : goal.returns-clause-spelled
returns-clause-spelled c = spelling_stays

pub returns-clause-raised : goal.returns-clause-raised
returns-clause-raised c = raises_behind_out
