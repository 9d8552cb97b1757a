use Rattle.irc_merge.proofs.GivenBack.{rejoin_gives_all_back, rejoin_gives_back}
use Rattle.irc_merge.proofs.laws.rejoin_gives_back.Goals as goal

pub returns-clause-but_ended : goal.returns-clause-but_ended
returns-clause-but_ended c = rejoin_gives_back

pub returns-clause-whole : goal.returns-clause-whole
returns-clause-whole c = rejoin_gives_all_back
