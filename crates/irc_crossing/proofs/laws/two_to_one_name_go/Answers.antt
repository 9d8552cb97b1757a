use Rattle.irc_crossing.proofs.Following.{two_to_one_name_go}
use Rattle.irc_crossing.proofs.laws.two_to_one_name_go.Goals as goal

pub returns : goal.returns
returns c = two_to_one_name_go
