use Rattle.irc_crossing.proofs.Following.{who_is_gone_is_left_out}
use Rattle.irc_crossing.proofs.laws.who_is_gone_is_left_out.Goals as goal

pub returns : goal.returns
returns c = who_is_gone_is_left_out
