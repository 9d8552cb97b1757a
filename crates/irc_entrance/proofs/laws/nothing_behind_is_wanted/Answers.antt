use Rattle.irc_entrance.proofs.ProxyPast.{nothing_behind_is_wanted}
use Rattle.irc_entrance.proofs.laws.nothing_behind_is_wanted.Goals as goal

pub returns : goal.returns
returns c = nothing_behind_is_wanted
