use Rattle.irc_entrance.proofs.ProxyPast.{headers_are_taken}
use Rattle.irc_entrance.proofs.laws.headers_are_taken.Goals as goal

pub returns : goal.returns
returns c = headers_are_taken
