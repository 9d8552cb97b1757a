use Rattle.irc_world.proofs.ServedAlone.{one_server_has_no_link}
use Rattle.irc_world.proofs.laws.one_server_has_no_link.Goals as goal

pub returns : goal.returns
returns c = one_server_has_no_link
