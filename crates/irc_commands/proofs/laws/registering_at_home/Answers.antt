use Rattle.irc_commands.proofs.HomeDecides.{registering_at_home}
use Rattle.irc_commands.proofs.laws.registering_at_home.Goals as goal

pub returns : goal.returns
returns c = registering_at_home c.home_is_alike.ensures
