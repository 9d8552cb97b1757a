use Rattle.irc_commands.proofs.HomeDecides.{home_is_alike_for_its_own}
use Rattle.irc_commands.proofs.laws.home_is_alike_for_its_own.Goals as goal

pub returns : goal.returns
returns c = home_is_alike_for_its_own c.home_is_alike.ensures c.home_knows_its_invited.ensures
