use Rattle.irc_effects.specs.Lemmas.HomeRooms.{home_of_home}
use Rattle.irc_effects.proofs.invitation_laws.home_of_home.Goals as goal

pub returns : goal.returns
returns c = home_of_home
