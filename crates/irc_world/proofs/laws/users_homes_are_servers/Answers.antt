use Rattle.irc_world.proofs.HomesKept.{users_homes_are_servers}
use Rattle.irc_world.proofs.laws.users_homes_are_servers.Goals as goal

pub returns : goal.returns
returns c = users_homes_are_servers c.step_keeps_homes.ensures c.step_stays_sound.ensures
