use Rattle.irc_world.proofs.HomesJoined.{users_homes_are_joined}
use Rattle.irc_world.proofs.laws.users_homes_are_joined.Goals as goal

pub returns : goal.returns
returns c = users_homes_are_joined c.step_keeps_homes_joined.ensures c.step_keeps_homes.ensures
    c.step_stays_sound.ensures
