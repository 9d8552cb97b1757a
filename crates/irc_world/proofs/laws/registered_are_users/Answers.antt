use Rattle.irc_world.proofs.HallsMatch.{registered_are_users}
use Rattle.irc_world.proofs.laws.registered_are_users.Goals as goal

pub returns : goal.returns
returns c = registered_are_users c.step_keeps_matched.ensures c.step_keeps_homes_joined.ensures
    c.step_keeps_homes.ensures c.step_stays_sound.ensures
