use Rattle.irc_world.proofs.WorldKept.{step_keeps_world}
use Rattle.irc_world.proofs.laws.step_keeps_world.Goals as goal

pub returns : goal.returns
returns c = step_keeps_world c.step_stays_sound.ensures c.step_keeps_homes.ensures
    c.step_keeps_homes_joined.ensures c.step_keeps_matched.ensures c.step_keeps_limits.ensures
