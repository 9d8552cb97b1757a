use Rattle.irc_world.proofs.LimitsHold.{rooms_keep_limits}
use Rattle.irc_world.proofs.laws.rooms_keep_limits.Goals as goal

pub returns : goal.returns
returns c = rooms_keep_limits c.no_room_is_within_limits.ensures c.step_keeps_limits.ensures
    c.step_stays_sound.ensures
