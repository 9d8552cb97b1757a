use Rattle.irc_world.proofs.ServedAlone.{one_server_owes}
use Rattle.irc_world.proofs.laws.one_server_owes.Goals as goal

pub returns : goal.returns
returns c = one_server_owes c.alone_is_alone.ensures c.lone_server_is_one_room.ensures
    c.step_stays_sound.ensures
