use Rattle.irc_net.proofs.StaysOneRoom.{kept_owed}
use Rattle.irc_net.proofs.laws.kept_is_owed.Goals as goal

pub returns : goal.returns
returns c =
    kept_owed c.received_is_front.ensures c.rest_is_one_room.ensures c.rest_as_lines.ensures.lines
