use Rattle.std.proofs.Common.{subst}
use Rattle.irc_net.specs.OneRoom.{IsOneRoomNet}
use Rattle.irc_net.proofs.StaysOneRoom.{one_room}
use Rattle.irc_net.proofs.net.Net.one_room.Goals as goal

pub returns : goal.returns
returns g c =
    subst IsOneRoomNet c.self.view_is
    (one_room c.rest_is_one_room.ensures c.no_link_is_closed.ensures c.new_link_is_open.ensures
    c.rest_as_lines.ensures.lines
    (record { failed = c.self.inside.failed; network = c.self.inside.network }) c.self.invariant)
