use Rattle.irc_edited_rooms.proofs.ComputedRooms.{join_crosses}
use Rattle.irc_edited_rooms.proofs.laws.join_crosses.Goals as goal

pub returns : goal.returns
returns c = join_crosses
