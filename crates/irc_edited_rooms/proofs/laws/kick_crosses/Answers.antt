use Rattle.irc_edited_rooms.proofs.ComputedRooms.{kick_crosses}
use Rattle.irc_edited_rooms.proofs.laws.kick_crosses.Goals as goal

pub returns : goal.returns
returns c = kick_crosses
