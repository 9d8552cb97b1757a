use Rattle.irc_edited_rooms.proofs.ComputedRooms.{topics_cross}
use Rattle.irc_edited_rooms.proofs.laws.topics_cross.Goals as goal

pub returns : goal.returns
returns c = topics_cross
