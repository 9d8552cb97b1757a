use Rattle.irc_edited_rooms.proofs.ComputedRooms.{nicknames_cross}
use Rattle.irc_edited_rooms.proofs.laws.nicknames_cross.Goals as goal

pub returns : goal.returns
returns c = nicknames_cross
