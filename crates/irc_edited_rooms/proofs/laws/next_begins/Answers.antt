use Rattle.irc_edited_rooms.proofs.ComputedRooms.{next_begins}
use Rattle.irc_edited_rooms.proofs.laws.next_begins.Goals as goal

pub returns : goal.returns
returns c = next_begins
