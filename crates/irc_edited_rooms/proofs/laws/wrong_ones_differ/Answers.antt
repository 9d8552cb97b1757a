use Rattle.irc_edited_rooms.proofs.ComputedRooms.{wrong_ones_differ}
use Rattle.irc_edited_rooms.proofs.laws.wrong_ones_differ.Goals as goal

pub returns : goal.returns
returns c = wrong_ones_differ
