use Rattle.irc_edited_rooms.proofs.ComputedRooms.{three_rest_alike}
use Rattle.irc_edited_rooms.proofs.laws.three_rest_alike.Goals as goal

pub returns : goal.returns
returns c = three_rest_alike
