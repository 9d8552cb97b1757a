use Rattle.irc_room_edits.specs.Lemmas.OneRoom.{documents_tell_rooms}
use Rattle.irc_room_edits.proofs.laws.documents_tell_rooms.Goals as goal

pub returns : goal.returns
returns c = documents_tell_rooms
