use Rattle.irc_edited_rooms.specs.Lemmas.RoomsGoWell.{documents_are_told}
use Rattle.irc_edited_rooms.proofs.laws.rooms_can_be_told.Goals as goal

pub returns : goal.returns
returns g c = documents_are_told
