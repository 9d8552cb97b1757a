use Rattle.irc_documents.specs.Lemmas.NetworksRun.{all_goes_well}
use Rattle.irc_edited_rooms.specs.EditedRooms.{edited_rooms}
use Rattle.irc_edited_rooms.specs.Lemmas.RoomsGoWell.{rooms_have_diamond}
use Rattle.irc_edited_rooms.proofs.laws.rooms_go_well.Goals as goal

pub returns : goal.returns
returns g c names =
    all_goes_well (edited_rooms names) c.the_way_is_a_walk.ensures (rooms_have_diamond names)
