use Rattle.std.proofs.Common.{sym, ◌∙◌}
use Rattle.irc_documents.specs.Lemmas.CrossingLists.{pieces_have_diamond}
use Rattle.irc_documents.specs.Lemmas.NetworksRun.{all_goes_well}
use Rattle.irc_edited_rooms.specs.EditedRooms.{edited_rooms}
use Rattle.irc_edited_rooms.specs.Lemmas.RoomsGoWell.{rooms_have_diamond}
use Rattle.irc_room_edits.specs.AllNicks.{all_nicks}
use Rattle.irc_room_edits.specs.Lemmas.OneRoom.{documents_tell_rooms}
use Rattle.irc_room_edits.specs.RestAlike.{pieces}
use Rattle.irc_room_edits.proofs.laws.rooms_rest_alike.Goals as goal

pub returns : goal.returns
returns c cut start steps none may room have s t joined quiet =
    let well = all_goes_well (pieces cut) c.the_way_is_a_walk.ensures
    (pieces_have_diamond (edited_rooms all_nicks) (rooms_have_diamond all_nicks) cut) start steps
    none may in
    documents_tell_rooms (room s) (room t) (have.well s) (have.well t) (have.within s)
    (have.within t) (sym (have.documents s) ∙ well.parts s t joined quiet ∙ have.documents t)
