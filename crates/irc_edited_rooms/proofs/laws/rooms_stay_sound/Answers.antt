use Rattle.irc_documents.specs.Lemmas.FactsStay.{facts_stay}
use Rattle.irc_edited_rooms.specs.Documents.{IsSound}
use Rattle.irc_edited_rooms.specs.EditedRooms.{edited_rooms}
use Rattle.irc_edited_rooms.specs.Lemmas.RoomsGoWell.{rooms_have_diamond}
use Rattle.irc_edited_rooms.specs.Lemmas.StaySound.{edited_sound}
use Rattle.irc_edited_rooms.proofs.laws.rooms_stay_sound.Goals as goal

pub returns : goal.returns
returns g c names =
    facts_stay (edited_rooms names) (rooms_have_diamond names) (IsSound names)
    (λ room edit may sound. edited_sound names room edit may)
