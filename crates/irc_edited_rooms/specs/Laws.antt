-- What holds of rooms that servers edit, whatever overlaps.
use Rattle.std.specs.Prelude.{◌≡◌, List, []}
use Rattle.irc_relay.specs.Links.{Name}
use Rattle.irc_documents.specs.Editing.{HasDiamond}
use Rattle.irc_documents.specs.Laws.{AlwaysGoesWell}
use Rattle.irc_documents.specs.Networks.{Net, Step, after_all, AllMayBe, Makes}
use Rattle.irc_edited_rooms.specs.Documents.{Nick, Document, Edit, IsSound}
use Rattle.irc_edited_rooms.specs.EditedRooms.{edited_rooms}
use Rattle.irc_edited_rooms.specs.Telling.{told}

-- Each two edits that can be made in one document have the diamond, whoever makes them: it plays
-- no part which is done first, if the other is done as what becomes of it; and that can be made.
abbrev pub EditsHaveDiamond : Type 0 → Type 0
EditsHaveDiamond Place =
    (names : List Nick) → HasDiamond (edited_rooms {Place = Place} names)

-- So whatever is given to servers at any time, links made and lost included, and in whatever order
-- the links deliver: all servers of a part in which nothing is on its way have one document, users
-- and members and all that is set; what crosses nothing is done as it was made; and what a server
-- is asked to do can be done there.
abbrev pub RoomsGoWell : Type 0 → Type 0
RoomsGoWell Place = (names : List Nick) → AlwaysGoesWell (edited_rooms {Place = Place} names)

-- Documents stay sound: members are users, and a channel without a member is blank.
abbrev pub RoomsStaySound : Type 0 → Type 0
RoomsStaySound Place = (names : List Nick) (start : Net (Document Place) (Edit Place))
    (steps : List (Step (Edit Place))) → start.links ≡ []
    → AllMayBe (edited_rooms names) start steps → ((s : Name) → IsSound names (start.doc s))
    → (s : Name) → IsSound names ((after_all (edited_rooms names) start steps).doc s)

-- Each sound document can be told to the other end of a new link: a link between two parts can be
-- made at any time.
abbrev pub RoomsCanBeTold : Type 0 → Type 0
RoomsCanBeTold Place = (names : List Nick) (room : Document Place) → IsSound names room
    → Makes (edited_rooms names) (told room) room
