-- What holds of the rules by which the layer changes what crossed: of users and members they are
-- the transformation of edits.
use Rattle.std.specs.Prelude.{Some, List}
use Rattle.irc_crossing.specs.Changes.{crossed}
use Rattle.irc_crossing.specs.Laws.{AreOfTwo}
use Rattle.irc_crossing.specs.declared.change.Change.{Change}
use Rattle.irc_edited_rooms.specs.Crossing.{MayBeMade}
use Rattle.irc_edited_rooms.specs.Crossing as edits
use Rattle.irc_edited_rooms.specs.Documents.{Document, Edit, Nick, edited}
use Rattle.irc_room_edits.specs.Places.{Place}
use Rattle.irc_crossed_edits.specs.Standing.{Stands}

-- Of two changes that stand for edits, made at the two ends in one document, what becomes of theirs
-- behind ours stands for what becomes of the edit; one end alone gives a user another nickname.
abbrev pub CrossedStands : Type 0
CrossedStands = (names : List Nick) (room : Document Place) (theirs ours : Change)
    (their_edit our_edit : Edit Place) → MayBeMade names room their_edit
    → MayBeMade names room our_edit → AreOfTwo theirs ours
    → Stands names room (Some theirs) their_edit
    → Stands names room (Some ours) our_edit
    → Stands names (edited names room our_edit) (crossed theirs ours)
    (edits.crossed names room their_edit our_edit)
