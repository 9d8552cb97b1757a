-- Which edit of a room's document a change of the layer's log stands for: of who has which
-- nickname, and of who is in which channel.
--
--   al is a user of a.net, bo one of b.net, both in #c
--   :al NICK ally        Rename al ally      al's row stands under ally from then on
--   :bo KICK #c al :..   Out al #c           al's row goes from #c
--   :a.net KILL bo :..   Go bo               bo's row goes, and from each channel
-- A change keeps neither what a user's row is nor what is written in it: it stands for the edit
-- whatever that is. Of a log, what nothing is left of stands for what does nothing.
use Rattle.std.specs.Prelude.{◌≡◌, ℕ, Bool, true, false, Option, Some, None, is_some, List}
use Rattle.std.specs.Prelude.{unwrap_or}
use Rattle.irc_names.specs.Fold.{key, same}
use Rattle.irc_crossing.specs.declared.change.Change.{Change}
use Rattle.irc_crossing.specs.declared.change.Change.TheVariants.{Come, Rename, Go, Out, Join, Set}
use Rattle.irc_edited_rooms.specs.Alike.{AlikeEdits}
use Rattle.irc_edited_rooms.specs.Writes.{Writes, no_writes}
use Rattle.irc_edited_rooms.specs.Fates.{comes, goes, stays}
use Rattle.irc_edited_rooms.specs.Documents.{Document, Edit, Nick, rename, update}
use Rattle.irc_edited_rooms.specs.Crossing.{both_going, nothing}
use Rattle.irc_room_edits.specs.Edits.{of_one_member, of_one_user}
use Rattle.irc_room_edits.specs.Places.{Place}

-- another spelling of a nickname is no other one
abbrev pub renaming_to : (is_same : Bool) → (old new : List ℕ) → Writes Place → Edit Place
renaming_to true old new writes = update (of_one_user (key old) (stays writes))
renaming_to false old new writes = rename (key old) (key new) writes

-- the edit, with what is written by it
abbrev pub edit_of : Change → Writes Place → Edit Place
edit_of (Come nick) writes = update (of_one_user (key nick) (comes writes))
edit_of (Rename nick new) writes = renaming_to (same nick new) nick new writes
edit_of (Go nick other) writes = update (both_going (key nick) (key (unwrap_or other nick)))
edit_of (Out nick channel) writes =
    update (of_one_member (key channel) (key nick) goes no_writes)
edit_of (Join channel begins) writes = update nothing
edit_of (Set setting) writes = update nothing

-- it does something in this document: who comes has a nickname that is free, who is renamed, goes
-- or is out was there
abbrev pub IsOfRoom : Document Place → Change → Type 0
IsOfRoom room (Come nick) = room.user (key nick) ≡ None
IsOfRoom room (Rename nick new) = is_some (room.user (key nick)) ≡ true
IsOfRoom room (Go nick other) = (is_some (room.user (key nick)) ≡ true)
    × (is_some (room.user (key (unwrap_or other nick))) ≡ true)
IsOfRoom room (Out nick channel) = is_some (room.member (key channel) (key nick)) ≡ true
IsOfRoom room (Join channel begins) = ⊥
IsOfRoom room (Set setting) = ⊥

pub record StandsFor (names : List Nick) (room : Document Place) (change : Change)
    (edit : Edit Place) : Type 0 where
  pub writes : Writes Place
  pub of_room : IsOfRoom room change
  pub alike : AlikeEdits names room edit (edit_of change writes)

-- what is left of a change stands for this edit
abbrev pub Stands : (names : List Nick) → Document Place → Option Change → Edit Place → Type 0
Stands names room None edit = AlikeEdits names room edit (update nothing)
Stands names room (Some change) edit = StandsFor names room change edit
