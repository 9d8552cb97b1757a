-- Two changes that crossed, computed, and beside them the edits for which they stand: al and bo are
-- users, and in #c.
--
--   ours   :al NICK ally      theirs   :bo KICK #c al :out     ally is out of #c
--   ours   :al NICK ally      theirs   :bo NICK ally           both are gone
use Rattle.std.specs.Prelude.{◌≡◌, Bool, true, false, ◌&&◌, ◌||◌, Option, Some, None}
use Rattle.std.specs.Prelude.{List, [], ◌∷◌}
use Rattle.irc_names.specs.TableLaws.{same_fold}
use Rattle.irc_crossing.specs.Changes.{crossed}
use Rattle.irc_crossing.specs.declared.change.Change.{Change}
use Rattle.irc_crossing.specs.declared.change.Change.TheVariants.{Rename, Go, Out}
use Rattle.irc_edited_rooms.specs.Writes.{Row, blank_row, no_writes}
use Rattle.irc_edited_rooms.specs.Crossing as edits
use Rattle.irc_edited_rooms.specs.Documents.{Document, Edit, Nick, edited}
use Rattle.irc_room_edits.specs.Examples.{al, ally, bo, hash_c, members, names, users}
use Rattle.irc_room_edits.specs.Places.{Place}
use Rattle.irc_crossed_edits.specs.Standing.{edit_of}

abbrev pub row_if : Bool → Option (Row Place)
row_if true = Some blank_row
row_if false = None

abbrev pub is_here : Nick → Bool
is_here nick = same_fold nick al || same_fold nick bo

abbrev pub both_in : Document Place
both_in = record {
  user = λ nick. row_if (is_here nick);
  member = λ name nick. row_if (same_fold name hash_c && is_here nick);
  channel = λ name. blank_row;
}

-- with nothing written beside it
abbrev pub plain : Change → Edit Place
plain change = edit_of change no_writes

-- behind ours, and then an edit
abbrev pub behind : (ours : Change) → Edit Place → Document Place
behind ours then = edited names (edited names both_in (plain ours)) then

-- What is left of theirs behind ours is this; and by what is left of the edit, as by the edit of
-- what is left, these are users, and these in #c.
pub record AreBeside (theirs ours left : Change) (here in_channel : List Nick) : Type 0 where
  pub is_left : crossed theirs ours ≡ Some left
  pub users_by_edits : users (behind ours (edits.crossed names both_in (plain theirs) (plain ours)))
      ≡ here
  pub users_by_change : users (behind ours (plain left)) ≡ here
  pub members_by_edits :
      members (behind ours (edits.crossed names both_in (plain theirs) (plain ours)))
      ≡ in_channel
  pub members_by_change : members (behind ours (plain left)) ≡ in_channel

abbrev pub KickIsFollowed : Type 0
KickIsFollowed =
    AreBeside (Out al hash_c) (Rename al ally) (Out ally hash_c) (ally ∷ bo ∷ []) (bo ∷ [])

abbrev pub TwoTakeOneName : Type 0
TwoTakeOneName = AreBeside (Rename bo ally) (Rename al ally) (Go ally (Some bo)) [] []
