-- Edits that are alike where they stand: they differ only in what does nothing there, and whatever
-- they cross, what becomes of them is alike. So what has become nothing can be left out, and a log
-- may keep what a server was asked to do in place of what the transformation makes of it.
--
--   a.net   :al KICK #c bo :out    b.net   :bo PART #c :bye
--   what is left of the PART at a.net is that bo goes, who is no member: it is alike to nothing,
--   and so is what is left of it behind :bo JOIN #c, by which bo comes again
use Rattle.std.specs.Prelude.{◌≡◌, true, false, Option, Some, None, List, [], ◌∷◌}
use Rattle.irc_documents.specs.Lists.{AllMay, all_done, behind, through}
use Rattle.irc_edited_rooms.specs.Writes.{Row}
use Rattle.irc_edited_rooms.specs.Fates.{Fate, is_coming, untouched}
use Rattle.irc_edited_rooms.specs.Documents.{ChannelName, Document, Edit, Nick, Update, edited}
use Rattle.irc_edited_rooms.specs.Documents.{rename}
use Rattle.irc_edited_rooms.specs.Documents.{update}
use Rattle.irc_edited_rooms.specs.Crossing.{MayBeMade, crossed, lives_by, nothing}
use Rattle.irc_edited_rooms.specs.EditedRooms.{edited_rooms}

module _ {Place : Type 0} where
  -- a fate that does nothing: of a row that is not there all do that do not bring it
  abbrev pub IsIdle : Option (Row Place) → Fate Place → Type 0
  IsIdle None fate = is_coming fate ≡ false
  IsIdle (Some row) fate = fate ≡ untouched

  pub data AlikeFates (row : Option (Row Place)) (one other : Fate Place) : Type 0 where
    equal : one ≡ other → AlikeFates row one other
    idle : IsIdle row one → IsIdle row other → AlikeFates row one other

module _ {Place : Type 0} (names : List Nick) where
  -- what is set plays a part in channels alone that are there then
  pub record AlikeUpdates (room : Document Place) (one other : Update Place) : Type 0 where
    pub users : (nick : Nick) → AlikeFates (room.user nick) (one.user nick) (other.user nick)
    pub members : (name : ChannelName) (nick : Nick)
        → AlikeFates (room.member name nick) (one.member name nick) (other.member name nick)
    pub sets : (name : ChannelName) → lives_by names room one name ≡ true
        → one.set name ≡ other.set name

  -- one rename is alike to itself alone
  abbrev pub AlikeEdits : Document Place → (one other : Edit Place) → Type 0
  AlikeEdits room (update one) (update other) = AlikeUpdates room one other
  AlikeEdits room (rename old new writes) other = rename old new writes ≡ other
  AlikeEdits room (update one) (rename old new writes) = ⊥

  -- each of one log to that of another, where they stand
  abbrev pub AlikeLogs : Document Place → (one other : List (Edit Place)) → Type 0
  AlikeLogs room [] [] = Unit
  AlikeLogs room (one ∷ log) (other ∷ more) =
      AlikeEdits room one other × AlikeLogs (edited names room one) log more
  AlikeLogs room [] (other ∷ more) = ⊥
  AlikeLogs room (one ∷ log) [] = ⊥

-- ---- what holds of them

-- What becomes of an edit behind a log, and of the log behind it, is alike for edits and logs that
-- are: so an end may keep for each what is alike to it, or nothing for what does nothing.
pub record StayAlike {Place : Type 0} (names : List Nick) (room : Document Place)
    (theirs too : Edit Place) (log more : List (Edit Place)) : Type 0 where
  pub through_log : AlikeEdits names (all_done (edited_rooms names) room log)
      (through (edited_rooms names) room theirs log) (through (edited_rooms names) room too more)
  pub log_behind : AlikeLogs names (edited names room theirs)
      (behind (edited_rooms names) room log theirs) (behind (edited_rooms names) room more too)

-- Edits that are alike lead to the same, and stay alike.
pub record AlikeStayAlike (Place : Type 0) : Type 0 where
  pub lead : (names : List Nick) (room : Document Place) (one other : Edit Place)
      → AlikeEdits names room one other → edited names room one ≡ edited names room other
  pub logs : (names : List Nick) (room : Document Place) (theirs too : Edit Place)
      (log more : List (Edit Place)) → MayBeMade names room theirs → MayBeMade names room too
      → AllMay (edited_rooms names) room log → AllMay (edited_rooms names) room more
      → AlikeEdits names room theirs too → AlikeLogs names room log more
      → StayAlike names room theirs too log more
  -- nothing behind any edit does nothing
  pub nothing_stays : (names : List Nick) (room : Document Place) (ours : Edit Place)
      → AlikeEdits names (edited names room ours) (crossed names room (update nothing) ours)
      (update nothing)
  -- and any edit behind nothing is what it was
  pub stays_same : (names : List Nick) (room : Document Place) (theirs : Edit Place)
      → MayBeMade names room theirs
      → AlikeEdits names room (crossed names room theirs (update nothing)) theirs
