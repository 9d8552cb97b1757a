-- How one end of a new link tells the other its room: all users come, and then all members with
-- what is set in their channels. What both have is joined as by any edits that cross.
--
--   a.net writes    NICK al 1 al h 1 :Al           b.net writes    NICK bo 1 bo h 1 :Bo
--                   :a.net NJOIN #c :@al                           :b.net NJOIN #c :@bo
--                   :al TOPIC #c :one                              :bo TOPIC #c :two
--   both have al and bo as operators of #c, which has the topic two
use Rattle.std.specs.Prelude.{Option, Some, None, List, [], ◌∷◌}
use Rattle.irc_edited_rooms.specs.Writes.{Row, all_of, no_writes}
use Rattle.irc_edited_rooms.specs.Fates.{Fate, comes, untouched}
use Rattle.irc_edited_rooms.specs.Documents.{Document, Edit, Update, update}

module _ {Place : Type 0} where
  abbrev pub come_as : Option (Row Place) → Fate Place
  come_as None = untouched
  come_as (Some row) = comes (all_of row)

  abbrev pub told_users : Document Place → Update Place
  told_users room = record {
    user = λ nick. come_as (room.user nick);
    member = λ name nick. untouched;
    set = λ name. no_writes;
  }

  abbrev pub told_members : Document Place → Update Place
  told_members room = record {
    user = λ nick. untouched;
    member = λ name nick. come_as (room.member name nick);
    set = λ name. all_of (room.channel name);
  }

  abbrev pub told : Document Place → List (Edit Place)
  told room = update (told_users room) ∷ update (told_members room) ∷ []
