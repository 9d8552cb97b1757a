-- A room as a document that servers edit: users by nickname, members of channels by nickname, and
-- what is set in each channel, all as rows of places; and what an edit does there.
--
--   NICK ann 1 ann h 1 :Ann     an update by which a user comes
--   :al NICK ally               al is renamed
--   :al QUIT :bye               a user goes, and its memberships go with it
--   :ann JOIN #c                a member comes; if none was there, the channel is from then on
--   :al KICK #c bo :out         a member goes; if it was the last one, the channel is blank again
--   :al MODE #c +ko x bo        a place of the channel is written, and one of a member
use Rattle.std.specs.Prelude.{◌≡◌, ℕ, Bool, true, false, Option, None, is_some, List}
use Rattle.std.specs.List.{list_any}
use Rattle.std.specs.Option.{option_map}
use Rattle.irc_names.specs.TableLaws.{same_fold}
use Rattle.irc_edited_rooms.specs.Writes.{Row, Writes, blank_row, written}
use Rattle.irc_edited_rooms.specs.Fates.{Fate, after_fate}

-- nicknames and names of channels, by their folds
abbrev pub Nick : Type 0
Nick = List ℕ

abbrev pub ChannelName : Type 0
ChannelName = List ℕ

pub record Document (Place : Type 0) : Type 0 where
  pub user : Nick → Option (Row Place)
  pub member : ChannelName → Nick → Option (Row Place)
  pub channel : ChannelName → Row Place

-- what becomes of each user and member, and what is written in each channel
pub record Update (Place : Type 0) : Type 0 where
  pub user : Nick → Fate Place
  pub member : ChannelName → Nick → Fate Place
  pub set : ChannelName → Writes Place

-- A user is renamed, and something is written in its row, as how the nickname is spelled. All else
-- is an update.
pub data Edit (Place : Type 0) : Type 0 where
  update : (what : Update Place) → Edit Place
  rename : (old new : Nick) → (writes : Writes Place) → Edit Place

-- ---- one channel is there while a nickname is a member

-- `names` are all nicknames that there can be
abbrev pub is_name : (names : List Nick) → Nick → Bool
is_name names nick = list_any (same_fold nick) names

abbrev pub lives : {X : Type 0} → (names : List Nick) → (Nick → Option X) → Bool
lives names members = list_any (λ nick. is_some (members nick)) names

abbrev pub row_while : {Place : Type 0} → Bool → Row Place → Row Place
row_while true row = row
row_while false row = blank_row

-- ---- an update

abbrev pub members_after : {Place : Type 0} → (Nick → Fate Place) → (Nick → Option (Row Place))
    → Nick → Option (Row Place)
members_after fates members nick = after_fate (fates nick) (members nick)

abbrev pub updated : {Place : Type 0} → (names : List Nick) → Document Place → Update Place
    → Document Place
updated names room what = record {
  user = λ nick. after_fate (what.user nick) (room.user nick);
  member = λ name. members_after (what.member name) (room.member name);
  channel = λ name.
      row_while (lives names (members_after (what.member name) (room.member name)))
      (written (what.set name) (room.channel name));
}

-- ---- a nickname for another

-- one for the new nickname, one for the old, and one for all others
abbrev pub pick : {A : Type 0} → (is_new is_old : Bool) → A → A → A → A
pick true is_old at_new at_old other = at_new
pick false true at_new at_old other = at_old
pick false false at_new at_old other = other

-- old and new change places: whoever had the old one has the new one, and the old one is free
abbrev pub swapped : (old new : Nick) → Nick → Nick
swapped old new nick = pick (same_fold nick new) (same_fold nick old) old new nick

abbrev pub written_at : {Place : Type 0} → Bool → Writes Place → Option (Row Place)
    → Option (Row Place)
written_at true writes row = option_map (written writes) row
written_at false writes row = row

abbrev pub renamed : {Place : Type 0} → (names : List Nick) → Document Place
    → (old new : Nick) → Writes Place → Document Place
renamed names room old new writes = record {
  user = λ nick. written_at (same_fold nick new) writes (room.user (swapped old new nick));
  member = λ name nick. room.member name (swapped old new nick);
  channel = λ name.
      row_while (lives names (λ nick. room.member name (swapped old new nick)))
      (room.channel name);
}

abbrev pub edited : {Place : Type 0} → (names : List Nick) → Document Place → Edit Place
    → Document Place
edited names room (update what) = updated names room what
edited names room (rename old new writes) = renamed names room old new writes

abbrev pub blank_document : {Place : Type 0} → Document Place
blank_document = record {
  user = λ nick. None;
  member = λ name nick. None;
  channel = λ name. blank_row;
}

-- ---- what can be

-- members are users, users have names, and a channel without a member is blank
pub record IsSound {Place : Type 0} (names : List Nick) (room : Document Place) : Type 0 where
  pub known : (name : ChannelName) (nick : Nick) → is_some (room.member name nick) ≡ true
      → is_some (room.user nick) ≡ true
  pub named : (nick : Nick) → is_some (room.user nick) ≡ true → is_name names nick ≡ true
  pub blank : (name : ChannelName) → lives names (room.member name) ≡ false
      → room.channel name ≡ blank_row
