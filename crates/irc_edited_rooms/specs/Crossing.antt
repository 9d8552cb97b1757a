-- Which edits can be made in a document, and what becomes of one behind another that was made in
-- the same document.
--
-- A user of a.net is al, one of b.net is bo; both write before they read.
--   names are followed      a.net   :al NICK ally          b.net   :bo KICK #c al :out
--                           at a.net ally is kicked
--   who is gone is left     a.net   :a.net KILL bo :..     b.net   :bo NICK bob
--                           at a.net nothing, and at b.net bob goes
--   two to one name go      a.net   :al NICK zed           b.net   :bo NICK zed
--                           at a.net zed, who was al, and bo go; at b.net zed, who was bo, and al
--   a channel comes back    a.net   :al PART #c :bye       b.net   :bo JOIN #c
--                           al was the last: at a.net bo joins with all that is set in #c
--   nothing is set in the next channel of a name
--                           a.net   :al PART #c :bye, :ann JOIN #c\7o      b.net   :bo MODE #c +k x
--                           at a.net the key is not set
use Rattle.std.specs.Prelude.{◌≡◌, Bool, true, false, ◌||◌, None, is_some, List}
use Rattle.std.specs.Prelude.{if◌then◌else◌}
use Rattle.irc_names.specs.TableLaws.{same_fold}
use Rattle.irc_edited_rooms.specs.Writes.{Row, Writes, no_writes, written, all_of, writes_behind}
use Rattle.irc_edited_rooms.specs.Fates.{Fate, stays, goes, comes, untouched, is_going, is_coming}
use Rattle.irc_edited_rooms.specs.Fates.{user_behind, member_behind}
use Rattle.irc_edited_rooms.specs.Documents.{Nick, ChannelName, Document, Update, Edit, update}
use Rattle.irc_edited_rooms.specs.Documents.{rename, is_name, lives, members_after, pick}
use Rattle.irc_edited_rooms.specs.Documents.{IsSound}

module _ {Place : Type 0} (names : List Nick) where
  -- ---- which can be made

  -- Who comes has a name that is free; who comes to a channel is a user, and stays one; and who
  -- goes, goes from each channel.
  pub record IsFitting (room : Document Place) (what : Update Place) : Type 0 where
    pub sound : IsSound names room
    pub newcomers : (nick : Nick) → is_coming (what.user nick) ≡ true
        → (room.user nick ≡ None) × (is_name names nick ≡ true)
    pub joiners : (name : ChannelName) (nick : Nick) → is_coming (what.member name nick) ≡ true
        → (is_some (room.user nick) ≡ true) × (is_going (what.user nick) ≡ false)
    pub leavers : (name : ChannelName) (nick : Nick) → is_going (what.user nick) ≡ true
        → is_going (what.member name nick) ≡ true

  -- a user who is there takes a name that is free
  pub record MayBeRenamed (room : Document Place) (old new : Nick) : Type 0 where
    pub sound : IsSound names room
    pub there : is_some (room.user old) ≡ true
    pub free : room.user new ≡ None
    pub named : is_name names new ≡ true

  abbrev pub MayBeMade : Document Place → Edit Place → Type 0
  MayBeMade room (update what) = IsFitting room what
  MayBeMade room (rename old new writes) = MayBeRenamed room old new

-- ---- an update behind an update

module _ {Place : Type 0} where
  -- what of a member is left, by what is left of the user, and by what ours makes of the user
  abbrev pub member_left : (theirs_left ours : Fate Place) → Fate Place → Fate Place
  member_left theirs_left ours left =
      if is_going theirs_left then goes else (if is_going ours then untouched else left)

  -- What is set in a channel is left where it is greater. Of a channel that theirs leaves without
  -- a member nothing is; one that was there, and ours leaves so, comes back with all that is set.
  abbrev pub set_left : (was_there lives_theirs lives_ours : Bool) → Row Place
      → (theirs ours : Writes Place) → Writes Place
  set_left true false lives_ours row theirs ours = no_writes
  set_left false false lives_ours row theirs ours = no_writes
  set_left true true true row theirs ours = writes_behind theirs ours
  set_left false true true row theirs ours = writes_behind theirs ours
  set_left true true false row theirs ours = all_of (written theirs row)
  set_left false true false row theirs ours = theirs

  abbrev pub users_behind : Document Place → (theirs ours : Update Place) → Nick → Fate Place
  users_behind room theirs ours nick =
      user_behind (is_some (room.user nick)) (theirs.user nick) (ours.user nick)

  abbrev pub members_behind : Document Place → (theirs ours : Update Place) → ChannelName → Nick
      → Fate Place
  members_behind room theirs ours name nick =
      member_left (users_behind room theirs ours nick) (ours.user nick)
      (member_behind (is_some (room.member name nick)) (theirs.member name nick)
      (ours.member name nick))

module _ {Place : Type 0} (names : List Nick) where
  abbrev pub lives_by : Document Place → Update Place → ChannelName → Bool
  lives_by room what name = lives names (members_after (what.member name) (room.member name))

  abbrev pub update_behind : Document Place → (theirs ours : Update Place) → Update Place
  update_behind room theirs ours = record {
    user = users_behind room theirs ours;
    member = members_behind room theirs ours;
    set = λ name. set_left (lives names (room.member name)) (lives_by room theirs name)
        (lives_by room ours name) (room.channel name) (theirs.set name) (ours.set name);
  }

-- ---- an update behind a nickname for another

module _ {Place : Type 0} where
  -- what is for who had the old one is for the new one; who comes to the new one meets that one
  abbrev pub followed : (old new nick : Nick) → (at_new other : Fate Place) → Fate Place
  followed old new nick at_new other =
      pick (same_fold nick new) (same_fold nick old) at_new untouched other

  -- what is for the user who had the old one, and for that member
  abbrev pub user_followed : (is_met : Bool) → Writes Place → Fate Place → Fate Place
  user_followed true writes theirs = goes
  user_followed false writes theirs = user_behind true theirs (stays writes)

  abbrev pub member_followed : (is_met : Bool) → Fate Place → Fate Place
  member_followed true theirs = goes
  member_followed false theirs = theirs

  abbrev pub update_followed : (is_met : Bool) → Update Place → (old new : Nick) → Writes Place
      → Update Place
  update_followed is_met theirs old new writes = record {
    user = λ nick. followed old new nick (user_followed is_met writes (theirs.user old))
        (theirs.user nick);
    member = λ name nick. followed old new nick
        (member_followed is_met (theirs.member name old)) (theirs.member name nick);
    set = theirs.set;
  }

  -- ---- a nickname for another behind an update, and behind another one

  -- these users go
  abbrev pub going_if : Bool → Fate Place
  going_if true = goes
  going_if false = untouched

  abbrev pub both_going : (one other : Nick) → Update Place
  both_going one other = record {
    user = λ nick. going_if (same_fold nick one || same_fold nick other);
    member = λ name nick. going_if (same_fold nick one || same_fold nick other);
    set = λ name. no_writes;
  }

  abbrev pub nothing : Update Place
  nothing = record {
    user = λ nick. untouched;
    member = λ name nick. untouched;
    set = λ name. no_writes;
  }

  abbrev pub rename_left : (is_met : Bool) → (old new : Nick) → Writes Place → Fate Place
      → Edit Place
  rename_left true old new writes ours = update (both_going old new)
  rename_left false old new writes (stays ours) = rename old new (writes_behind writes ours)
  rename_left false old new writes goes = update nothing
  rename_left false old new writes (comes ours) = rename old new writes

  -- one user is renamed by one end alone; by both, it goes
  abbrev pub rename_behind_rename : (is_one is_met : Bool) → (old new : Nick) → Writes Place
      → (our_new : Nick) → Edit Place
  rename_behind_rename true is_met old new writes our_new = update (both_going our_new our_new)
  rename_behind_rename false true old new writes our_new = update (both_going old new)
  rename_behind_rename false false old new writes our_new = rename old new writes

-- ---- any edit behind any

module _ {Place : Type 0} (names : List Nick) where
  abbrev pub crossed : Document Place → (theirs ours : Edit Place) → Edit Place
  crossed room (update theirs) (update ours) = update (update_behind names room theirs ours)
  crossed room (update theirs) (rename old new writes) =
      update (update_followed (is_coming (theirs.user new)) theirs old new writes)
  crossed room (rename old new writes) (update ours) =
      rename_left (is_coming (ours.user new)) old new writes (ours.user old)
  crossed room (rename old new writes) (rename our_old our_new our_writes) =
      rename_behind_rename (same_fold old our_old) (same_fold new our_new) old new writes our_new
