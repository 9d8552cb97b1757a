-- What each effect edits of the document of a room: an edit for each thing that it does. It writes
-- what is there behind it, at the places that it is of, also where that was there already.
--
--   NICK al 1 al h 1 :Al       a user comes with all of its row
--   :al NICK ally              al is renamed, and how the nickname is spelled is written
--   :al JOIN #c                a member comes; if it makes #c, the spelling is written
--   :al MODE #c +ko x bo       two edits: the key is written, and a flag of bo
--   :al TOPIC #c :hi           the topic is written
--   :al KICK #c bo :out        a member goes
--   :al PRIVMSG #c :hi         none
use Rattle.std.specs.Prelude.{ℕ, Bool, true, false, ◌&&◌, Option, Some, None, List, [], ◌∷◌}
use Rattle.std.specs.Option.{option_map_or}
use Rattle.irc_names.specs.Fold.{key}
use Rattle.irc_names.specs.Greater.{bytes_cmp, greater}
use Rattle.irc_names.specs.Tables.{row}
use Rattle.irc_names.specs.TableLaws.{same_fold}
use Rattle.irc_users.specs.declared.user_change.UserChange.{UserChange}
use Rattle.irc_users.specs.declared.user_change.UserChange.TheVariants.{Invisible, Away}
use Rattle.irc_modes.specs.declared.modes.ModeChange.{ModeChange}
use Rattle.irc_modes.specs.declared.modes.ModeLetter.{ModeLetter}
use Rattle.irc_modes.specs.declared.modes.ModeLetter.TheVariants as letter
use Rattle.irc_modes.specs.Modes.{mask_in}
use Rattle.irc_channels.specs.Channels.{changed}
use Rattle.irc_channels.specs.declared.channel.Channel.{Channel}
use Rattle.irc_effects.specs.declared.effect.Effect.{Effect}
use Rattle.irc_effects.specs.declared.effect.Effect.TheVariants.{AddUser, Rename, Quit, Join, Part}
use Rattle.irc_effects.specs.declared.effect.Effect.TheVariants.{Kick, ChangeModes, SetTopic, Say}
use Rattle.irc_effects.specs.declared.effect.Effect.TheVariants.{Invite, ChangeUser}
use Rattle.irc_effects.specs.Effects.{has_channel, is_member}
use Rattle.irc_effects.specs.Room.{Room}
use Rattle.irc_edited_rooms.specs.Writes.{Writes, all_of, no_writes}
use Rattle.irc_edited_rooms.specs.Fates.{Fate, stays, goes, comes, untouched}
use Rattle.irc_edited_rooms.specs.Documents.{Nick, ChannelName, Edit, Update, update, rename}
use Rattle.irc_room_edits.specs.Places.{ChannelPlace, Place, channel_key, ban, invite_only, limit}
use Rattle.irc_room_edits.specs.Places.{moderated, nickname, no_outside, operator, privacy}
use Rattle.irc_room_edits.specs.Places.{spelling, topic, topic_locked, voice, away, invisible}
use Rattle.irc_room_edits.specs.Places.{channel_write, flag_value, member_row, member_write}
use Rattle.irc_room_edits.specs.Places.{set_at, text_value, user_row, user_write}

-- ---- one row

abbrev pub fate_if : Bool → Fate Place → Fate Place
fate_if true fate = fate
fate_if false fate = untouched

abbrev pub writes_if : Bool → Writes Place → Writes Place
writes_if true writes = writes
writes_if false writes = no_writes

abbrev pub of_one_user : Nick → Fate Place → Update Place
of_one_user nick fate = record {
  user = λ k. fate_if (same_fold k nick) fate;
  member = λ name k. untouched;
  set = λ name. no_writes;
}

abbrev pub of_one_member : ChannelName → Nick → Fate Place → Writes Place → Update Place
of_one_member channel nick fate writes = record {
  user = λ k. untouched;
  member = λ name k. fate_if (same_fold name channel && same_fold k nick) fate;
  set = λ name. writes_if (same_fold name channel) writes;
}

-- a user goes, and so do all its memberships
abbrev pub of_one_gone : Nick → Update Place
of_one_gone nick = record {
  user = λ k. fate_if (same_fold k nick) goes;
  member = λ name k. fate_if (same_fold k nick) goes;
  set = λ name. no_writes;
}

abbrev pub of_one_channel : ChannelName → Writes Place → Update Place
of_one_channel channel writes = record {
  user = λ k. untouched;
  member = λ name k. untouched;
  set = λ name. writes_if (same_fold name channel) writes;
}

-- ---- modes

-- the place of a letter; a ban has one if its parameter is a mask
abbrev pub ban_place : Option (List ℕ) → Option ChannelPlace
ban_place None = None
ban_place (Some mask) = Some (ban mask)

abbrev pub place_of : ModeLetter → (word : Option (List ℕ)) → Option ChannelPlace
place_of letter.InviteOnly word = Some invite_only
place_of letter.Moderated word = Some moderated
place_of letter.NoOutside word = Some no_outside
place_of letter.TopicLocked word = Some topic_locked
place_of letter.Private word = Some privacy
place_of letter.Secret word = Some privacy
place_of letter.Key word = Some channel_key
place_of letter.Limit word = Some limit
place_of letter.Ban word = ban_place (mask_in word)
place_of letter.Operator word = None
place_of letter.Voice word = None

abbrev pub write_at : Option ChannelPlace → Channel → Writes Place
write_at None channel = no_writes
write_at (Some place) channel = channel_write place (set_at channel place)

-- what a change of a mode edits, where the channel is this one behind it
abbrev pub letter_edit : ChannelName → Bool → ModeLetter → Option (List ℕ) → Channel → Update Place
letter_edit name plus letter.Operator (Some word) channel = of_one_member name (key word)
    (stays (member_write operator (flag_value plus))) no_writes
letter_edit name plus letter.Voice (Some word) channel = of_one_member name (key word)
    (stays (member_write voice (flag_value plus))) no_writes
letter_edit name plus other word channel =
    of_one_channel name (write_at (place_of other word) channel)

abbrev pub mode_edits : ChannelName → List ModeChange → Channel → List (Edit Place)
mode_edits name [] channel = []
mode_edits name (change ∷ changes) channel =
    update (letter_edit name change.plus change.letter change.word (changed change channel))
    ∷ mode_edits name changes (changed change channel)

-- ---- users

abbrev pub change_write : UserChange → Writes Place
change_write (Invisible is_invisible) = user_write invisible (flag_value is_invisible)
change_write (Away text) = user_write away (text_value text)

-- another spelling of a nickname is no other nickname
abbrev pub renaming : (is_same : Bool) → (nick new : List ℕ) → Edit Place
renaming true nick new =
    update (of_one_user (key nick) (stays (user_write nickname new)))
renaming false nick new = rename (key nick) (key new) (user_write nickname new)

-- ---- who comes to a channel

abbrev pub making : (is_there : Bool) → (name : List ℕ) → Writes Place
making true name = no_writes
making false name = channel_write spelling name

abbrev pub joining : (is_there : Bool) → (nick name : List ℕ) → (op : Bool) → Update Place
joining is_there nick name op = of_one_member (key name) (key nick)
    (comes (all_of (member_row (record { op = op; voice = false })))) (making is_there name)

-- who is a member already does not join
abbrev pub joining_if : (is_member is_there : Bool) → (nick name : List ℕ) → (op : Bool)
    → List (Edit Place)
joining_if true is_there nick name op = []
joining_if false is_there nick name op = update (joining is_there nick name op) ∷ []

-- ---- an effect

abbrev pub edits_of : Room → Effect → List (Edit Place)
edits_of room (AddUser user) =
    update (of_one_user (key user.nick) (comes (all_of (user_row user)))) ∷ []
edits_of room (Rename nick new) = renaming (same_fold (key nick) (key new)) nick new ∷ []
edits_of room (Quit nick text) = update (of_one_gone (key nick)) ∷ []
edits_of room (Join nick channel op) =
    joining_if (is_member room nick channel) (has_channel room channel) nick channel op
edits_of room (Part nick channel text) =
    update (of_one_member (key channel) (key nick) goes no_writes) ∷ []
edits_of room (Kick by channel nick text) =
    update (of_one_member (key channel) (key nick) goes no_writes) ∷ []
edits_of room (ChangeModes by channel changes) =
    option_map_or (mode_edits (key channel) changes) (row room.channels (key channel)) []
edits_of room (SetTopic by channel text) =
    update (of_one_channel (key channel) (channel_write topic text)) ∷ []
edits_of room (Say by notice target text) = []
edits_of room (Invite by nick channel) = []
edits_of room (ChangeUser nick change) =
    update (of_one_user (key nick) (stays (change_write change))) ∷ []

-- The greater spelling of a channel's name, which is no effect, is an edit too.
abbrev pub spelling_edits : Room → List ℕ → List (Edit Place)
spelling_edits room name = option_map_or (λ (channel : Channel). update (of_one_channel (key name)
    (channel_write spelling (greater bytes_cmp channel.name name))) ∷ [])
    (row room.channels (key name)) []
