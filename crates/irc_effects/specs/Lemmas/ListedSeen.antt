-- What an effect shows in a room that is made of lists: it computes.
use Rattle.std.proofs.Common.{◌≡◌, ℕ, Bool, false, ◌&&◌, ◌||◌, not, T, Option, Some, None, List, []}
use Rattle.std.proofs.Common.{◌∷◌, refl, ◌∙◌, ap, is_some, map, filter_map, if◌then◌else◌}
use Rattle.std.proofs.Common.{option_map, codes}
use Rattle.std.specs.Option.{option_map_or}
use Rattle.std.specs.List.{list_any}
use Rattle.std.specs.FinMap.{values}
use Rattle.std.specs.FinMap.Entries.{find, is_sorted}
use Rattle.std.proofs.lemmas.Iterator.Adapters.{option_map_id}
use Rattle.irc_names.specs.Lemmas.PlainFacts.{is_some-map}
use Rattle.irc_names.specs.Fold.{key, same}
use Rattle.irc_names.specs.Tables.{fold_cmp, row}
use Rattle.irc_line.specs.Messages.{Sender, named, text}
use Rattle.irc_users.specs.declared.user.User.{User}
use Rattle.irc_users.specs.UserTable.{is_shown}
use Rattle.irc_channels.specs.declared.channel.Channel.{Channel}
use Rattle.irc_channels.specs.Channels.{has_member}
use Rattle.irc_modes.specs.ModeWritten.{letters_text}
use Rattle.irc_modes.specs.declared.modes.ModeChange.{ModeChange}
use Rattle.irc_effects.specs.declared.effect.By.{By}
use Rattle.irc_effects.specs.declared.effect.By.TheVariants as by
use Rattle.irc_effects.specs.declared.effect.Target.{Target}
use Rattle.irc_effects.specs.declared.effect.Target.TheVariants as target
use Rattle.irc_effects.specs.declared.effect.Effect.{Effect}
use Rattle.irc_effects.specs.declared.effect.Effect.TheVariants.{AddUser, Rename, Quit, Join, Part}
use Rattle.irc_effects.specs.declared.effect.Effect.TheVariants.{Kick, ChangeModes, SetTopic, Say}
use Rattle.irc_effects.specs.declared.effect.Effect.TheVariants.{Invite, ChangeUser}
use Rattle.irc_effects.specs.Room.{Room}
use Rattle.irc_effects.specs.Effects.{is_idle, is_member, has_channel}
use Rattle.irc_effects.specs.Seen.{Showing, seen, shown_to, share_channel, stored_nick}
use Rattle.irc_effects.specs.Seen.{stored_channel, from_nick, full_sender, line_from, names_member}
use Rattle.irc_effects.specs.Seen.{change_parts}
use Rattle.irc_effects.specs.Lemmas.Listed.{row_listed, entries_listed}
use Rattle.irc_effects.specs.Lemmas.ListedRooms.{ListedChannel, ListedRoom, channel_of, room_of}
use Rattle.irc_effects.specs.Lemmas.ListedRooms.{lists_member, member_listed}

-- all that is asked of a room to tell what an effect shows
pub record RoomAnswers : Type 0 where
  pub channel_there : List ℕ → Bool
  pub member : List ℕ → List ℕ → Bool
  pub share : List ℕ → List ℕ → Bool
  pub nick : List ℕ → List ℕ
  pub channel : List ℕ → List ℕ
  pub sender : List ℕ → Option Sender

abbrev asked_of : Room → RoomAnswers
asked_of room = record {
  channel_there = has_channel room;
  member = is_member room;
  share = share_channel room;
  nick = stored_nick room;
  channel = stored_channel room;
  sender = from_nick room;
}

abbrev pub idle_by : RoomAnswers → Effect → Bool
idle_by asked (Join nick channel op) = asked.member nick channel
idle_by asked (Part nick channel text) =
    asked.channel_there channel && not (asked.member nick channel)
idle_by asked (Kick by channel nick text) =
    asked.channel_there channel && not (asked.member nick channel)
idle_by asked other = false

abbrev pub sees_by : RoomAnswers → Effect → List ℕ → Bool
sees_by asked (AddUser user) viewer = false
sees_by asked (Rename nick new) viewer = same nick viewer || asked.share nick viewer
sees_by asked (Quit nick text) viewer = not (same nick viewer) && asked.share nick viewer
sees_by asked (Join nick channel op) viewer = same nick viewer || asked.member viewer channel
sees_by asked (Part nick channel text) viewer = asked.member viewer channel
sees_by asked (Kick by channel nick text) viewer = asked.member viewer channel
sees_by asked (ChangeModes by channel changes) viewer = asked.member viewer channel
sees_by asked (SetTopic by channel text) viewer = asked.member viewer channel
sees_by asked (Say by notice (target.User nick) text) viewer = same nick viewer
sees_by asked (Say by notice (target.Channel channel) text) viewer =
    not (same by viewer) && asked.member viewer channel
sees_by asked (Invite by nick channel) viewer = same nick viewer
sees_by asked (ChangeUser nick change) viewer = is_shown change && same nick viewer

abbrev sender_by : RoomAnswers → By → User → Option Sender
sender_by asked (by.User nick) viewer = asked.sender nick
sender_by asked by.Home viewer = Some (named viewer.home)

abbrev target_by : RoomAnswers → Target → List ℕ
target_by asked (target.User nick) = asked.nick nick
target_by asked (target.Channel channel) = asked.channel channel

abbrev word_by : RoomAnswers → ModeChange → Option (List ℕ)
word_by asked c = if names_member c.letter then option_map asked.nick c.word else c.word

abbrev pub line_by : RoomAnswers → Effect → User → Option (List ℕ)
line_by asked (AddUser user) viewer = None
line_by asked (Rename nick new) viewer =
    line_from (codes "NICK") (new ∷ []) None (asked.sender nick)
line_by asked (Quit nick reason) viewer =
    line_from (codes "QUIT") [] (Some reason) (asked.sender nick)
line_by asked (Join nick channel op) viewer =
    line_from (codes "JOIN") (asked.channel channel ∷ []) None (asked.sender nick)
line_by asked (Part nick channel reason) viewer =
    line_from (codes "PART") (asked.channel channel ∷ []) (Some reason) (asked.sender nick)
line_by asked (Kick by channel nick reason) viewer =
    line_from (codes "KICK") (asked.channel channel ∷ asked.nick nick ∷ []) (Some reason)
    (asked.sender by)
line_by asked (ChangeModes by channel changes) viewer =
    line_from (codes "MODE") (asked.channel channel ∷ letters_text changes ∷ filter_map
    (word_by asked) changes) None (sender_by asked by viewer)
line_by asked (SetTopic by channel topic) viewer =
    line_from (codes "TOPIC") (asked.channel channel ∷ []) (Some topic) (sender_by asked by viewer)
line_by asked (Say by notice to words) viewer =
    line_from (if notice then codes "NOTICE" else codes "PRIVMSG") (target_by asked to ∷ [])
    (Some (words.items)) (asked.sender by)
line_by asked (Invite by nick channel) viewer =
    line_from (codes "INVITE") (asked.nick nick ∷ asked.channel channel ∷ []) None (asked.sender by)
line_by asked (ChangeUser nick change) viewer =
    option_map text (change_parts (asked.nick nick) change (asked.sender nick))

abbrev pub shown_by : RoomAnswers → Effect → User → Option Showing
shown_by asked effect viewer =
    if sees_by asked effect viewer.nick then option_map (λ line.
    record { viewer = viewer.nick; line = line }) (line_by asked effect viewer) else None

abbrev pub seen_by : RoomAnswers → List User → Effect → List Showing
seen_by asked users effect =
    if idle_by asked effect then [] else filter_map (shown_by asked effect) users

idle_asked : (room : Room) (effect : Effect) → is_idle room effect ≡ idle_by (asked_of room) effect
idle_asked room other = refl

shown_asked : (room : Room) (effect : Effect) (viewer : User)
    → shown_to room effect viewer ≡ shown_by (asked_of room) effect viewer
shown_asked room (ChangeModes (by.User nick) channel changes) viewer = refl
shown_asked room (ChangeModes by.Home channel changes) viewer = refl
shown_asked room (SetTopic (by.User nick) channel text) viewer = refl
shown_asked room (SetTopic by.Home channel text) viewer = refl
shown_asked room (Say by notice (target.User nick) text) viewer = refl
shown_asked room (Say by notice (target.Channel channel) text) viewer = refl
shown_asked room other viewer = refl

seen_asked : (room : Room) (effect : Effect)
    → seen room effect ≡ seen_by (asked_of room) (values room.users) effect
unfolding seen
seen_asked room effect = λ i. if idle_asked room effect i then []
    else filter_map (λ viewer. shown_asked room effect viewer i) (values room.users)

-- The answers of a room that is made of lists.

abbrev pub list_asked : ListedRoom → RoomAnswers
list_asked room = record {
  channel_there = λ channel. is_some (find fold_cmp (key channel) room.channels);
  member = λ nick channel. option_map_or (lists_member (key nick))
      (find fold_cmp (key channel) room.channels) false;
  share = λ one other. list_any (λ c. lists_member (key one) c && lists_member (key other) c)
      (map (λ e. e.1) room.channels);
  nick =
      λ nick. option_map_or (λ (user : User). user.nick) (find fold_cmp (key nick) room.users) nick;
  channel = λ channel. option_map_or (λ (c : ListedChannel). c.name)
      (find fold_cmp (key channel) room.channels) channel;
  sender = λ nick. option_map full_sender (find fold_cmp (key nick) room.users);
}

abbrev pub list_seen : ListedRoom → Effect → List Showing
list_seen room effect = seen_by (list_asked room) (map (λ e. e.1) room.users) effect

pub user_listed : (room : ListedRoom) (q : List ℕ)
    → row (room_of room).users q ≡ find fold_cmp q room.users
user_listed room q = row_listed (λ u. u) room.users q ∙ option_map_id (find fold_cmp q room.users)

pub channel_listed : (room : ListedRoom) (q : List ℕ)
    → row (room_of room).channels q ≡ option_map channel_of (find fold_cmp q room.channels)
channel_listed room q = row_listed channel_of room.channels q

member_of : (nick : List ℕ) (o : Option ListedChannel)
    → option_map_or (has_member nick) (option_map channel_of o) false
    ≡ option_map_or (lists_member nick) o false
member_of nick None = refl
member_of nick (Some c) = member_listed nick c

name_of : (o : Option ListedChannel) (channel : List ℕ) → option_map_or (λ (c : Channel). c.name)
    (option_map channel_of o) channel ≡ option_map_or (λ (c : ListedChannel). c.name) o channel
name_of None channel = refl
name_of (Some c) channel = refl

shares : (one other : List ℕ) (es : List (List ℕ × ListedChannel))
    → list_any (λ c. has_member one c && has_member other c)
    (map (λ (e : List ℕ × Channel). e.1) (map (λ e. (e.0, channel_of e.1)) es))
    ≡ list_any (λ c. lists_member one c && lists_member other c) (map (λ e. e.1) es)
shares one other [] = refl
shares one other (e ∷ es) =
    λ i. (member_listed one e.1 i && member_listed other e.1 i) || shares one other es i

values_itself : {X : Type 0} (es : List (List ℕ × X))
    → map (λ (e : List ℕ × X). e.1) (map (λ e. (e.0, e.1)) es) ≡ map (λ e. e.1) es
values_itself [] = refl
values_itself (e ∷ es) = ap (λ xs. e.1 ∷ xs) (values_itself es)

-- whether the lists of a room are in order
pub record IsInOrder (room : ListedRoom) : Type 0 where
  pub users : T (is_sorted fold_cmp (map (λ e. (e.0, e.1)) room.users))
  pub channels : T (is_sorted fold_cmp (map (λ e. (e.0, channel_of e.1)) room.channels))

pub member_asked : (room : ListedRoom) (nick channel : List ℕ)
    → is_member (room_of room) nick channel ≡ (list_asked room).member nick channel
member_asked room nick channel =
    ap (λ o. option_map_or (has_member (key nick)) o false) (channel_listed room (key channel))
    ∙ member_of (key nick) (find fold_cmp (key channel) room.channels)

share_asked : (room : ListedRoom) → IsInOrder room → (one other : List ℕ)
    → share_channel (room_of room) one other ≡ (list_asked room).share one other
share_asked room order one other =
    ap (λ (es : List (List ℕ × Channel)). list_any
    (λ c. has_member (key one) c && has_member (key other) c) (map (λ e. e.1) es))
    (entries_listed channel_of room.channels order.channels)
    ∙ shares (key one) (key other) room.channels

answers_listed : (room : ListedRoom) → IsInOrder room → asked_of (room_of room) ≡ list_asked room
answers_listed room order = λ i. record {
  channel_there = λ channel. (ap is_some (channel_listed room (key channel))
      ∙ is_some-map channel_of (find fold_cmp (key channel) room.channels)) i;
  member = λ nick channel. member_asked room nick channel i;
  share = λ one other. share_asked room order one other i;
  nick = λ nick. option_map_or (λ (user : User). user.nick) (user_listed room (key nick) i) nick;
  channel = λ channel.
      (ap (λ o. option_map_or (λ (c : Channel). c.name) o channel)
      (channel_listed room (key channel))
      ∙ name_of (find fold_cmp (key channel) room.channels) channel)
      i;
  sender = λ nick. option_map full_sender (user_listed room (key nick) i);
}

pub seen_listed : (room : ListedRoom) (effect : Effect) → IsInOrder room
    → seen (room_of room) effect ≡ list_seen room effect
seen_listed room effect order =
    seen_asked (room_of room) effect
    ∙ (λ i. seen_by (answers_listed room order i)
    ((ap (map (λ (e : List ℕ × User). e.1)) (entries_listed (λ u. u) room.users order.users)
    ∙ values_itself room.users) i) effect)
