-- Who is shown which line by an effect (RFC 2812 section 3). Viewers are the users before the
-- effect, each at most once, in folded order.
use Rattle.std.specs.Prelude.{ℕ, Bool, false, not, ◌&&◌, ◌||◌, Option, Some, None, List, [], ◌∷◌}
use Rattle.std.specs.Prelude.{◌++◌, codes, if◌then◌else◌}
use Rattle.std.specs.List.{list_any, filter_map}
use Rattle.std.specs.Option.{option_map, option_map_or}
use Rattle.std.specs.FinMap.{values}
use Rattle.irc_names.specs.Fold.{key, same}
use Rattle.irc_names.specs.Tables.{row}
use Rattle.irc_line.specs.Messages.{Sender, Written, named, full, text, middle_text}
use Rattle.irc_users.specs.declared.user.User.{User}
use Rattle.irc_users.specs.declared.user_change.UserChange.{UserChange}
use Rattle.irc_users.specs.declared.user_change.UserChange.TheVariants.{Invisible, Away}
use Rattle.irc_users.specs.UserTable.{is_shown}
use Rattle.irc_modes.specs.declared.modes.ModeChange.{ModeChange}
use Rattle.irc_channels.specs.declared.channel.Channel.{Channel}
use Rattle.irc_channels.specs.Channels.{has_member}
pub use Rattle.irc_modes.specs.Letters.{names_member}
use Rattle.irc_modes.specs.ModeWritten.{letters_text}
use Rattle.irc_effects.specs.declared.effect.By.{By}
use Rattle.irc_effects.specs.declared.effect.By.TheVariants as by
use Rattle.irc_effects.specs.declared.effect.Target.{Target}
use Rattle.irc_effects.specs.declared.effect.Target.TheVariants as target
use Rattle.irc_effects.specs.declared.effect.Effect.{Effect}
use Rattle.irc_effects.specs.declared.effect.Effect.TheVariants.{AddUser, Rename, Quit, Join, Part}
use Rattle.irc_effects.specs.declared.effect.Effect.TheVariants.{Kick, ChangeModes, SetTopic, Say}
use Rattle.irc_effects.specs.declared.effect.Effect.TheVariants.{Invite, ChangeUser}
use Rattle.irc_effects.specs.Room.{Room}
use Rattle.irc_effects.specs.Effects.{is_idle, is_member}

-- whether two users are members of one channel
abbrev pub share_channel : Room → List ℕ → List ℕ → Bool
share_channel room one other = list_any (λ channel. has_member (key one) channel
    && has_member (key other) channel) (values room.channels)

-- Whether a viewer sees the effect. Members are those before it; for a Join the joiner is one too.
abbrev pub sees : Room → Effect → List ℕ → Bool
sees room (AddUser user) viewer = false
sees room (Rename nick new) viewer = same nick viewer || share_channel room nick viewer
sees room (Quit nick text) viewer = not (same nick viewer) && share_channel room nick viewer
sees room (Join nick channel op) viewer = same nick viewer || is_member room viewer channel
sees room (Part nick channel text) viewer = is_member room viewer channel
sees room (Kick by channel nick text) viewer = is_member room viewer channel
sees room (ChangeModes by channel changes) viewer = is_member room viewer channel
sees room (SetTopic by channel text) viewer = is_member room viewer channel
sees room (Say by notice (target.User nick) text) viewer = same nick viewer
sees room (Say by notice (target.Channel channel) text) viewer =
    not (same by viewer) && is_member room viewer channel
sees room (Invite by nick channel) viewer = same nick viewer
sees room (ChangeUser nick change) viewer = is_shown change && same nick viewer

-- Users and channels that are there are written as stored.
abbrev pub stored_nick : Room → List ℕ → List ℕ
stored_nick room nick = option_map_or (λ (user : User). user.nick) (row room.users (key nick)) nick

abbrev pub stored_channel : Room → List ℕ → List ℕ
stored_channel room channel =
    option_map_or (λ (c : Channel). c.name) (row room.channels (key channel)) channel

-- a change's parameter as it is written: behind o and v the nickname as stored, however it was
-- given
abbrev pub written_word : Room → ModeChange → Option (List ℕ)
written_word room c = if names_member c.letter then option_map (stored_nick room) c.word else c.word

-- the parameters in order
abbrev pub written_words : Room → List ModeChange → List (List ℕ)
written_words room changes = filter_map (written_word room) changes

-- The words that changes are written as: the letters, then the parameters in order (RFC 2812
-- section 3.2.3).
abbrev pub changes_words : Room → List ModeChange → List (List ℕ)
changes_words room changes = letters_text changes ∷ written_words room changes

-- the same words in a line, behind a space: each parameter has a space in front of it
abbrev pub changes_text : Room → List ModeChange → List ℕ
changes_text room changes = letters_text changes ++ middle_text (written_words room changes)

-- the user that does it, as it is before the effect
abbrev pub full_sender : User → Sender
full_sender user = full user.nick user.user user.host

-- Who the line is from, as a viewer with this home sees it: nobody where the doer is not there.
abbrev pub from_nick : Room → List ℕ → Option Sender
from_nick room nick = option_map full_sender (row room.users (key nick))

-- the same, where the doer may be a server: each viewer sees its own home as that
abbrev pub from_by : Room → By → User → Option Sender
from_by room (by.User nick) viewer = from_nick room nick
from_by room by.Home viewer = Some (named viewer.home)

-- the parts of a line, and the line, from somebody who is there
abbrev pub parts_of : List ℕ → List (List ℕ) → Option (List ℕ) → Option Sender → Option Written
parts_of command middle last sender =
    option_map (λ s. record { sender = s; command = command; middle = middle; last = last }) sender

abbrev pub line_from : List ℕ → List (List ℕ) → Option (List ℕ) → Option Sender → Option (List ℕ)
line_from command middle last sender = option_map text (parts_of command middle last sender)

-- what a text is for, as it is written
abbrev pub target_name : Room → Target → List ℕ
target_name room (target.User nick) = stored_nick room nick
target_name room (target.Channel channel) = stored_channel room channel

-- what a user is told of a change of its own; who is away is told so by a reply
abbrev pub change_parts : List ℕ → UserChange → Option Sender → Option Written
change_parts nick (Invisible invisible) sender = parts_of (codes "MODE")
    (nick ∷ (if invisible then codes "+i" else codes "-i") ∷ []) None sender
change_parts nick (Away text) sender = None

-- the parts of the line that an effect shows to a viewer, and the line
abbrev pub shown_parts : Room → Effect → User → Option Written
shown_parts room (AddUser user) viewer = None
shown_parts room (Rename nick new) viewer =
    parts_of (codes "NICK") (new ∷ []) None (from_nick room nick)
shown_parts room (Quit nick reason) viewer =
    parts_of (codes "QUIT") [] (Some reason) (from_nick room nick)
shown_parts room (Join nick channel op) viewer =
    parts_of (codes "JOIN") (stored_channel room channel ∷ []) None (from_nick room nick)
shown_parts room (Part nick channel reason) viewer =
    parts_of (codes "PART") (stored_channel room channel ∷ []) (Some reason) (from_nick room nick)
shown_parts room (Kick by channel nick reason) viewer =
    parts_of (codes "KICK") (stored_channel room channel ∷ stored_nick room nick ∷ []) (Some reason)
    (from_nick room by)
shown_parts room (ChangeModes by channel changes) viewer =
    parts_of (codes "MODE") (stored_channel room channel ∷ changes_words room changes) None
    (from_by room by viewer)
shown_parts room (SetTopic by channel topic) viewer = parts_of (codes "TOPIC")
    (stored_channel room channel ∷ []) (Some topic) (from_by room by viewer)
shown_parts room (Say by notice to words) viewer =
    parts_of (if notice then codes "NOTICE" else codes "PRIVMSG") (target_name room to ∷ [])
    (Some (words.items)) (from_nick room by)
shown_parts room (Invite by nick channel) viewer =
    parts_of (codes "INVITE") (stored_nick room nick ∷ stored_channel room channel ∷ []) None
    (from_nick room by)
shown_parts room (ChangeUser nick change) viewer =
    change_parts (stored_nick room nick) change (from_nick room nick)

-- the line that an effect shows to a viewer, if it shows one
abbrev pub shown_line : Room → Effect → User → Option (List ℕ)
shown_line room effect viewer = option_map text (shown_parts room effect viewer)

-- a viewer, by its nickname before the effect, and the line that it is shown
pub record Showing : Type 0 where
  pub viewer : List ℕ
  pub line : List ℕ

-- the viewer with its line, where it sees the effect
abbrev pub shown_to : Room → Effect → User → Option Showing
shown_to room effect viewer =
    if sees room effect viewer.nick then option_map (λ line.
    record { viewer = viewer.nick; line = line }) (shown_line room effect viewer) else None

-- what an effect shows; an idle one shows nothing
unfoldable pub seen : Room → Effect → List Showing
seen room effect =
    if is_idle room effect then [] else filter_map (shown_to room effect) (values room.users)
