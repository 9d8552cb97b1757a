-- What stands in the rows of a room, place by place, and each value as bytes in the order by which
-- the greater of two is kept: what is set over what is not, s over p, keys, topics and spellings by
-- bytes, limits by number.
--
--   #c of al, an operator, with +ik x and the topic hi
--   spelling        #c            topic           hi
--   invite_only     1             channel_key     1x (a 1 in front: a key is set)
--   every other place is empty, and operator has a 1 in the row of al as a member
use Rattle.std.specs.Prelude.{ℕ, Bool, true, false, Option, Some, None, List, [], ◌∷◌, find}
use Rattle.std.specs.Prelude.{nat_eq, ◌&&◌, if◌then◌else◌}
use Rattle.irc_names.specs.Fold.{same}
use Rattle.irc_users.specs.declared.user.User.{User}
use Rattle.irc_modes.specs.declared.modes.Modes.{Modes}
use Rattle.irc_modes.specs.declared.modes.Privacy.{Privacy}
use Rattle.irc_modes.specs.declared.modes.Privacy.TheVariants.{Public, Private, Secret}
use Rattle.irc_channels.specs.declared.channel.Channel.{Channel}
use Rattle.irc_channels.specs.declared.flags.Flags.{Flags}
use Rattle.irc_edited_rooms.specs.Writes.{Row, Writes}

pub data UserPlace : Type 0 where
  nickname : UserPlace
  user_name : UserPlace
  host : UserPlace
  real_name : UserPlace
  home : UserPlace
  invisible : UserPlace
  away : UserPlace

pub data MemberPlace : Type 0 where
  operator : MemberPlace
  voice : MemberPlace

-- each ban is a place of its own, by its mask under the fold; p and s are one
pub data ChannelPlace : Type 0 where
  spelling : ChannelPlace
  topic : ChannelPlace
  invite_only : ChannelPlace
  moderated : ChannelPlace
  no_outside : ChannelPlace
  topic_locked : ChannelPlace
  privacy : ChannelPlace
  channel_key : ChannelPlace
  limit : ChannelPlace
  ban : (mask : List ℕ) → ChannelPlace

pub data Place : Type 0 where
  of_user : UserPlace → Place
  of_member : MemberPlace → Place
  of_channel : ChannelPlace → Place

-- ---- values

abbrev pub flag_value : Bool → List ℕ
flag_value true = 1 ∷ []
flag_value false = []

abbrev pub text_value : Option (List ℕ) → List ℕ
text_value None = []
text_value (Some text) = 1 ∷ text

abbrev pub limit_value : Option ℕ → List ℕ
limit_value None = []
limit_value (Some number) = number ∷ []

abbrev pub privacy_value : Privacy → List ℕ
privacy_value Public = []
privacy_value Private = 1 ∷ []
privacy_value Secret = 2 ∷ []

-- ---- rows

abbrev pub user_at : User → UserPlace → List ℕ
user_at user nickname = user.nick
user_at user user_name = user.user
user_at user host = user.host
user_at user real_name = user.real
user_at user home = user.home
user_at user invisible = flag_value user.invisible
user_at user away = text_value user.set.away

abbrev pub user_row : User → Row Place
user_row user (of_user place) = user_at user place
user_row user (of_member place) = []
user_row user (of_channel place) = []

abbrev pub flag_at : Flags → MemberPlace → List ℕ
flag_at flags operator = flag_value flags.op
flag_at flags voice = flag_value flags.voice

abbrev pub member_row : Flags → Row Place
member_row flags (of_user place) = []
member_row flags (of_member place) = flag_at flags place
member_row flags (of_channel place) = []

abbrev pub mode_at : Modes → ChannelPlace → List ℕ
mode_at modes spelling = []
mode_at modes topic = []
mode_at modes invite_only = flag_value modes.invite_only
mode_at modes moderated = flag_value modes.moderated
mode_at modes no_outside = flag_value modes.no_outside
mode_at modes topic_locked = flag_value modes.topic_locked
mode_at modes privacy = privacy_value modes.privacy
mode_at modes channel_key = text_value modes.key
mode_at modes limit = limit_value modes.limit
mode_at modes (ban mask) = text_value (find (same mask) modes.bans)

abbrev pub set_at : Channel → ChannelPlace → List ℕ
set_at channel spelling = channel.name
set_at channel topic = channel.topic
set_at channel invite_only = mode_at channel.modes invite_only
set_at channel moderated = mode_at channel.modes moderated
set_at channel no_outside = mode_at channel.modes no_outside
set_at channel topic_locked = mode_at channel.modes topic_locked
set_at channel privacy = mode_at channel.modes privacy
set_at channel channel_key = mode_at channel.modes channel_key
set_at channel limit = mode_at channel.modes limit
set_at channel (ban mask) = mode_at channel.modes (ban mask)

abbrev pub channel_row : Channel → Row Place
channel_row channel (of_user place) = []
channel_row channel (of_member place) = []
channel_row channel (of_channel place) = set_at channel place

-- ---- a write of one place

abbrev pub user_number : UserPlace → ℕ
user_number nickname = 0
user_number user_name = 1
user_number host = 2
user_number real_name = 3
user_number home = 4
user_number invisible = 5
user_number away = 6

abbrev pub user_write : UserPlace → List ℕ → Writes Place
user_write at value (of_user place) =
    if nat_eq (user_number at) (user_number place) then Some value else None
user_write at value (of_member place) = None
user_write at value (of_channel place) = None

abbrev pub member_number : MemberPlace → ℕ
member_number operator = 0
member_number voice = 1

abbrev pub member_write : MemberPlace → List ℕ → Writes Place
member_write at value (of_user place) = None
member_write at value (of_member place) =
    if nat_eq (member_number at) (member_number place) then Some value else None
member_write at value (of_channel place) = None

abbrev pub channel_number : ChannelPlace → ℕ
channel_number spelling = 0
channel_number topic = 1
channel_number invite_only = 2
channel_number moderated = 3
channel_number no_outside = 4
channel_number topic_locked = 5
channel_number privacy = 6
channel_number channel_key = 7
channel_number limit = 8
channel_number (ban mask) = 9

abbrev pub mask_of : ChannelPlace → List ℕ
mask_of (ban mask) = mask
mask_of other = []

abbrev pub is_one_place : (one other : ChannelPlace) → Bool
is_one_place one other =
    nat_eq (channel_number one) (channel_number other) && same (mask_of one) (mask_of other)

abbrev pub channel_write : ChannelPlace → List ℕ → Writes Place
channel_write at value (of_user place) = None
channel_write at value (of_member place) = None
channel_write at value (of_channel place) = if is_one_place at place then Some value else None
