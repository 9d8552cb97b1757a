-- How a user stands to a channel: what it is there, whether it is banned, and what it may know of
-- it.
use Rattle.std.specs.Prelude.{ℕ, Bool, true, false, not, ◌||◌, Option, Some, None, List, map}
use Rattle.std.specs.Prelude.{if◌then◌else◌}
use Rattle.std.specs.Borrow.{Bor}
use Rattle.std.specs.List.{list_any}
use Rattle.irc_names.specs.Fold.{key, same}
use Rattle.irc_names.specs.MaskLaws.{matches}
use Rattle.irc_line.specs.Messages.{full_name}
use Rattle.irc_tables.specs.declared.table.Row.{Row}
use Rattle.irc_users.specs.declared.user.User.{User}
use Rattle.irc_channels.specs.declared.flags.Flags.{Flags}
use Rattle.irc_modes.specs.declared.modes.Privacy.{Privacy}
use Rattle.irc_modes.specs.declared.modes.Privacy.TheVariants as privacy
use Rattle.irc_channels.specs.declared.channel.Channel.{Channel}
use Rattle.irc_channels.specs.Channels.{has_member}
use Rattle.irc_numerics.specs.declared.replies.MemberMark.{MemberMark}
use Rattle.irc_numerics.specs.declared.replies.MemberMark.TheVariants as mark
use Rattle.irc_numerics.specs.declared.replies.Visibility.{Visibility}
use Rattle.irc_numerics.specs.declared.replies.Visibility.TheVariants as visibility
use Rattle.irc_room.specs.Room.{Room}
use Rattle.irc_acts.specs.Moves.{own_channels}

-- nick!user@host, against which bans are held (RFC 2811 section 4.3)
abbrev pub mask_of : User → List ℕ
mask_of user = full_name user.nick user.user user.host

-- whether some ban of a channel is against a user
abbrev pub is_banned : User → Channel → Bool
is_banned user channel = list_any (λ ban. matches ban (mask_of user)) channel.modes.bans

-- whether a user is an operator, by its flags, if it is a member
abbrev pub is_operator : Option Flags → Bool
is_operator None = false
is_operator (Some flags) = flags.op

-- what a member is shown as: an operator, else a member with voice, else a member
abbrev pub mark_of : Flags → MemberMark
mark_of flags =
    if flags.op then mark.Operator else (if flags.voice then mark.Voiced else mark.Plain)

-- who may know of a channel (RFC 2811 section 4.2.6)
abbrev pub visibility_of : Privacy → Visibility
visibility_of privacy.Public = visibility.Public
visibility_of privacy.Private = visibility.Private
visibility_of privacy.Secret = visibility.Secret

-- whether the channel is listed for everybody
abbrev pub is_public : Privacy → Bool
is_public privacy.Public = true
is_public other = false

-- whether its members alone may know of it
abbrev pub is_secret : Privacy → Bool
is_secret privacy.Secret = true
is_secret other = false

-- A channel is listed for its members, and for others where it is neither private nor secret (our
-- own choice, after RFC 2811 section 4.2.6).
abbrev pub is_listed : User → Channel → Bool
is_listed user channel = has_member (key user.nick) channel || is_public channel.modes.privacy

-- It is known to its members, and to others where it is not secret.
abbrev pub is_known : User → Channel → Bool
is_known user channel = has_member (key user.nick) channel || not (is_secret channel.modes.privacy)

-- the channels of rows that were found
abbrev pub channels_now : List (Bor (Row Channel)) → List Channel
channels_now rows = map (λ row. row.now.value) rows

-- whether one who is in these channels sees a user: itself, a user without mode i, and who is in
-- one of them
abbrev pub is_seen_from : List Channel → User → User → Bool
is_seen_from own me user =
    same me.nick user.nick || (not user.invisible || list_any (has_member (key user.nick)) own)

-- A user sees itself, users without mode i, and those that share a channel with it (RFC 2812
-- section 3.6.1; that it sees itself is our own choice).
abbrev pub is_seen : Room → User → User → Bool
is_seen room me user = is_seen_from (own_channels room me) me user
