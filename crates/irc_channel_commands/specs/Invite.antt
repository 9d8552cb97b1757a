-- INVITE.
use Rattle.std.specs.Prelude.{ℕ, not, ◌&&◌, is_some, Option, Some, None, List, [], ◌∷◌}
use Rattle.std.specs.Prelude.{if◌then◌else◌}
use Rattle.irc_names.specs.Fold.{key}
use Rattle.irc_names.specs.Names.{is_channel}
use Rattle.irc_names.specs.Tables.{row}
use Rattle.irc_users.specs.declared.user.User.{User}
use Rattle.irc_channels.specs.declared.channel.Channel.{Channel}
use Rattle.irc_channels.specs.Channels.{has_member}
use Rattle.irc_numerics.specs.declared.replies.Reply.TheVariants.{Inviting, NoSuchNick}
use Rattle.irc_numerics.specs.declared.replies.Reply.TheVariants.{NoSuchChannel, NotOnChannel}
use Rattle.irc_numerics.specs.declared.replies.Reply.TheVariants.{UserOnChannel, ChanOPrivsNeeded}
use Rattle.irc_room.specs.effect.Effect.TheVariants.{Invite}
use Rattle.irc_room.specs.Room.{Room}
use Rattle.irc_acts.specs.declared.act.Act.{Act}
use Rattle.irc_acts.specs.declared.act.Act.TheVariants.{Answer, Do}
use Rattle.irc_acts.specs.Acts.{client_words}
use Rattle.irc_acts.specs.Refusing.{RefusalRow, where_so, first_refusal, unless_refused}
use Rattle.irc_acts.specs.Standing.{is_operator}

-- why a user may not invite another to a channel that is there: where mode i is set only an
-- operator does (RFC 2811 section 4.2.2)
abbrev pub invite_refusals : User → User → Channel → List RefusalRow
invite_refusals me other channel =
    let flags = row channel.members (key me.nick) in
    where_so (not (is_some flags)) (NotOnChannel channel.name)
    ∷ where_so (has_member (key other.nick) channel) (UserOnChannel other.nick channel.name)
    ∷ where_so (channel.modes.invite_only && not (is_operator flags))
    (ChanOPrivsNeeded channel.name)
    ∷ []

-- the user is told that the other is invited, who is invited then
abbrev pub invites : User → User → List ℕ → List Act
invites me other name = Answer (Inviting name other.nick) ∷ Do (Invite me.nick other.nick name) ∷ []

-- to a channel that is there
abbrev pub invites_there : User → User → Channel → List Act
invites_there me other channel = unless_refused (first_refusal (invite_refusals me other channel))
    (invites me other channel.name)

-- By the channel that was found under the name, if one was. To one that is not there anybody
-- invites, with the name as it was given.
abbrev pub invites_found : User → User → List ℕ → Option Channel → List Act
invites_found me other name None = if is_channel name then invites me other name
    else Answer (NoSuchChannel (client_words name)) ∷ []
invites_found me other name (Some channel) = invites_there me other channel

-- by the user that was found under the nickname, if one was
abbrev pub invites_user : Room → User → List ℕ → List ℕ → Option User → List Act
invites_user room me nick name None = Answer (NoSuchNick (client_words nick)) ∷ []
invites_user room me nick name (Some other) =
    invites_found me other name (row room.channels (key name))

-- what an INVITE of the user of a nickname to the channel of a name does (RFC 2812 section 3.2.7)
unfoldable pub invite_steps : Room → User → List ℕ → List ℕ → List Act
invite_steps room me nick name = invites_user room me nick name (row room.users (key nick))
