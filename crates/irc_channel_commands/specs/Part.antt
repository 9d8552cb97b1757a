-- PART.
use Rattle.std.specs.Prelude.{ℕ, Option, Some, None, List, [], ◌∷◌, if◌then◌else◌}
use Rattle.irc_names.specs.Fold.{key}
use Rattle.irc_names.specs.Tables.{row}
use Rattle.irc_users.specs.declared.user.User.{User}
use Rattle.irc_channels.specs.declared.channel.Channel.{Channel}
use Rattle.irc_channels.specs.Channels.{has_member}
use Rattle.irc_numerics.specs.declared.replies.Reply.TheVariants.{NoSuchChannel, NotOnChannel}
use Rattle.irc_room.specs.effect.Effect.TheVariants.{Part}
use Rattle.irc_room.specs.Room.{Room}
use Rattle.irc_acts.specs.declared.act.Act.{Act}
use Rattle.irc_acts.specs.declared.act.Act.TheVariants.{Answer, Do}
use Rattle.irc_acts.specs.Ahead.{in_turn}
use Rattle.irc_acts.specs.CommaLists.{entries}
use Rattle.irc_acts.specs.Acts.{client_words}
use Rattle.irc_acts.specs.Words.{reason_given}

-- what comes of leaving the channel that was found under a name, if one was
abbrev pub left_by : User → List ℕ → List ℕ → Option Channel → List Act
left_by me text name None = Answer (NoSuchChannel (client_words name)) ∷ []
left_by me text name (Some channel) =
    if has_member (key me.nick) channel then Do (Part me.nick channel.name text) ∷ []
    else Answer (NotOnChannel channel.name) ∷ []

-- one name of the list, in the room as those before it leave it
abbrev pub part_one : User → List ℕ → Room → List ℕ → List Act
part_one me text room name = left_by me text name (row room.channels (key name))

-- the channels of a comma list, one after another
abbrev pub part_list : Room → User → List ℕ → List ℕ → List Act
part_list room me text list = in_turn (part_one me text) room (entries list)

-- What a PART of a list of channels does (RFC 2812 section 3.2.2): the parameter behind it is the
-- text, and the nickname stands for it where it is absent or empty.
unfoldable pub part_steps : Room → User → List ℕ → List (List ℕ) → List Act
part_steps room me list more = part_list room me (reason_given more me.nick) list
