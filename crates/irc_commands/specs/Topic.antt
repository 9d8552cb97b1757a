-- TOPIC.
use Rattle.std.specs.Prelude.{ℕ, not, ◌&&◌, Option, Some, None, List, [], ◌∷◌, if◌then◌else◌}
use Rattle.irc_names.specs.Fold.{key}
use Rattle.irc_names.specs.Tables.{row}
use Rattle.irc_users.specs.declared.user.User.{User}
use Rattle.irc_channels.specs.declared.flags.Flags.{Flags}
use Rattle.irc_channels.specs.declared.channel.Channel.{Channel}
use Rattle.irc_channels.specs.Texts.{cut_words}
use Rattle.irc_numerics.specs.declared.replies.Reply.TheVariants.{NoSuchChannel, NoTopic, Topic}
use Rattle.irc_numerics.specs.declared.replies.Reply.TheVariants.{NotOnChannel, ChanOPrivsNeeded}
use Rattle.irc_room.specs.effect.By.TheVariants as by
use Rattle.irc_room.specs.effect.Effect.TheVariants.{SetTopic}
use Rattle.irc_room.specs.Room.{Room}
use Rattle.irc_acts.specs.declared.act.Act.{Act}
use Rattle.irc_acts.specs.declared.act.Act.TheVariants.{Answer, Do}
use Rattle.irc_acts.specs.Acts.{bytes_kept, client_words}
use Rattle.irc_acts.specs.Standing.{is_known}

-- what a client is told of a topic; an empty one is none
abbrev pub topic_told : List ℕ → List ℕ → Act
topic_told name [] = Answer (NoTopic name)
topic_told name (b ∷ bytes) = Answer (Topic name (bytes_kept (b ∷ bytes)))

-- a member sets the topic, and where mode t is set only an operator does (RFC 2811 section 4.2.8);
-- an empty text clears it
abbrev pub topic_set : User → Channel → List ℕ → Option Flags → Act
topic_set me channel text None = Answer (NotOnChannel channel.name)
topic_set me channel text (Some flags) =
    if channel.modes.topic_locked && not flags.op then Answer (ChanOPrivsNeeded channel.name)
    else Do (SetTopic (by.User me.nick) channel.name (cut_words text))

-- of a channel that the user may know of: its topic is told where no text is given, else set
abbrev pub topic_known : User → Channel → List (List ℕ) → Act
topic_known me channel [] = topic_told channel.name channel.topic
topic_known me channel (text ∷ more) = topic_set me channel text (row channel.members (key me.nick))

-- a secret channel is not there for who is no member
abbrev pub topic_of : User → List ℕ → List (List ℕ) → Option Channel → Act
topic_of me name more None = Answer (NoSuchChannel (client_words name))
topic_of me name more (Some channel) =
    if is_known me channel then topic_known me channel more
    else Answer (NoSuchChannel (client_words name))

-- what a TOPIC of the channel of a name does (RFC 2812 section 3.2.4); the parameter behind it is
-- the topic that is set
unfoldable pub topic_steps : Room → User → List ℕ → List (List ℕ) → List Act
topic_steps room me name more = topic_of me name more (row room.channels (key name)) ∷ []
