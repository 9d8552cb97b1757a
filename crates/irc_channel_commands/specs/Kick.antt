-- KICK.
use Rattle.std.specs.Prelude.{ℕ, not, is_some, Option, Some, None, List, [], ◌∷◌, codes, length}
use Rattle.std.specs.Prelude.{map, nat_eq, if◌then◌else◌}
use Rattle.irc_names.specs.Fold.{key}
use Rattle.irc_names.specs.Tables.{Table, row}
use Rattle.irc_users.specs.declared.user.User.{User}
use Rattle.irc_channels.specs.declared.flags.Flags.{Flags}
use Rattle.irc_channels.specs.declared.channel.Channel.{Channel}
use Rattle.irc_channels.specs.Channels.{has_member}
use Rattle.irc_numerics.specs.declared.replies.Reply.TheVariants.{NeedMoreParams, NoSuchChannel}
use Rattle.irc_numerics.specs.declared.replies.Reply.TheVariants.{UserNotInChannel, NotOnChannel}
use Rattle.irc_numerics.specs.declared.replies.Reply.TheVariants.{ChanOPrivsNeeded}
use Rattle.irc_room.specs.effect.Effect.TheVariants.{Kick}
use Rattle.irc_room.specs.Room.{Room}
use Rattle.irc_acts.specs.declared.act.Act.{Act}
use Rattle.irc_acts.specs.declared.act.Act.TheVariants.{Answer, Do}
use Rattle.irc_acts.specs.Ahead.{in_turn}
use Rattle.irc_acts.specs.Acts.{client_words}
use Rattle.irc_acts.specs.CommaLists.{entries}
use Rattle.irc_acts.specs.Refusing.{RefusalRow, where_so, first_refusal, unless_refused}
use Rattle.irc_acts.specs.Standing.{is_operator}
use Rattle.irc_acts.specs.Words.{reason_given}

-- a nickname that is to be kicked, and the channel that it is to be kicked from
pub record Kicking : Type 0 where
  pub channel : List ℕ
  pub nick : List ℕ

-- an entry for this channel and this nickname
abbrev pub kicking : List ℕ → List ℕ → Kicking
kicking channel nick = record { channel = channel; nick = nick }

-- each channel with the nickname at the same place
abbrev pub paired : List (List ℕ) → List (List ℕ) → List Kicking
paired [] nicks = []
paired (channel ∷ channels) [] = []
paired (channel ∷ channels) (nick ∷ nicks) = kicking channel nick ∷ paired channels nicks

-- One channel is meant for all the nicknames; else there have to be as many channels as nicknames
-- (RFC 2812 section 3.2.8).
abbrev pub kicks_asked : List (List ℕ) → List (List ℕ) → Option (List Kicking)
kicks_asked (channel ∷ []) nicks = Some (map (kicking channel) nicks)
kicks_asked channels nicks =
    if nat_eq (length channels) (length nicks) then Some (paired channels nicks) else None

-- the user of a nickname, where it is a member of a channel
abbrev pub member_named : Table User → Channel → List ℕ → Option User
member_named users channel nick = if has_member (key nick) channel then row users (key nick)
    else None

-- why a user may not kick from the channel of this name, by its flags there, if it is a member
abbrev pub kick_refusals : List ℕ → Option Flags → List RefusalRow
kick_refusals name flags =
    where_so (not (is_some flags)) (NotOnChannel name)
    ∷ where_so (not (is_operator flags)) (ChanOPrivsNeeded name)
    ∷ []

-- the member of a nickname is kicked from the channel of this name; where there is none, the
-- nickname is repeated as it was given
abbrev pub kicks : User → List ℕ → List ℕ → List ℕ → Option User → List Act
kicks me text name nick None = Answer (UserNotInChannel (client_words nick) name) ∷ []
kicks me text name nick (Some member) = Do (Kick me.nick name member.nick text) ∷ []

-- what comes of kicking from the channel that was found under a name, if one was
abbrev pub kicks_found : Table User → User → List ℕ → Kicking → Option Channel → List Act
kicks_found users me text asked None = Answer (NoSuchChannel (client_words asked.channel)) ∷ []
kicks_found users me text asked (Some channel) =
    unless_refused (first_refusal (kick_refusals channel.name (row channel.members (key me.nick))))
    (kicks me text channel.name asked.nick (member_named users channel asked.nick))

-- one entry of the list, in the room as those before it leave it
abbrev pub kick_one : User → List ℕ → Room → Kicking → List Act
kick_one me text room asked =
    kicks_found room.users me text asked (row room.channels (key asked.channel))

-- one after another; lists that do not fit each other are too few parameters (our own choice)
abbrev pub kick_all : User → List ℕ → Room → Option (List Kicking) → List Act
kick_all me text room None = Answer (NeedMoreParams (client_words (codes "KICK"))) ∷ []
kick_all me text room (Some asked) = in_turn (kick_one me text) room asked

-- the nicknames of a comma list from the channels of another
abbrev pub kick_lists : Room → User → List ℕ → List ℕ → List ℕ → List Act
kick_lists room me text channels nicks =
    kick_all me text room (kicks_asked (entries channels) (entries nicks))

-- What a KICK of a list of nicknames from a list of channels does (RFC 2812 section 3.2.8): of both
-- the empty entries are skipped before anything is counted. The parameter behind them is the text,
-- and the nickname of who kicks stands for it where it is absent or empty.
unfoldable pub kick_steps : Room → User → List ℕ → List ℕ → List (List ℕ) → List Act
kick_steps room me channels nicks more =
    kick_lists room me (reason_given more me.nick) channels nicks
