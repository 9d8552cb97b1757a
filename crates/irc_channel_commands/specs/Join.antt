-- JOIN.
use Rattle.std.specs.Prelude.{ℕ, Bool, true, false, not, ◌&&◌, Option, Some, None, List, [], ◌∷◌}
use Rattle.std.specs.Prelude.{◌++◌, codes, length, filter, map, nat_eq, nat_le, if◌then◌else◌}
use Rattle.std.specs.Cmp.Lexicographic.{pointwise}
use Rattle.std.specs.FinMap.{keys}
use Rattle.irc_names.specs.Fold.{key}
use Rattle.irc_names.specs.Names.{is_channel}
use Rattle.irc_names.specs.Tables.{row}
use Rattle.irc_users.specs.declared.user.User.{User}
use Rattle.irc_channels.specs.declared.channel.Channel.{Channel}
use Rattle.irc_channels.specs.Channels.{is_invited, joined, new_channel}
use Rattle.irc_modes.specs.Modes.{is_nil}
use Rattle.irc_channels.specs.Texts.{cut_words}
use Rattle.irc_numerics.specs.declared.replies.Reply.TheVariants.{NoSuchChannel, TooManyChannels}
use Rattle.irc_numerics.specs.declared.replies.Reply.TheVariants.{InviteOnlyChan, BannedFromChan}
use Rattle.irc_numerics.specs.declared.replies.Reply.TheVariants.{BadChannelKey, ChannelIsFull}
use Rattle.irc_numerics.specs.declared.replies.Reply.TheVariants.{Topic}
use Rattle.irc_room.specs.effect.Effect.TheVariants.{Join, Part}
use Rattle.irc_room.specs.Room.{Room}
use Rattle.irc_room.specs.Effects.{is_member}
use Rattle.irc_channel_commands.specs.Limits.{max_joined}
use Rattle.irc_acts.specs.declared.act.Act.{Act}
use Rattle.irc_acts.specs.declared.act.Act.TheVariants.{Answer, Do}
use Rattle.irc_acts.specs.Ahead.{in_turn}
use Rattle.irc_acts.specs.CommaLists.{pieces}
use Rattle.irc_acts.specs.Acts.{bytes_kept, client_words}
use Rattle.irc_acts.specs.Names.{names_of, end_of_names}
use Rattle.irc_acts.specs.Moves.{own_channels}
use Rattle.irc_acts.specs.Standing.{is_banned}

-- a channel that is asked for, and the key that is given with it; an empty one opens nothing
pub record JoinEntry : Type 0 where
  pub channel : List ℕ
  pub key : List ℕ

-- an entry for this channel, with what is given for its key
abbrev pub asks : List ℕ → List ℕ → JoinEntry
asks channel given = record { channel = channel; key = given }

-- Each channel has the key at its own position in the list of keys, in which an empty place counts
-- (our own choice).
abbrev pub with_keys : List (List ℕ) → List (List ℕ) → List JoinEntry
with_keys [] keys = []
with_keys (channel ∷ channels) [] = asks channel [] ∷ with_keys channels []
with_keys (channel ∷ channels) (given ∷ keys) = asks channel given ∷ with_keys channels keys

-- an entry that is skipped among the channels takes its key with it
unfoldable pub asked_for : List ℕ → List ℕ → List JoinEntry
asked_for channels keys =
    filter (λ asked. not (is_nil asked.channel)) (with_keys (pieces channels) (pieces keys))

-- whether what is given opens a channel with this key; anything opens one that has none
abbrev pub opens : Option (List ℕ) → List ℕ → Bool
opens None given = true
opens (Some word) given = pointwise nat_eq word given

-- whether the limit leaves no place for another member (RFC 2811 section 4.2.9)
abbrev pub is_full : Option ℕ → Channel → Bool
is_full None channel = false
is_full (Some limit) channel = nat_le limit (length (keys channel.members))

-- why a user is kept out of a channel, if it is (RFC 2811 sections 4.2.2, 4.2.9, 4.2.10 and 4.3.1)
abbrev pub kept_out : User → List ℕ → Channel → Option Act
kept_out me given channel =
    if channel.modes.invite_only && not (is_invited (key me.nick) channel)
    then Some (Answer (InviteOnlyChan channel.name))
    else (if is_banned me channel then Some (Answer (BannedFromChan channel.name))
    else (if not (opens channel.modes.key given) then Some (Answer (BadChannelKey channel.name))
    else (if is_full channel.modes.limit channel then Some (Answer (ChannelIsFull channel.name))
    else None)))

-- a joiner is told the topic where there is one
abbrev pub topic_for_joiner : List ℕ → List ℕ → List Act
topic_for_joiner name [] = []
topic_for_joiner name (b ∷ bytes) = Answer (Topic name (bytes_kept (b ∷ bytes))) ∷ []

-- that of a channel
abbrev pub joiner_topic : Channel → List Act
joiner_topic channel = topic_for_joiner channel.name channel.topic

-- The user is a member, an operator where it has made the channel, and is told what is there then;
-- the end names the channel as it was asked for.
abbrev pub joins : Room → User → List ℕ → Bool → Channel → List Act
joins room me name op channel =
    let now = joined (key me.nick) op channel in
    Do (Join me.nick channel.name op) ∷ joiner_topic now ++ names_of room.users me now
    ++ end_of_names name ∷ []

-- a channel that is there is joined unless something keeps the user out
abbrev pub admitted : Room → User → List ℕ → Channel → Option Act → List Act
admitted room me name channel None = joins room me name false channel
admitted room me name channel (Some refusal) = refusal ∷ []

-- by the channel that was found under the name, if one was
abbrev pub joins_found : Room → User → JoinEntry → Option Channel → List Act
joins_found room me asked None = joins room me asked.channel true (new_channel asked.channel)
joins_found room me asked (Some channel) =
    admitted room me asked.channel channel (kept_out me asked.key channel)

-- by the name that is asked for
abbrev pub joins_asked : Room → User → JoinEntry → List Act
joins_asked room me asked = joins_found room me asked (row room.channels (key asked.channel))

-- one entry of a list: nothing comes of it where the user is a member already
abbrev pub join_one : User → Room → JoinEntry → List Act
join_one me room asked =
    if not (is_channel asked.channel) then Answer (NoSuchChannel (client_words asked.channel)) ∷ []
    else (if is_member room me.nick asked.channel then []
    else (if nat_le max_joined (length (own_channels room me))
    then Answer (TooManyChannels asked.channel) ∷ []
    else joins_asked room me asked))

-- the user leaves a channel, with its nickname as the text
abbrev pub leaves : User → Channel → Act
leaves me channel = Do (Part me.nick channel.name (cut_words me.nick))

-- it leaves each of its channels
abbrev pub leave_each : Room → User → List Act
leave_each room me = map (leaves me) (own_channels room me)

-- the channels of a list in turn, each with the key at its position
abbrev pub join_list : Room → User → List ℕ → List ℕ → List Act
join_list room me list keys = in_turn (join_one me) room (asked_for list keys)

-- the word by which a JOIN leaves all channels (RFC 2812 section 3.2.1)
abbrev pub is_zero : List ℕ → Bool
is_zero word = pointwise nat_eq word (codes "0")

-- what a JOIN of a list of channels with a list of keys does (RFC 2812 section 3.2.1); `JOIN 0`
-- leaves every channel
unfoldable pub join_steps : Room → User → List ℕ → List ℕ → List Act
join_steps room me list keys =
    if is_zero list then leave_each room me else join_list room me list keys
