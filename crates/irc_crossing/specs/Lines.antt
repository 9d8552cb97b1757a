-- What a line of a link changes (RFC 2813 section 4), and the nicknames in it.
use Rattle.std.specs.Prelude.{ℕ, Bool, true, false, ◌&&◌, ◌||◌, Option, Some, None, List, [], ◌∷◌}
use Rattle.std.specs.Prelude.{codes, get_or, map, option_to_list, if◌then◌else◌}
use Rattle.std.specs.Option.{option_and_then, option_map, option_map_or}
use Rattle.std.specs.Str.{bytes_eq}
use Rattle.irc_line.specs.Messages.{Parsed}
use Rattle.irc_names.specs.Names.{is_channel, is_nick}
use Rattle.irc_link_words.specs.Words.{are_words, is_command, is_marked, told_changes, unmarked}
use Rattle.irc_crossing.specs.declared.change.Change.{Change}
use Rattle.irc_crossing.specs.declared.change.Change.TheVariants.{Come, Rename, Go, Out, Join, Set}
use Rattle.irc_crossing.specs.declared.modes.ChannelModes.{ChannelModes}
use Rattle.irc_crossing.specs.declared.setting.Setting.TheVariants.{Spelling, Topic}
use Rattle.irc_crossing.specs.Letters.{set_mode}

-- a word of a line; no bytes where the line has fewer
abbrev pub word_at : ℕ → Parsed → List ℕ
word_at place message = get_or message.params place []

-- whether two say who a line is from in the same bytes
abbrev pub is_same_prefix : (one other : Option (List ℕ)) → Bool
is_same_prefix None None = true
is_same_prefix (Some one) (Some other) = bytes_eq one other
is_same_prefix one other = false

abbrev pub is_nick_line : Parsed → Bool
is_nick_line message = is_command (codes "NICK") message.command

abbrev pub is_kick_line : Parsed → Bool
is_kick_line message = is_command (codes "KICK") message.command

abbrev pub is_kill_line : Parsed → Bool
is_kill_line message = is_command (codes "KILL") message.command

abbrev pub is_mode_line : Parsed → Bool
is_mode_line message = is_command (codes "MODE") message.command

abbrev pub is_part_line : Parsed → Bool
is_part_line message = is_command (codes "PART") message.command

abbrev pub is_quit_line : Parsed → Bool
is_quit_line message = is_command (codes "QUIT") message.command

abbrev pub is_topic_line : Parsed → Bool
is_topic_line message = is_command (codes "TOPIC") message.command

abbrev pub is_join_line : Parsed → Bool
is_join_line message = is_command (codes "JOIN") message.command

abbrev pub is_njoin_line : Parsed → Bool
is_njoin_line message = is_command (codes "NJOIN") message.command

abbrev pub is_nothing_in : List ℕ → Bool
is_nothing_in [] = true
is_nothing_in (byte ∷ bytes) = false

-- an NJOIN that brings nobody
abbrev pub brings_nobody : Parsed → Bool
brings_nobody message = is_njoin_line message && is_nothing_in (word_at 1 message)

abbrev pub is_squit_line : Parsed → Bool
is_squit_line message = is_command (codes "SQUIT") message.command

-- whether the first parameter of a command is whom it is for, if that is a user
abbrev pub is_for_somebody : Parsed → Bool
is_for_somebody message = is_kill_line message || (is_command (codes "INVITE") message.command
    || (is_command (codes "PRIVMSG") message.command
    || (is_command (codes "NOTICE") message.command || is_mode_line message)))

-- ---- what it changes; nothing where a word is no name

abbrev pub come_of : List ℕ → Option Change
come_of nick = if is_nick nick then Some (Come nick) else None

abbrev pub rename_of : (nick new : List ℕ) → Option Change
rename_of nick new = if is_nick nick && is_nick new then Some (Rename nick new) else None

abbrev pub go_of : List ℕ → Option Change
go_of nick = if is_nick nick then Some (Go nick None) else None

abbrev pub out_of : (nick channel : List ℕ) → Option Change
out_of nick channel = if is_nick nick && is_channel channel then Some (Out nick channel) else None

abbrev pub topic_of : (channel text : List ℕ) → Option Change
topic_of channel text =
    if is_channel channel && are_words text then Some (Set (Topic channel text)) else None

abbrev pub join_of : (channel : List ℕ) → (begins : Bool) → Option Change
join_of channel begins = if is_channel channel then Some (Join channel begins) else None

-- An NJOIN that brings nobody tells how a channel is spelled: `:a.net NJOIN #c :`.
abbrev pub spelling_of : (channel : List ℕ) → Option Change
spelling_of channel = if is_channel channel then Some (Set (Spelling channel)) else None

abbrev pub njoin_of : (channel members : List ℕ) → Option Change
njoin_of channel [] = spelling_of channel
njoin_of channel (byte ∷ members) = join_of channel false

-- A NICK without a prefix introduces a user, and one with a prefix is a change of its nickname.
abbrev pub nick_change : Option (List ℕ) → List ℕ → Option Change
nick_change None word = come_of word
nick_change (Some nick) word = rename_of nick word

abbrev pub change_of : Parsed → Option Change
change_of message =
    if is_nick_line message then nick_change message.prefix (word_at 0 message)
    else (if is_quit_line message then option_and_then go_of message.prefix
    else (if is_kill_line message then go_of (word_at 0 message)
    else (if is_part_line message
    then option_and_then (λ nick. out_of nick (word_at 0 message)) message.prefix
    else (if is_kick_line message then out_of (word_at 1 message) (word_at 0 message)
    else (if is_topic_line message then topic_of (word_at 0 message) (word_at 1 message)
    else (if is_join_line message
    then join_of (unmarked (word_at 0 message)) (is_marked (word_at 0 message))
    else (if is_njoin_line message then njoin_of (word_at 0 message) (word_at 1 message)
    else None)))))))

-- ---- MODE of a channel (RFC 2811 section 4)

-- what its words change, where they are written as changes are
abbrev pub modes_in : List (List ℕ) → Option ChannelModes
modes_in [] = None
modes_in (channel ∷ words) =
    if is_channel channel
    then option_map (λ changes. record { channel = channel; changes = changes })
    (told_changes words)
    else None

abbrev pub channel_modes : Parsed → Option ChannelModes
channel_modes message = if is_mode_line message then modes_in message.params else None

-- ---- what is logged of a line: each thing that it changes

-- A channel begins by what is passed on of a link's line, where it was not here before; an NJOIN
-- does not say so, nor does a JOIN whose channel has ended here.
abbrev pub begun_if : Bool → Change → Change
begun_if is_begun (Join channel begins) = Join channel (is_begun || begins)
begun_if is_begun (Come nick) = Come nick
begun_if is_begun (Rename nick new) = Rename nick new
begun_if is_begun (Go nick other) = Go nick other
begun_if is_begun (Out nick channel) = Out nick channel
begun_if is_begun (Set setting) = Set setting

-- Of the loss of a server nothing is to be passed by what comes, but that it was put out: a channel
-- may have ended by it.
abbrev pub logged : (begins : Bool) → Parsed → List (Option Change)
logged begins message =
    if is_squit_line message then None ∷ []
    else option_map_or (λ (modes : ChannelModes). map (set_mode modes.channel) modes.changes)
    (channel_modes message)
    (map (λ change. Some (begun_if begins change)) (option_to_list (change_of message)))
