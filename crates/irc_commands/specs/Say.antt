-- PRIVMSG and NOTICE.
use Rattle.std.specs.Prelude.{ℕ, ◌-◌, Bool, true, false, not, ◌&&◌, ◌||◌, Option, Some, None, List}
use Rattle.std.specs.Prelude.{[], ◌∷◌, ◌++◌, codes, length, take, drop, filter, is_some}
use Rattle.std.specs.Prelude.{if◌then◌else◌}
use Rattle.std.specs.List.{flat_map}
use Rattle.irc_names.specs.Fold.{key}
use Rattle.irc_names.specs.Tables.{row}
use Rattle.irc_line.specs.Limits.{max_line}
use Rattle.irc_line.specs.Messages.{full, joined_text}
use Rattle.irc_users.specs.declared.user.User.{User}
use Rattle.irc_channels.specs.declared.flags.Flags.{Flags}
use Rattle.irc_channels.specs.declared.channel.Channel.{Channel}
use Rattle.irc_numerics.specs.declared.replies.Reply.TheVariants.{NoRecipient, NoTextToSend}
use Rattle.irc_numerics.specs.declared.replies.Reply.TheVariants.{NoSuchNick, CannotSendToChan}
use Rattle.irc_numerics.specs.declared.replies.Reply.TheVariants.{TooManyTargets}
use Rattle.irc_room.specs.effect.Target.{Target}
use Rattle.irc_room.specs.effect.Target.TheVariants as target
use Rattle.irc_room.specs.effect.Effect.TheVariants.{Say}
use Rattle.irc_room.specs.Room.{Room}
use Rattle.irc_routes.specs.declared.programs.Programs.{Programs}
use Rattle.irc_commands.specs.Limits.{max_targets}
use Rattle.irc_commands.specs.declared.say.Verb.{Verb}
use Rattle.irc_commands.specs.declared.say.Verb.TheVariants as verb
use Rattle.irc_acts.specs.declared.act.Act.{Act}
use Rattle.irc_acts.specs.declared.act.Act.TheVariants.{Answer, Do}
use Rattle.irc_acts.specs.Acts.{bytes_kept, client_words}
use Rattle.irc_acts.specs.Away.{away_told}
use Rattle.irc_acts.specs.CommaLists.{entries}
use Rattle.irc_acts.specs.Standing.{is_banned}
use Rattle.irc_acts.specs.Words.{names_channel}

-- an operator, or a member with voice
abbrev pub is_raised : Option Flags → Bool
is_raised None = false
is_raised (Some flags) = flags.op || flags.voice

-- Whether a user may speak in a channel (RFC 2811 sections 4.2.3, 4.2.4 and 4.3.1): a member where
-- outsiders are kept out; an operator or a voiced member where it is moderated; and one of these,
-- or whom no ban matches.
abbrev pub may_speak : User → Channel → Bool
may_speak user channel =
    let flags = row channel.members (key user.nick) in
    (not channel.modes.no_outside || is_some flags)
    && (not channel.modes.moderated || is_raised flags)
    && (is_raised flags || not (is_banned user channel))

-- whether it is the verb that is never answered (RFC 2812 section 3.3.2)
abbrev pub is_notice : Verb → Bool
is_notice verb.Privmsg = false
is_notice verb.Notice = true

-- the command by which the text comes to those whom it is for
abbrev pub say_command : Verb → List ℕ
say_command verb.Privmsg = codes "PRIVMSG"
say_command verb.Notice = codes "NOTICE"

-- the text, cut so that the line for clients is not (our own choice)
abbrev pub said_text : User → Verb → List ℕ → List ℕ → List ℕ
said_text me which to words =
    let empty = joined_text (record {
      sender = full me.nick me.user me.host;
      command = say_command which;
      middle = to ∷ [];
      last = Some [];
    }) in
    take (max_line - length empty) words

-- a text that goes through has its effect alone: of it who speaks is told nothing
abbrev pub say_text : User → Verb → Target → List ℕ → List ℕ → List Act
say_text me which to name words =
    Do (Say me.nick (is_notice which) to (bytes_kept (said_text me which name words))) ∷ []

-- a target that was found is written as stored, one that was not as given
abbrev pub to_channel : User → Verb → List ℕ → List ℕ → Option Channel → List Act
to_channel me which word words None = Answer (NoSuchNick (client_words word)) ∷ []
to_channel me which word words (Some channel) =
    if may_speak me channel then say_text me which (target.Channel channel.name) channel.name words
    else Answer (CannotSendToChan channel.name) ∷ []

-- behind a text to a user who is away stands that it is, where that is shown
abbrev pub to_user : Programs → User → Verb → List ℕ → List ℕ → Option User → List Act
to_user programs me which word words None = Answer (NoSuchNick (client_words word)) ∷ []
to_user programs me which word words (Some user) =
    say_text me which (target.User user.nick) user.nick words ++ away_told programs user

-- one target: a channel where the word is written as the name of one, and a user otherwise
abbrev pub to_one : Room → Programs → User → Verb → List ℕ → List ℕ → List Act
to_one room programs me which words name =
    if names_channel name then to_channel me which name words (row room.channels (key name))
    else to_user programs me which name words (row room.users (key name))

-- the target behind the last that is served, if there is one
abbrev pub too_many : List (List ℕ) → List Act
too_many [] = []
too_many (target ∷ more) = Answer (TooManyTargets (client_words target)) ∷ []

-- whether a step is a reply to who gave the command
abbrev pub is_answer : Act → Bool
is_answer (Answer reply) = true
is_answer other = false

-- a NOTICE is never answered
abbrev pub unless_notice : Verb → List Act → List Act
unless_notice verb.Privmsg steps = steps
unless_notice verb.Notice steps = filter (λ step. not (is_answer step)) steps

-- the targets in turn, as many as are served; the first that is not is answered
abbrev pub say_to : Room → Programs → User → Verb → List ℕ → List ℕ → List Act
say_to room programs me which targets words =
    flat_map (to_one room programs me which words) (take max_targets (entries targets))
    ++ too_many (drop max_targets (entries targets))

-- what a PRIVMSG or a NOTICE does (RFC 2812 section 3.3)
unfoldable pub say_steps : Room → Programs → User → Verb → List (List ℕ) → List Act
say_steps room programs me which [] =
    unless_notice which (Answer (NoRecipient (client_words (say_command which))) ∷ [])
say_steps room programs me which (targets ∷ []) = unless_notice which (Answer NoTextToSend ∷ [])
say_steps room programs me which (targets ∷ [] ∷ more) =
    unless_notice which (Answer NoTextToSend ∷ [])
say_steps room programs me which (targets ∷ (b ∷ bytes) ∷ more) =
    unless_notice which (say_to room programs me which targets (b ∷ bytes))
