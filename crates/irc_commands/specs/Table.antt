-- The command table: which command a word is, in any case of letters, how many parameters it wants,
-- and what it does for a registered user (RFC 2812 section 3).
use Rattle.std.specs.Prelude.{ℕ, Option, Some, None, List, [], ◌∷◌, drop, length, nat_lt}
use Rattle.std.specs.Prelude.{if◌then◌else◌}
use Rattle.irc_commands.specs.declared.command_names.Command.{Command}
use Rattle.irc_commands.specs.declared.command_names.Command.TheVariants as command
use Rattle.irc_line.specs.Messages.{Parsed}
use Rattle.irc_users.specs.declared.user.User.{User}
use Rattle.irc_numerics.specs.declared.replies.Reply.TheVariants.{AlreadyRegistered, NeedMoreParams}
use Rattle.irc_numerics.specs.declared.replies.Reply.TheVariants.{NoMotd, UnknownCommand}
use Rattle.irc_room.specs.Room.{Room}
use Rattle.irc_routes.specs.Place.{Place}
use Rattle.irc_acts.specs.declared.act.Act.TheVariants.{Answer}
use Rattle.irc_commands.specs.declared.say.Verb.TheVariants as verb
use Rattle.irc_acts.specs.Acts.{client_words}
use Rattle.irc_acts.specs.Words.{word_at}
use Rattle.irc_commands.specs.Decisions.{Decided, nothing, does}
use Rattle.irc_commands.specs.Ping.{ping_steps}
use Rattle.irc_commands.specs.Quit.{quit_decided}
use Rattle.irc_channel_commands.specs.Away.{away_steps}
use Rattle.irc_channel_commands.specs.Invite.{invite_steps}
use Rattle.irc_channel_commands.specs.Mode.{mode_steps}
use Rattle.irc_channel_commands.specs.Join.{join_steps}
use Rattle.irc_channel_commands.specs.Kick.{kick_steps}
use Rattle.irc_acts.specs.Names.{names_steps}
use Rattle.irc_queries.specs.Ison.{ison_steps}
use Rattle.irc_queries.specs.Userhost.{userhost_steps}
use Rattle.irc_queries.specs.Lusers.{lusers_steps}
use Rattle.irc_queries.specs.List.{list_steps}
use Rattle.irc_queries.specs.Whois.{whois_steps}
use Rattle.irc_queries.specs.Who.{who_steps}
use Rattle.irc_commands.specs.Nick.{nick_steps}
use Rattle.irc_channel_commands.specs.Part.{part_steps}
use Rattle.irc_commands.specs.Say.{say_steps}
use Rattle.irc_commands.specs.Topic.{topic_steps}
use Rattle.irc_commands.specs.Whowas.{whowas_steps}
use Rattle.irc_commands.specs.CommandNames.{CommandRow, row_named}

-- what a word that names no command is answered
abbrev pub unknown : List ℕ → Decided
unknown word = does (Answer (UnknownCommand (client_words word)) ∷ [])

-- the command of this name wants more parameters
abbrev pub too_few : List ℕ → Decided
too_few name = does (Answer (NeedMoreParams (client_words name)) ∷ [])

-- what a command does with parameters that are as many as its row wants
unfoldable pub command_row : Room → Place → User → List (List ℕ) → Command → Decided
command_row room place me params command.Pass = does (Answer AlreadyRegistered ∷ [])
command_row room place me params command.User = does (Answer AlreadyRegistered ∷ [])
command_row room place me params command.Pong = nothing
command_row room place me params command.Motd = does (Answer NoMotd ∷ [])
command_row room place me params command.Ping = does (ping_steps place params)
command_row room place me params command.Quit = quit_decided me params
command_row room place me params command.Privmsg =
    does (say_steps room place.about.programs me verb.Privmsg params)
command_row room place me params command.Notice =
    does (say_steps room place.about.programs me verb.Notice params)
command_row room place me params command.Nick = does (nick_steps room me params)
command_row room place me params command.Join =
    does (join_steps room me (word_at params 0) (word_at params 1))
command_row room place me params command.Part =
    does (part_steps room me (word_at params 0) (drop 1 params))
command_row room place me params command.Topic =
    does (topic_steps room me (word_at params 0) (drop 1 params))
command_row room place me params command.Names = does (names_steps room me params)
command_row room place me params command.Kick =
    does (kick_steps room me (word_at params 0) (word_at params 1) (drop 2 params))
command_row room place me params command.Invite =
    does (invite_steps room me (word_at params 0) (word_at params 1))
command_row room place me params command.Mode =
    does (mode_steps room me (word_at params 0) (drop 1 params))
command_row room place me params command.Ison = does (ison_steps room params)
command_row room place me params command.Lusers = does (lusers_steps room place)
command_row room place me params command.List = does (list_steps room me params)
command_row room place me params command.Whois = does (whois_steps room place me params)
command_row room place me params command.Who = does (who_steps room place me params)
command_row room place me params command.Away = does (away_steps me params)
command_row room place me params command.Userhost = does (userhost_steps room place params)
command_row room place me params command.Whowas = does (whowas_steps params)

-- Too few parameters are answered here, whatever the command (RFC 2812 section 5.2, reply 461).
abbrev pub decided_by : Room → Place → User → Parsed → Option CommandRow → Decided
decided_by room place me message None = unknown message.command
decided_by room place me message (Some row) =
    if nat_lt (length message.params) row.least then too_few row.name
    else command_row room place me message.params row.command

-- what a line does, by the row that its command has
abbrev pub row_for : Room → Place → User → Parsed → Decided
row_for room place me message =
    decided_by room place me message (row_named place.about.programs message.command)
