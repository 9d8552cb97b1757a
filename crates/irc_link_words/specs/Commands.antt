-- The commands of the lines of a link, by their names (RFC 2813 section 4): those whose lines tell
-- of effects, and those of servers.
use Rattle.std.specs.Prelude.{ℕ, true, false, Option, List, [], ◌∷◌, codes}
use Rattle.std.specs.List.{find}
use Rattle.irc_link_words.specs.declared.commands.LinkCommand.{LinkCommand}
use Rattle.irc_link_words.specs.declared.commands.LinkCommand.TheVariants.{OfEffects, OfServers}
use Rattle.irc_link_words.specs.declared.commands.EffectCommand.{EffectCommand}
use Rattle.irc_link_words.specs.declared.commands.EffectCommand.TheVariants.{Nick, Quit, Join, Part}
use Rattle.irc_link_words.specs.declared.commands.EffectCommand.TheVariants.{Kick, Mode, Topic, Say}
use Rattle.irc_link_words.specs.declared.commands.EffectCommand.TheVariants.{Invite}
use Rattle.irc_link_words.specs.declared.commands.ServerCommand.{ServerCommand}
use Rattle.irc_link_words.specs.declared.commands.ServerCommand.TheVariants.{Server, Squit, Kill}
use Rattle.irc_link_words.specs.declared.commands.ServerCommand.TheVariants.{Njoin, Pass}
use Rattle.irc_link_words.specs.Words.{is_command}

-- the name of a command whose lines tell of effects
abbrev pub effect_name : EffectCommand → List ℕ
effect_name Nick = codes "NICK"
effect_name Quit = codes "QUIT"
effect_name Join = codes "JOIN"
effect_name Part = codes "PART"
effect_name Kick = codes "KICK"
effect_name Mode = codes "MODE"
effect_name Topic = codes "TOPIC"
effect_name (Say false) = codes "PRIVMSG"
effect_name (Say true) = codes "NOTICE"
effect_name Invite = codes "INVITE"

-- the name of a command whose lines are those of servers
abbrev pub server_name : ServerCommand → List ℕ
server_name Server = codes "SERVER"
server_name Squit = codes "SQUIT"
server_name Kill = codes "KILL"
server_name Njoin = codes "NJOIN"
server_name Pass = codes "PASS"

abbrev pub name_of : LinkCommand → List ℕ
name_of (OfEffects command) = effect_name command
name_of (OfServers command) = server_name command

-- each command once
abbrev pub commands : List LinkCommand
commands =
    OfEffects Nick ∷ OfEffects Quit ∷ OfEffects Join ∷ OfEffects Part ∷ OfEffects Kick
    ∷ OfEffects Mode ∷ OfEffects Topic ∷ OfEffects (Say false)
    ∷ OfEffects (Say true) ∷ OfEffects Invite
    ∷ OfServers Server ∷ OfServers Squit ∷ OfServers Kill ∷ OfServers Njoin ∷ OfServers Pass ∷ []

-- the command that a word is, in any case of letters
abbrev pub command_of : List ℕ → Option LinkCommand
command_of word = find (λ command. is_command (name_of command) word) commands
