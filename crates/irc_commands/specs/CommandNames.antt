-- The commands that are built, by their names: which one a word is, in any case of letters, and how
-- many parameters it wants.
use Rattle.std.specs.Prelude.{ℕ, Bool, Option, Some, None, List, [], ◌∷◌, codes, map, nat_eq}
use Rattle.std.specs.Prelude.{if◌then◌else◌}
use Rattle.std.specs.Char.{to_ascii_lowercase}
use Rattle.std.specs.Cmp.Lexicographic.{pointwise}
use Rattle.std.specs.Option.{option_map}
use Rattle.irc_commands.specs.declared.command_names.Command.{Command}
use Rattle.irc_commands.specs.declared.command_names.Command.TheVariants as command
use Rattle.std.specs.Borrow.{Bor}
use Rattle.irc_names.specs.Tables.{row}
use Rattle.irc_routes.specs.declared.programs.Programs.{Programs}
use Rattle.irc_routes.specs.declared.programs.Programs.TheVariants as programs

-- whether two words are one but for the case of letters
abbrev pub same_letters : List ℕ → List ℕ → Bool
same_letters word other =
    pointwise nat_eq (map to_ascii_lowercase word) (map to_ascii_lowercase other)

-- A row of the table: a command by its name, and how many parameters it wants at least.
pub record CommandRow : Type 0 where
  pub name : List ℕ
  pub command : Command
  pub least : ℕ

-- a row of the code's table
abbrev pub row_view : Bor (List ℕ) × Command × ℕ → CommandRow
row_view row = record { name = row.0.now; command = row.1; least = row.2 }

-- a row as it is written below
abbrev pub named : List ℕ → Command → ℕ → CommandRow
named name command least = record { name = name; command = command; least = least }

-- Each command by its name, with the number of parameters that RFC 2812 makes it want (section 3,
-- and 4.9 of ISON). It is 0 also where a line that lacks one is answered otherwise: PASS and USER
-- of a user, NICK, PING, PRIVMSG, NOTICE and WHOIS.
abbrev pub rows : List CommandRow
rows =
    named (codes "PASS") command.Pass 0 ∷ named (codes "NICK") command.Nick 0 ∷ named
    (codes "USER") command.User 0
    ∷ named (codes "QUIT") command.Quit 0 ∷ named (codes "PING") command.Ping 0 ∷ named
    (codes "PONG") command.Pong 0
    ∷ named (codes "MOTD") command.Motd 0 ∷ named (codes "PRIVMSG") command.Privmsg 0 ∷ named
    (codes "NOTICE") command.Notice 0
    ∷ named (codes "JOIN") command.Join 1 ∷ named (codes "PART") command.Part 1 ∷ named
    (codes "TOPIC") command.Topic 1
    ∷ named (codes "NAMES") command.Names 0 ∷ named (codes "KICK") command.Kick 2 ∷ named
    (codes "INVITE") command.Invite 2
    ∷ named (codes "MODE") command.Mode 1
    ∷ named (codes "ISON") command.Ison 1 ∷ named (codes "LUSERS") command.Lusers 0 ∷ named
    (codes "LIST") command.List 0
    ∷ named (codes "WHOIS") command.Whois 0 ∷ named (codes "WHO") command.Who 0 ∷ []

-- Those that programs expect beside the profile (sections 4.1, 4.8 and 3.6.3). AWAY without a
-- parameter takes its text away, and WHOWAS is answered otherwise.
abbrev pub program_rows : List CommandRow
program_rows =
    named (codes "AWAY") command.Away 0 ∷ named (codes "USERHOST") command.Userhost 1
    ∷ named (codes "WHOWAS") command.Whowas 0 ∷ []

-- the first of these rows with this name
abbrev pub found : List ℕ → List CommandRow → Option CommandRow
found word [] = None
found word (row ∷ rows) = if same_letters word row.name then Some row else found word rows

-- what was found, or what is found among those that programs expect where a server has these
abbrev pub or_expected : Option CommandRow → Programs → List ℕ → Option CommandRow
or_expected (Some row) programs word = Some row
or_expected None programs.Off word = None
or_expected None programs.On word = found word program_rows

-- the row of a line's first word, if it is a command of the server
abbrev pub row_named : Programs → List ℕ → Option CommandRow
row_named programs word = or_expected (found word rows) programs word

-- which command a word is, if it is one
abbrev pub command_of : Programs → List ℕ → Option Command
command_of programs word = option_map (λ row. row.command) (row_named programs word)
