-- What the code's decisions are, without where their steps lie in memory.
use Rattle.std.specs.Prelude.{◌≡◌, ℕ, Option, Some, None, Result, List, [], ◌++◌, IfOk}
use Rattle.irc_names.specs.Fold.{key}
use Rattle.irc_names.specs.Tables.{row}
use Rattle.irc_line.specs.Messages.{Parsed}
use Rattle.irc_users.specs.declared.user.User.{User}
use Rattle.irc_room.specs.Room.{Room}
use Rattle.irc_routes.specs.Known.{place_of}
use Rattle.irc_routes.specs.Place.{Place}
use Rattle.irc_routes.specs.declared.programs.Programs.{Programs}
use Rattle.irc_acts.specs.declared.act.Act.{Act}
use Rattle.irc_acts.specs.declared.context.Context.{Context}
use Rattle.irc_queries.specs.declared.query.Query.{Query}
use Rattle.irc_queries.specs.Query.{query_steps}
use Rattle.irc_commands.specs.declared.decision.Decision.{Decision}
use Rattle.irc_commands.specs.declared.say.Verb.{Verb}
use Rattle.irc_commands.specs.Decide.{decide}
use Rattle.irc_commands.specs.Decisions.{Decided, does}
use Rattle.irc_commands.specs.Nick.{nick_steps}
use Rattle.irc_commands.specs.Say.{say_steps, say_to, to_one, to_user}
use Rattle.irc_commands.specs.declared.command_names.Command.{Command}
use Rattle.irc_commands.specs.Table.{row_for, command_row}
use Rattle.irc_commands.specs.Topic.{topic_steps}

-- the rows of the command table, as the code's context has them
abbrev pub nick_here : Context → List (List ℕ) → List Act
nick_here context params = nick_steps context.room.now.room context.me.now params

abbrev pub topic_here : Context → List ℕ → List (List ℕ) → List Act
topic_here context name more = topic_steps context.room.now.room context.me.now name more

-- whether the server has what programs expect
abbrev pub programs_here : Context → Programs
programs_here context = (place_of context.routes.now).about.programs

abbrev pub say_here : Context → Verb → List (List ℕ) → List Act
say_here context verb params =
    say_steps context.room.now.room (programs_here context) context.me.now verb params

-- what is said to these targets
abbrev pub said_here : Context → Verb → List ℕ → List ℕ → List Act
said_here context verb targets words =
    say_to context.room.now.room (programs_here context) context.me.now verb targets words

-- what is said to one of them
abbrev pub one_said_here : Context → Verb → List ℕ → List ℕ → List Act
one_said_here context verb words name =
    to_one context.room.now.room (programs_here context) context.me.now verb words name

-- where it is the nickname of a user, or of nobody
abbrev pub user_said_here : Context → Verb → List ℕ → List ℕ → List Act
user_said_here context verb words name =
    to_user (programs_here context) context.me.now verb name words
    (row context.room.now.room.users (key name))

-- the steps that answer what a user asks, if it asks something and is there
unfoldable pub asked_steps : Room → Place → Option User → List (List ℕ) → Option Query → List Act
asked_steps room place me params None = []
asked_steps room place None params (Some query) = []
asked_steps room place (Some me) params (Some query) = query_steps room place me params query

-- A decision is this: what the user asks with these parameters is answered first, from the room as
-- it is, and its steps follow.
abbrev pub IsDecidedAs : Room → Place → Option User → List (List ℕ) → Decided → Decision → Type 0
IsDecidedAs room place me params want d = want
    ≡ record { steps = asked_steps room place me params d.query ++ d.steps.items; close = d.close }

-- It is this whatever is asked, since nothing is.
abbrev pub IsWithoutQuery : Decided → Decision → Type 0
IsWithoutQuery want d = (room : Room) (place : Place) (me : Option User) (params : List (List ℕ))
    → IsDecidedAs room place me params want d

abbrev pub GivesWithoutQuery : {E : Type 0} → Decided → Result Decision E → Type 0
GivesWithoutQuery want result =
    (room : Room) (place : Place) (me : Option User) (params : List (List ℕ))
    → IfOk result (IsDecidedAs room place me params want)

-- It has no step, and what answers this query is all.
abbrev pub IsAsking : Query → Decision → Type 0
IsAsking query d =
    (room : Room) (place : Place) (me : User) (params : List (List ℕ))
    → IsDecidedAs room place (Some me) params (does (query_steps room place me params query)) d

-- A command of the context's user, with these parameters, is decided so.
abbrev pub IsDecidedIn : Context → List (List ℕ) → Decided → Decision → Type 0
IsDecidedIn context params want = IsDecidedAs context.room.now.room (place_of context.routes.now)
    (Some context.me.now) params want

-- what a command does with these parameters, which are as many as its row wants
abbrev pub IsRowOf : Context → Command → List (List ℕ) → Decision → Type 0
IsRowOf context command params =
    IsDecidedIn context params (command_row context.room.now.room
    (place_of context.routes.now) context.me.now params command)

-- The row of the command table that a user's line fits, and what a line of who has this nickname
-- does.
abbrev pub IsRowFor : Context → Parsed → Decision → Type 0
IsRowFor context message =
    IsDecidedIn context message.params
    (row_for context.room.now.room (place_of context.routes.now) context.me.now message)

abbrev pub IsDecision : Room → Place → List ℕ → Parsed → Decision → Type 0
IsDecision room place who message =
    IsDecidedAs room place (row room.users (key who)) message.params (decide room place who message)
