-- How many users are connected to the server that keeps a room: the number that the code keeps
-- beside the users.
use Rattle.std.specs.Prelude.{◌≡◌, ℕ, Bool, cond, Option, Some, None, List, filter, length}
use Rattle.std.specs.FinMap.{values}
use Rattle.irc_names.specs.Fold.{key}
use Rattle.irc_names.specs.Tables.{Table, row}
use Rattle.irc_users.specs.declared.user.User.{User}
use Rattle.irc_users.specs.UserTable.{is_home}
use Rattle.irc_effects.specs.declared.effect.Effect.{Effect}
use Rattle.irc_effects.specs.declared.effect.Effect.TheVariants.{AddUser, Quit}
use Rattle.irc_effects.specs.Room.{Room}

-- the users of a server
abbrev pub home_count : List ℕ → Table User → ℕ
home_count home users = length (filter (is_home home) (values users))

-- one, where there is one and it passes
abbrev pub one_of : {X : Type 0} → (X → Bool) → Option X → ℕ
one_of passes None = 0
one_of passes (Some x) = cond (passes x) 1 0

-- how many of them an effect takes away, and how many it brings
abbrev pub gone : List ℕ → Table User → Effect → ℕ
gone home users (Quit nick text) = one_of (is_home home) (row users (key nick))
gone home users other = 0

abbrev pub come : List ℕ → Effect → ℕ
come home (AddUser user) = one_of (is_home home) (Some user)
come home other = 0

-- what the code keeps always
abbrev pub IsCounted : List ℕ → ℕ → Room → Type 0
IsCounted own at_home room = at_home ≡ home_count own room.users
