-- The users of a room that are found by nicknames.
use Rattle.std.specs.Prelude.{◌≡◌, ℕ, Bool, Some, List, filter, option_to_list}
use Rattle.std.specs.List.{flat_map}
use Rattle.std.specs.FinMap.{values}
use Rattle.irc_names.specs.Fold.{key}
use Rattle.irc_names.specs.Tables.{Table, row}
use Rattle.irc_users.specs.declared.user.User.{User}

-- each user stands under the fold of its nickname
abbrev pub AreNamed : Table User → Type 0
AreNamed users = (nick : List ℕ) (user : User) → row users nick ≡ Some user → key user.nick ≡ nick

-- those of all users whose nicknames pass a test, in folded order
abbrev pub users_who : Table User → (List ℕ → Bool) → List User
users_who users test = filter (λ (user : User). test user.nick) (values users)

-- the users under the folds of some entries, as far as there are any
abbrev pub users_under : {V : Type 0} → Table User → List (List ℕ × V) → List User
users_under users es = flat_map (λ e. option_to_list (row users e.0)) es
