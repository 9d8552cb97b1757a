-- What users have set of themselves, as a burst tells it: the line that introduces a user tells a
-- part of it, and its changes, behind all introductions, tell what is left (RFC 2813 section
-- 5.3.2; that it is told is our own choice).
use Rattle.std.specs.Prelude.{◌≡◌, ℕ, true, false, Option, Some, List, [], ◌∷◌, map}
use Rattle.std.specs.FinMap.{find, is_sorted}
use Rattle.std.specs.List.{AllByRecursion}
use Rattle.std.specs.Option.{option_map, option_map_or}
use Rattle.irc_names.specs.Fold.{key}
use Rattle.irc_names.specs.Tables.{Table, fold_cmp, row}
use Rattle.irc_tables.specs.TableChanges.{tried_at}
use Rattle.irc_users.specs.declared.user.User.{User}
use Rattle.irc_users.specs.declared.user_change.UserChange.{UserChange}
use Rattle.irc_users.specs.declared.user_change.UserChange.TheVariants.{Away}
use Rattle.irc_users.specs.UserTable.{is_shown, nothing_set, with_change}

-- the user as the line that introduces it tells: that line has a word for mode i alone
abbrev pub as_introduced : User → User
as_introduced user = record user { set = nothing_set }

-- what it has set beside that
abbrev pub changes_of : User → List UserChange
changes_of user = option_map_or (λ text. Away (Some text) ∷ []) user.set.away []

-- the user after changes of its own, one after another
abbrev pub changed_by : List UserChange → User → User
changed_by [] user = user
changed_by (change ∷ changes) user = changed_by changes (with_change change user)

-- each user is told whole
abbrev pub ToldWhole : Type 0
ToldWhole = (user : User) → changed_by (changes_of user) (as_introduced user) ≡ user

-- and nobody is shown a line of what is told behind its introduction
abbrev pub ToldUnseen : Type 0
ToldUnseen = (user : User) → AllByRecursion (λ change. is_shown change ≡ false) (changes_of user)

-- a table after the changes of the user of a nickname, and after those of some users
abbrev pub table_changed : List ℕ → List UserChange → Table User → Table User
table_changed nick [] users = users
table_changed nick (change ∷ changes) users =
    table_changed nick changes (tried_at nick (with_change change) users)

abbrev pub all_changed : List User → Table User → Table User
all_changed [] users = users
all_changed (user ∷ more) users =
    all_changed more (table_changed user.nick (changes_of user) users)

-- those of the user that was found
abbrev pub changes_found : Option User → List UserChange
changes_found found = option_map_or changes_of found []

-- a user under the fold of its nickname
abbrev pub IsNamed : List ℕ × User → Type 0
IsNamed e = key e.1.nick ≡ e.0

-- Once the users of a table have all been introduced, wherever that is, their changes change each
-- of them alone.
abbrev pub ChangesMeetTheirUsers : Type 0
ChangesMeetTheirUsers = (es : List (List ℕ × User)) → is_sorted fold_cmp es ≡ true
    → AllByRecursion IsNamed es → (users : Table User) (q : List ℕ)
    → row (all_changed (map (λ e. e.1) es) users) q
    ≡ option_map (changed_by (changes_found (find fold_cmp q es))) (row users q)
