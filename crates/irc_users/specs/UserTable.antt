-- The users of a room by nickname: a finite map whose keys are the folds of the nicknames (RFC 2812
-- sections 1.2.1 and 2.2). Beside it their numbers.
use Rattle.std.specs.Prelude.{ℕ, Bool, true, false, not, ◌&&◌, ◌||◌, List, nat_eq, is_some, is_none}
use Rattle.std.specs.Prelude.{if◌then◌else◌, refl, Option, Some, None, Result, Ok, Err, IfOk, ◌≡◌}
use Rattle.std.specs.Prelude.{◌≢◌, map}
use Rattle.std.specs.Borrow.{Bor}
use Rattle.std.specs.Global.{Vec}
use Rattle.std.specs.Option.{option_map}
use Rattle.std.specs.Coded.{Coded, code_by, coded×, coded_bool, coded_option, coded_ℕ}
use Rattle.std.specs.FinMap.{code}
use Rattle.std.specs.Cmp.Lexicographic.{pointwise}
use Rattle.irc_names.specs.Fold.{key, same}
use Rattle.irc_names.specs.MaskLaws.{matches}
use Rattle.irc_names.specs.Tables.{Table, row, moved}
use Rattle.irc_tables.specs.FoldedRows.{coded_name}
use Rattle.irc_tables.specs.TableChanges.{with_value}
use Rattle.irc_users.specs.declared.fault.RenameFault.{RenameFault}
use Rattle.irc_users.specs.declared.fault.RenameFault.TheVariants.{Taken, NoSuchUser, Memory}
use Rattle.irc_users.specs.declared.user.User.{User}
use Rattle.irc_users.specs.declared.user.UserSet.{UserSet}
use Rattle.irc_users.specs.declared.user_change.UserChange.{UserChange}
use Rattle.irc_users.specs.declared.user_change.UserChange.TheVariants.{Invisible, Away}

-- what a user has set is stored as its fields
abbrev pub set_code : Coded UserSet
set_code =
    code_by (Option (List ℕ)) (coded_option coded_name) (λ s. s.away) (λ p. record { away = p })
    (λ _. refl)

-- a user is stored as its fields
abbrev pub user_code : Coded User
user_code =
    code_by (List ℕ × (List ℕ × (List ℕ × (List ℕ × (List ℕ × (Bool × UserSet))))))
    (coded× coded_name (coded× coded_name
    (coded× coded_name (coded× coded_name (coded× coded_name (coded× coded_bool set_code))))))
    (λ u. (u.nick, (u.user, (u.host, (u.real, (u.home, (u.invisible, u.set)))))))
    (λ p. record {
      nick = p.0;
      user = p.1.0;
      host = p.1.1.0;
      real = p.1.1.1.0;
      home = p.1.1.1.1.0;
      invisible = p.1.1.1.1.1.0;
      set = p.1.1.1.1.1.1;
    })
    (λ _. refl)

-- nothing is set, but mode i may be
abbrev pub nothing_set : UserSet
nothing_set = record { away = None }

-- a user who has set nothing of itself
abbrev pub new_user : List ℕ → List ℕ → List ℕ → List ℕ → List ℕ → User
new_user nick user host real home = record {
  nick = nick;
  user = user;
  host = host;
  real = real;
  home = home;
  invisible = false;
  set = nothing_set;
}

-- users by the folds of their nicknames, and by the same folds their numbers
pub record NumberedUsers : Type 0 where
  pub users : Table User
  pub numbers : Table ℕ

-- a table of users is stored by its names and their users
abbrev pub users_code : Coded (Table User)
users_code = code coded_name user_code

-- users and their numbers are stored as the two tables
abbrev pub numbered_code : Coded NumberedUsers
numbered_code =
    code_by (Table User × Table ℕ) (coded× users_code (code coded_name coded_ℕ))
    (λ n. (n.users, n.numbers))
    (λ p. record { users = p.0; numbers = p.1 })
    (λ _. refl)

-- a fold has a number just where it has a user, and two folds that have one number are one fold
pub record IsNumbered (numbered : NumberedUsers) : Type 0 where
  pub each : (fold : List ℕ)
      → is_some (row numbered.numbers fold) ≡ is_some (row numbered.users fold)
  pub apart : (one other : List ℕ) (number : ℕ) → row numbered.numbers one ≡ Some number
      → row numbered.numbers other ≡ Some number → one ≡ other

-- the user that has a number, or nothing where none has it
pub record HasNumber (numbered : NumberedUsers) (number : ℕ) (found : Option User) : Type 0 where
  pub theirs : (fold : List ℕ) → row numbered.numbers fold ≡ Some number
      → found ≡ row numbered.users fold
  pub none : ((fold : List ℕ) → row numbered.numbers fold ≢ Some number) → found ≡ None

-- every fold but that of a nickname has the number that it had
abbrev pub OthersKeep : List ℕ → Table ℕ → Table ℕ → Type 0
OthersKeep nick before after = (fold : List ℕ) → fold ≢ key nick → row after fold ≡ row before fold

-- the user under another nickname
abbrev pub with_nick : List ℕ → User → User
with_nick nick user = record user { nick = nick }

-- whether mode i is set after a change
abbrev pub invisible_with : UserChange → Bool → Bool
invisible_with (Invisible invisible) was = invisible
invisible_with (Away text) was = was

-- what is set beside it after a change
abbrev pub set_with : UserChange → UserSet → UserSet
set_with (Invisible invisible) was = was
set_with (Away text) was = record was { away = text }

-- the user after a change of its own
abbrev pub with_change : UserChange → User → User
with_change change user = record user {
  invisible = invisible_with change user.invisible;
  set = set_with change user.set;
}

-- whether a user is told of a change of its own by a line (RFC 2812 section 3.1.5); who is away is
-- told so by a reply (section 4.1)
abbrev pub is_shown : UserChange → Bool
is_shown (Invisible invisible) = true
is_shown (Away text) = false

-- a user put under its nickname
abbrev pub with_user : User → Table User → Table User
with_user user table = with_value user.nick user table

-- whether there is a user of a nickname
abbrev pub has_nick : Table User → List ℕ → Bool
has_nick table nick = is_some (row table (key nick))

-- how the nickname of a user is spelled, if there is one that is the same
abbrev pub spelling_of : Table User → List ℕ → Option (List ℕ)
spelling_of table name = option_map (λ (user : User). user.nick) (row table (key name))

-- the user with a nickname under another
abbrev pub moved_to : List ℕ → List ℕ → Table User → Table User
moved_to nick new table = moved (key nick) (key new) (with_nick new) table

-- the number of the user with a nickname under another
abbrev pub number_moved : List ℕ → List ℕ → Table ℕ → Table ℕ
number_moved nick new numbers = moved (key nick) (key new) (λ n. n) numbers

-- whether another user than the one with the first nickname has the second
abbrev pub is_taken : Table User → List ℕ → List ℕ → Bool
is_taken table nick new = not (same nick new) && has_nick table new

-- why the user with a nickname does not take another, if it does not
abbrev pub rename_fault : Table User → List ℕ → List ℕ → Option RenameFault
rename_fault table nick new =
    if is_taken table nick new then Some Taken
    else (if is_none (row table (key nick)) then Some NoSuchUser else None)

-- a user is renamed unless there is a reason against it, or no memory
abbrev pub RenamesUnless : {U : Type 0} → Option RenameFault → Result U RenameFault → Type 0
RenamesUnless fault (Ok done) = fault ≡ None
RenamesUnless fault (Err Memory) = fault ≡ None
RenamesUnless fault (Err Taken) = fault ≡ Some Taken
RenamesUnless fault (Err NoSuchUser) = fault ≡ Some NoSuchUser

-- whether a user is connected to this server
abbrev pub is_home : List ℕ → User → Bool
is_home home user = pointwise nat_eq user.home home

-- whether a mask matches the nickname, the host, the server or the real name of a user (RFC 2812
-- section 3.6.1)
abbrev pub is_found_by : List ℕ → User → Bool
is_found_by mask user = matches mask user.nick || matches mask user.host || matches mask user.home
    || matches mask user.real

-- references to just these users, unless it went wrong
abbrev pub FindsUsers : {E : Type 0} → Result (Vec (Bor User)) E → List User → Type 0
FindsUsers found users =
    IfOk found (λ (references : Vec (Bor User)). map (λ user. user.now) references.items ≡ users)
