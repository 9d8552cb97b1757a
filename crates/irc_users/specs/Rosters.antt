-- How users lie in memory: each in a seat of its own, whose number it keeps, and under its nickname
-- what it is found by.
use Rattle.std.specs.Prelude.{◌≡◌, ℕ, List, [], Option, Some}
use Rattle.std.specs.Global.{Box}
use Rattle.std.specs.Option.{option_map, option_map_or}
use Rattle.slab.specs.Slab.{Slab, get}
use Rattle.irc_names.specs.Fold.{key}
use Rattle.irc_names.specs.Tables.{Table, row, each}
use Rattle.irc_users.specs.declared.user.User.{User}
use Rattle.irc_users.specs.declared.users.Head.{Head}
use Rattle.irc_users.specs.UserTable.{NumberedUsers, new_user}

-- the user in a box
abbrev pub boxed : Box User → User
boxed b = b.value

-- the user in a seat, if there is one
abbrev pub sitting : Slab (Box User) → ℕ → Option User
sitting seats number = option_map boxed (get seats number)

-- what a user in a seat is found by
abbrev pub head : ℕ → User → Head
head number user = record { nick = user.nick; number = number; invisible = user.invisible }

-- who sits where a head says, by what sits in each seat
abbrev pub users_by : (ℕ → Option User) → Table Head → Table User
users_by sits heads = each (λ (h : Head). sits h.number) heads

abbrev pub numbers_by : Table Head → Table ℕ
numbers_by heads = each (λ (h : Head). Some h.number) heads

abbrev pub users_in : Slab (Box User) → Table Head → Table User
users_in seats heads = users_by (sitting seats) heads

abbrev pub numbers_in : Table Head → Table ℕ
numbers_in heads = numbers_by heads

abbrev pub numbered : Slab (Box User) → Table Head → NumberedUsers
numbered seats heads = record { users = users_in seats heads; numbers = numbers_in heads }

-- each head is that of the user in its seat, and each user in a seat has its head under its fold
pub record IsSeating (sits : ℕ → Option User) (heads : Table Head) : Type 0 where
  pub named : (fold : List ℕ) (h : Head) → row heads fold ≡ Some h → key h.nick ≡ fold
  pub seated : (fold : List ℕ) (h : Head) → row heads fold ≡ Some h
      → option_map (head h.number) (sits h.number) ≡ Some h
  pub found : (number : ℕ) (user : User) → sits number ≡ Some user
      → row heads (key user.nick) ≡ Some (head number user)

abbrev pub IsRoster : Slab (Box User) → Table Head → Type 0
IsRoster seats heads = IsSeating (sitting seats) heads

-- nothing has come or gone
pub record AreKept (seats_before seats_after : Slab (Box User))
    (heads_before heads_after : Table Head) : Type 0 where
  pub seats : seats_after.slots ≡ seats_before.slots
  pub heads : heads_after ≡ heads_before

-- nobody, where a seat is empty
abbrev pub nobody : User
nobody = new_user [] [] [] [] []

-- who sits where a head says
abbrev pub sitter : Slab (Box User) → Head → User
sitter seats h = option_map_or (λ (user : User). user) (sitting seats h.number) nobody
