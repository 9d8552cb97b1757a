-- Who is left where several users have quit.
use Rattle.std.proofs.Common.{◌≡◌, ℕ, Bool, true, false, cond, ◌&&◌, ◌||◌, Option, Some, None, List}
use Rattle.std.proofs.Common.{[], ◌∷◌, refl, sym, ◌∙◌, ap, is_some}
use Rattle.std.proofs.lemmas.List.Folds.{list_any-append}
use Rattle.std.specs.List.{list_any, flat_map}
use Rattle.std.specs.Option.{option_map_or}
use Rattle.irc_names.specs.Fold.{key}
use Rattle.irc_names.specs.Tables.{row}
use Rattle.irc_names.specs.TableLaws.{same_fold, row-both}
use Rattle.irc_users.specs.declared.user.User.{User}
use Rattle.irc_users.specs.UserTable.{is_home}
use Rattle.irc_room.specs.Room.{Room, IsWellFormed}
use Rattle.irc_merge.specs.Lemmas.Clashing.{both_hold, users_without}
use Rattle.irc_merge.specs.Lemmas.Quitting.{among, among_values, users_left}
use Rattle.irc_merge.specs.Merge.{room_without, either, merge}
use Rattle.irc_merge.specs.Quits.{users_at}
use Rattle.irc_merge.specs.Split.{lost_users, split}

-- ---- a split

list_any-flat_map : {X Y : Type 0} (f : Y → Bool) (parts : X → List Y) (xs : List X)
    → list_any f (flat_map parts xs) ≡ list_any (λ x. list_any f (parts x)) xs
list_any-flat_map f parts [] = refl
list_any-flat_map f parts (x ∷ xs) =
    list_any-append f (parts x) (flat_map parts xs)
    ∙ ap (λ b. list_any f (parts x) || b) (list_any-flat_map f parts xs)

-- whether a user's home is one of these servers
abbrev pub is_at_one : List (List ℕ) → User → Bool
is_at_one homes user = list_any (λ home. is_home home user) homes

-- one is among the users of the lost servers just where its home is one of these
lost_among : (homes : List (List ℕ)) (room : Room) → IsWellFormed room
    → (q : List ℕ) (user : User) → row room.users q ≡ Some user
    → among (lost_users homes room) q ≡ is_at_one homes user
lost_among homes room well q user is =
    list_any-flat_map (λ (other : User). same_fold q (key other.nick))
    (λ home. users_at home room) homes ∙ by_home homes
  where
    by_home : (homes : List (List ℕ))
        → list_any (λ home. among (users_at home room) q) homes ≡ is_at_one homes user
    by_home [] = refl
    by_home (home ∷ homes) =
        let here =
        among_values room.users well.users_named (is_home home) q
        ∙ ap (λ o. option_map_or (is_home home) o false) is in
        λ i. here i || by_home homes i

-- the users of the lost servers are gone, and all others are left
pub split_row : (text : List ℕ) (homes : List (List ℕ)) (room : Room)
    → IsWellFormed room → (q : List ℕ) (user : User) → row room.users q ≡ Some user
    → row (split text homes room).users q ≡ cond (is_at_one homes user) None (Some user)
unfolding split
split_row text homes room well q user is =
    users_left room text (lost_users homes room) q
    ∙ (λ i. cond (lost_among homes room well q user is i) None (is i))

-- whoever is left was there
was_there : (gone : Bool) (o : Option User) (user : User)
    → cond gone None o ≡ Some user → o ≡ Some user
was_there true o user is = absurd (cc is)
was_there false o user is = is

pub split_was : (text : List ℕ) (homes : List (List ℕ)) (room : Room) → IsWellFormed room
    → (q : List ℕ) (user : User) → row (split text homes room).users q ≡ Some user
    → row room.users q ≡ Some user
unfolding split
split_was text homes room well q user is =
    was_there (among (lost_users homes room) q) (row room.users q) user
    (sym (users_left room text (lost_users homes room) q) ∙ is)

-- ---- a merge

module _ (room other : Room) (well : IsWellFormed room) (q : List ℕ) where
  -- who clashes is gone, and all others are left
  pub without_row : (user : User) → row room.users q ≡ Some user
      → row (room_without room other).users q ≡ cond (is_some (row other.users q)) None (Some user)
  without_row user is =
      users_without room other well q
      ∙ ap (λ (o : Option User). cond (is_some o && is_some (row other.users q)) None o) is

  pub without_was : (user : User) → row (room_without room other).users q ≡ Some user
      → row room.users q ≡ Some user
  without_was user is =
      was_there (both_hold room other q) (row room.users q) user
      (sym (users_without room other well q) ∙ is)

pub merge_row : (one other : Room) (q : List ℕ) → row (merge one other).users q
    ≡ either (row (room_without one other).users q) (row (room_without other one).users q)
unfolding merge
merge_row one other q =
    row-both either (room_without one other).users (room_without other one).users refl q
