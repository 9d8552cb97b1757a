-- The users of a server that is lost are of no other, while one after another quits.
use Rattle.std.proofs.Common.{◌≡◌, ℕ, Bool, true, false, cond, ◌||◌, Option, Some, None, List, []}
use Rattle.std.proofs.Common.{◌∷◌, refl, sym, ◌∙◌, ap}
use Rattle.std.specs.Cmp.Lexicographic.{bytes_decides}
use Rattle.std.specs.List.{AllByRecursion}
use Rattle.std.specs.Option.{option_map_or}
use Rattle.std.proofs.lemmas.Bool.{or_right}
use Rattle.irc_names.specs.Fold.{key}
use Rattle.irc_names.specs.Tables.{row}
use Rattle.irc_names.specs.TableLaws.{same_fold, same_fold-refl, row-alter}
use Rattle.irc_users.specs.declared.user.User.{User}
use Rattle.irc_users.specs.UserTable.{is_home}
use Rattle.irc_room.specs.effect.Effect.TheVariants.{Quit}
use Rattle.irc_room.specs.After.{after}
use Rattle.irc_room.specs.InTurn.{EachInTurn}
use Rattle.irc_room.specs.Room.{Room, IsWellFormed}
use Rattle.irc_merge.specs.CanBeDone.{DoesSomething}
use Rattle.irc_merge.specs.Quits.{quits_of, users_at}
use Rattle.irc_merge.specs.Lemmas.Quitting.{among, among_values}
use Rattle.irc_relay.specs.Links.{Name, same}
use Rattle.irc_relay.specs.Lemmas.TellingNames.{same_unless}
use Rattle.irc_stage.specs.View.{View}
use Rattle.irc_follow.specs.Lemmas.DeedEffects.{IsCounted}

-- the holder of a user's nickname, if there is one, is of this server
abbrev IsOf : Name → Room → User → Type 0
IsOf name room user = option_map_or (is_home name) (row room.users (key user.nick)) true ≡ true

all_in : (users all : List User) → ((q : List ℕ) → among users q ≡ true → among all q ≡ true)
    → AllByRecursion (λ (user : User). among all (key user.nick) ≡ true) users
all_in [] all more = tt
all_in (user ∷ users) all more = (
  more (key user.nick)
      (ap (λ b. b || among users (key user.nick)) (same_fold-refl (key user.nick))),
  all_in users all (λ q is. more q (or_right (same_fold q (key user.nick)) (among users q) is)),
)

each_of : (name : Name) (room : Room) → IsWellFormed room → (users : List User)
    → AllByRecursion (λ (user : User). among (users_at name room) (key user.nick) ≡ true) users
    → AllByRecursion (IsOf name room) users
each_of name room well [] all = tt
each_of name room well (user ∷ users) all = (
  by (row room.users (key user.nick)) (sym (among_values room.users well.users_named
      (is_home name) (key user.nick)) ∙ all.0),
  each_of name room well users all.1,
)
  where
    by : (o : Option User) → option_map_or (is_home name) o false ≡ true
        → option_map_or (is_home name) o true ≡ true
    by None is = refl
    by (Some found) is = is

pub lost_are_of : (name : Name) (room : Room) → IsWellFormed room
    → AllByRecursion (IsOf name room) (users_at name room)
lost_are_of name room well = each_of name room well (users_at name room)
    (all_in (users_at name room) (users_at name room) (λ q is. is))

still_of : (name : Name) (room : Room) (nick text : List ℕ) (users : List User) → AllByRecursion
    (IsOf name room) users → AllByRecursion (IsOf name (after room (Quit nick text))) users
unfolding after
still_of name room nick text [] all = tt
still_of name room nick text (user ∷ users) all = (
  ap (λ o. option_map_or (is_home name) o true) (row-alter (key nick) (λ _. None) room.users
      (key user.nick)) ∙ by (same_fold (key user.nick) (key nick)),
  still_of name room nick text users all.1,
)
  where
    by : (b : Bool)
        → option_map_or (is_home name) (cond b None (row room.users (key user.nick))) true ≡ true
    by true = refl
    by false = all.0

module _ (view : View) (t name : Name) (own : view.routes.name ≡ t) (other : (name ≡ t → ⊥)) where
  away : (room : Room) (nick : List ℕ) (user : User) → IsOf name room user
      → option_map_or (is_home view.routes.name) (row room.users (key user.nick)) false ≡ false
  away room nick user is = by (row room.users (key user.nick)) is
    where
      by : (o : Option User) → option_map_or (is_home name) o true ≡ true
          → option_map_or (is_home view.routes.name) o false ≡ false
      by None there = refl
      by (Some found) there =
          ap (same found.home) own ∙ ap (λ home. same home t)
          ((bytes_decides found.home name).0 there) ∙ same_unless name t other

  pub lost_counted : (room : Room) (text : List ℕ) (users : List User)
      → AllByRecursion (IsOf name room) users → EachInTurn DoesSomething room (quits_of text users)
      → EachInTurn (IsCounted view) room (quits_of text users)
  lost_counted room text [] all each = tt
  lost_counted room text (user ∷ users) all each = record {
    now = record { does_it = each.now; away = away room user.nick user all.0 };
    later = lost_counted (after room (Quit user.nick text)) text users
        (still_of name room user.nick text users all.1) each.later;
  }
