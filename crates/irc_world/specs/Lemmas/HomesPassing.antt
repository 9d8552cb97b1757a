-- Homes of users that pass a test pass it after an effect, where that of a new user does.
use Rattle.std.proofs.Common.{◌≡◌, ℕ, Bool, true, false, cond, Option, Some, None, List, refl, sym}
use Rattle.std.proofs.Common.{◌∙◌, ap, option_map}
use Rattle.std.specs.Prelude.{⊤}
use Rattle.std.proofs.lemmas.Option.{same_Some}
use Rattle.irc_names.specs.Fold.{key}
use Rattle.irc_names.specs.Tables.{Table, row, alter, moved}
use Rattle.irc_names.specs.TableLaws.{same_fold, row-alter, row-moved, row-moved_none}
use Rattle.irc_users.specs.declared.user.User.{User}
use Rattle.irc_users.specs.UserTable.{with_nick, with_change}
use Rattle.irc_room.specs.effect.Effect.{Effect}
use Rattle.irc_room.specs.effect.Effect.TheVariants.{AddUser, Rename, Quit, ChangeUser}
use Rattle.irc_room.specs.Room.{Room}
use Rattle.irc_room.specs.After.{after}

abbrev pub AllPass : (List ℕ → Bool) → Table User → Type 0
AllPass passes users = (fold : List ℕ) (user : User) → row users fold ≡ Some user
    → passes user.home ≡ true

abbrev pub NewPasses : (List ℕ → Bool) → Effect → Type 0
NewPasses passes (AddUser user) = passes user.home ≡ true
NewPasses passes other = ⊤

module _ (passes : List ℕ → Bool) where
  altered : (users : Table User) (fold : List ℕ) (change : Option User → Option User)
      → AllPass passes users → ((user : User) → change (row users fold) ≡ Some user
      → passes user.home ≡ true) → AllPass passes (alter fold change users)
  altered users fold change all new q user is =
      by (same_fold q fold) (sym (row-alter fold change users q) ∙ is)
    where
      by : (b : Bool) → cond b (change (row users fold)) (row users q) ≡ Some user
          → passes user.home ≡ true
      by true here = new user here
      by false here = all q user here

  changed : (change : User → User) → ((user : User) → (change user).home ≡ user.home)
      → (o : Option User) → ((user : User) → o ≡ Some user → passes user.home ≡ true) → (new : User)
      → option_map change o ≡ Some new → passes new.home ≡ true
  changed change home None all new is = absurd (cc is)
  changed change home (Some old) all new is =
      ap (λ (u : User). passes u.home) (sym (same_Some (change old) new is))
      ∙ (ap passes (home old) ∙ all old refl)

  put_elsewhere : (users : Table User) (old new nick : List ℕ)
      → AllPass passes users → (o : Option User) → row users old ≡ o
      → AllPass passes (moved old new (with_nick nick) users)
  put_elsewhere users old new nick all None here q user is =
      all q user (sym (row-moved_none old new (with_nick nick) users here q) ∙ is)
  put_elsewhere users old new nick all (Some one) here q user is =
      by (same_fold q new) (same_fold q old)
      (sym (row-moved old new (with_nick nick) users one here q) ∙ is)
    where
      by : (b c : Bool) → cond b (Some (with_nick nick one)) (cond c None (row users q)) ≡ Some user
          → passes user.home ≡ true
      by true c there = ap (λ (u : User). passes u.home)
          (sym (same_Some (with_nick nick one) user there)) ∙ all old one here
      by false true there = absurd (cc there)
      by false false there = all q user there

  pub pass_after : (room : Room) (effect : Effect) → AllPass passes room.users
      → NewPasses passes effect → AllPass passes (after room effect).users
  unfolding after
  pass_after room (AddUser user) all new = altered room.users (key user.nick) (λ _. Some user) all
      (λ one is. ap (λ (u : User). passes u.home) (sym (same_Some user one is)) ∙ new)
  pass_after room (Rename nick new) all _ =
      put_elsewhere room.users (key nick) (key new) new all (row room.users (key nick)) refl
  pass_after room (Quit nick reason) all _ =
      altered room.users (key nick) (λ _. None) all (λ one is. absurd (cc is))
  pass_after room (ChangeUser nick change) all _ =
      altered room.users (key nick) (option_map (with_change change)) all
      (changed (with_change change) (λ user. refl) (row room.users (key nick))
      (all (key nick)))
  pass_after room other all _ = all
