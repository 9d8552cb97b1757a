-- Who is invited, and where, when a user takes another nickname.
use Rattle.std.proofs.Common.{◌≡◌, ℕ, Bool, true, false, cond, Option, Some, None, List, refl, sym}
use Rattle.std.proofs.Common.{◌∙◌, ap, is_some}
use Rattle.std.specs.Option.{option_map_or}
use Rattle.std.specs.FinMap.{retain_keys}
use Rattle.std.proofs.Math.Bool.{false≢true}
use Rattle.std.proofs.lemmas.Option.{none-some}
use Rattle.irc_names.specs.Fold.{same}
use Rattle.irc_names.specs.Tables.{Table, row, moved}
use Rattle.irc_names.specs.TableLaws.{same_fold, one_fold, same_table, row-moved, row-moved_none}
use Rattle.irc_names.specs.TableLaws.{row-retain_keys}
use Rattle.irc_users.specs.declared.user.User.{User}
use Rattle.irc_users.specs.UserTable.{is_home, with_nick}
use Rattle.irc_effects.specs.Invitations.{is_at}

-- Whoever is invited is a user, and nobody but the user itself has the new nickname.
module _ (home old new nick : List ℕ) (users : Table User) (invited : Table (Unit {0}))
    (known : (q : List ℕ) → is_some (row invited q) ≡ true → is_some (row users q) ≡ true)
    (free : is_some (row users new) ≡ true → same_fold new old ≡ true) where
  abbrev is_here : Option User → Bool
  is_here found = option_map_or (is_home home) found false

  abbrev now_at : List ℕ → Bool
  now_at = is_at home (moved old new (with_nick nick) users)

  abbrev was_at : List ℕ → Bool
  was_at = is_at home users

  -- where the user is, if it is there
  abbrev turned_to : Option User → List ℕ → Option User
  turned_to None q = row users q
  turned_to (Some user) q = cond (same_fold q new) (Some (with_nick nick user))
      (cond (same_fold q old) None (row users q))

  row_now : (o : Option User) → row users old ≡ o → (q : List ℕ)
      → row (moved old new (with_nick nick) users) q ≡ turned_to o q
  row_now None at q = row-moved_none old new (with_nick nick) users at q
  row_now (Some user) at q = row-moved old new (with_nick nick) users user at q

  -- nobody has the new nickname, or it is the old one
  nobody_new : same_fold new old ≡ false → (o : Option User) → row users new ≡ o → o ≡ None
  nobody_new apart None at = refl
  nobody_new apart (Some user) at = absurd (false≢true (sym apart ∙ free (ap is_some at)))

  not_invited : (q : List ℕ) → row users q ≡ None → (o : Option (Unit {0})) → row invited q ≡ o
      → o ≡ None
  not_invited q nobody None at = refl
  not_invited q nobody (Some u) at =
      absurd (false≢true (sym (ap is_some nobody) ∙ known q (ap is_some at)))

  -- the user is not among the invited
  uninvited : row invited old ≡ None → (q : List ℕ)
      → cond (now_at q) (row invited q) None ≡ cond (was_at q) (row invited q) None
  uninvited none q = by_invited (row invited q) refl
    where
      either : (b c : Bool) → ◌≡◌ {A = Option (Unit {0})} (cond b None None) (cond c None None)
      either true true = refl
      either true false = refl
      either false true = refl
      either false false = refl

      apart_old : (u : Unit {0}) → row invited q ≡ Some u → (b : Bool) → same_fold q old ≡ b
          → b ≡ false
      apart_old u at true one =
          absurd (none-some u (sym none ∙ ap (row invited) (sym (one_fold q old one)) ∙ at))
      apart_old u at false apart = refl

      apart_new : (u : Unit {0}) → row invited q ≡ Some u → (b : Bool) → same_fold q new ≡ b
          → b ≡ false
      apart_new u at true one =
          absurd (false≢true (sym (apart_old u at (same_fold q old) refl)
          ∙ ap (λ f. same_fold f old) (one_fold q new one) ∙ free (ap (λ f.
          is_some (row users f)) (sym (one_fold q new one)) ∙ known q (ap is_some at))))
      apart_new u at false apart = refl

      still : (u : Unit {0}) → row invited q ≡ Some u → (o : Option User)
          → turned_to o q ≡ row users q
      still u at None = refl
      still u at (Some user) =
          ap (λ b. cond b (Some (with_nick nick user)) (cond (same_fold q old) None (row users q)))
          (apart_new u at (same_fold q new) refl)
          ∙ ap (λ b. cond b None (row users q)) (apart_old u at (same_fold q old) refl)

      by_invited : (o : Option (Unit {0})) → row invited q ≡ o
          → cond (now_at q) o None ≡ cond (was_at q) o None
      by_invited None at = either (now_at q) (was_at q)
      by_invited (Some u) at =
          ap (λ o. cond (is_here o) (Some u) None) (row_now (row users old) refl q
          ∙ still u at (row users old))

  -- the user is invited, and moves on
  invited_on : (user : User) → row users old ≡ Some user → (u : Unit {0})
      → row invited old ≡ Some u → (q : List ℕ) → cond (now_at q)
      (cond (same_fold q new) (Some u) (cond (same_fold q old) None (row invited q))) None
      ≡ row (moved old new (λ u. u) (retain_keys invited was_at)) q
  invited_on user at u there q =
      ap (λ o. cond (is_here o)
      (cond (same_fold q new) (Some u) (cond (same_fold q old) None (row invited q))) None)
      (row_now (Some user) at q)
      ∙ by_home (is_home home user) refl
    where
      was_old : was_at old ≡ is_home home user
      was_old = ap (λ o. is_here o) at

      kept_row : (b : Bool) → is_home home user ≡ b
          → row (retain_keys invited was_at) old ≡ cond b (Some u) None
      kept_row b is =
          row-retain_keys invited was_at old ∙ (λ i. cond ((was_old ∙ is) i) (there i) None)

      here : (b c : Bool) → is_home home user ≡ true
          → cond (is_here (cond b (Some (with_nick nick user)) (cond c None (row users q))))
          (cond b (Some u) (cond c None (row invited q))) None
          ≡ cond b (Some u) (cond c None (cond (was_at q) (row invited q) None))
      here true c is = ap (λ h. cond h (Some u) None) is
      here false true is = refl
      here false false is = refl

      away : (b c : Bool) → same_fold q new ≡ b → same_fold q old ≡ c → is_home home user ≡ false
          → cond (is_here (cond b (Some (with_nick nick user)) (cond c None (row users q))))
          (cond b (Some u) (cond c None (row invited q))) None
          ≡ cond (was_at q) (row invited q) None
      away true c one old_is is =
          ap (λ h. cond h (Some u) None) is ∙ sym (away_new (same_fold new old) refl)
        where
          away_new : (d : Bool) → same_fold new old ≡ d
              → cond (was_at q) (row invited q) None ≡ None
          away_new true same =
              ap (λ h. cond h (row invited q) None)
              (ap was_at (one_fold q new one ∙ one_fold new old same) ∙ was_old ∙ is)
          away_new false apart =
              ap (λ o. cond (is_here o) (row invited q) None)
              (ap (row users) (one_fold q new one) ∙ nobody_new apart (row users new) refl)
      away false true one old_is is = sym
          (ap (λ h. cond h (row invited q) None) (ap was_at (one_fold q old old_is) ∙ was_old ∙ is))
      away false false one old_is is = refl

      by_home : (b : Bool) → is_home home user ≡ b → cond (is_here (turned_to (Some user) q))
          (cond (same_fold q new) (Some u) (cond (same_fold q old) None (row invited q))) None
          ≡ row (moved old new (λ u. u) (retain_keys invited was_at)) q
      by_home true is =
          here (same_fold q new) (same_fold q old) is
          ∙ sym (row-moved old new (λ u. u) (retain_keys invited was_at) u (kept_row true is) q
          ∙ ap (λ o. cond (same_fold q new) (Some u) (cond (same_fold q old) None o))
          (row-retain_keys invited was_at q))
      by_home false is =
          away (same_fold q new) (same_fold q old) refl refl is
          ∙ sym (row-moved_none old new (λ u. u) (retain_keys invited was_at) (kept_row false is) q
          ∙ row-retain_keys invited was_at q)

  pub invited_moved : retain_keys (moved old new (λ u. u) invited) now_at
      ≡ moved old new (λ u. u) (retain_keys invited was_at)
  invited_moved = same_table (retain_keys (moved old new (λ u. u) invited) now_at)
      (moved old new (λ u. u) (retain_keys invited was_at)) (λ q.
      row-retain_keys (moved old new (λ u. u) invited) now_at q
      ∙ by_invited q (row invited old) refl)
    where
      none_kept : (b : Bool) → row invited old ≡ None → cond b (row invited old) None ≡ None
      none_kept true none = none
      none_kept false none = refl

      by_user : (u : Unit {0}) → row invited old ≡ Some u → (q : List ℕ)
          → (o : Option User) → row users old ≡ o → cond (now_at q)
          (cond (same_fold q new) (Some u) (cond (same_fold q old) None (row invited q))) None
          ≡ row (moved old new (λ u. u) (retain_keys invited was_at)) q
      by_user u there q None at =
          absurd (false≢true (sym (ap is_some at) ∙ known old (ap is_some there)))
      by_user u there q (Some user) at = invited_on user at u there q

      by_invited : (q : List ℕ) (o : Option (Unit {0})) → row invited old ≡ o
          → cond (now_at q) (row (moved old new (λ u. u) invited) q) None
          ≡ row (moved old new (λ u. u) (retain_keys invited was_at)) q
      by_invited q None none =
          ap (λ o. cond (now_at q) o None) (row-moved_none old new (λ u. u) invited none q)
          ∙ uninvited none q
          ∙ sym (row-moved_none old new (λ u. u) (retain_keys invited was_at)
          (row-retain_keys invited was_at old ∙ none_kept (was_at old) none) q
          ∙ row-retain_keys invited was_at q)
      by_invited q (Some u) there =
          ap (λ o. cond (now_at q) o None) (row-moved old new (λ u. u) invited u there q)
          ∙ by_user u there q (row users old) refl
