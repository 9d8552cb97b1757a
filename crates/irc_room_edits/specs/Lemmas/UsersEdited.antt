-- A user comes, changes, and is called otherwise in another spelling: as edits.
use Rattle.std.proofs.Common.{◌≡◌, ℕ, Bool, true, false, cond, Option, Some, None, List}
use Rattle.std.proofs.Common.{refl, sym, ap, ◌∙◌, option_map}
use Rattle.irc_names.specs.Tables.{Table, alter, moved, row}
use Rattle.irc_names.specs.TableLaws.{same_fold, one_fold, row-alter, row-moved}
use Rattle.irc_users.specs.declared.user.User.{User}
use Rattle.irc_users.specs.declared.user_change.UserChange.{UserChange}
use Rattle.irc_users.specs.declared.user_change.UserChange.TheVariants.{Invisible, Away}
use Rattle.irc_users.specs.UserTable.{with_change, with_nick}
use Rattle.irc_edited_rooms.specs.Writes.{Writes, all_of, written}
use Rattle.irc_edited_rooms.specs.Fates.{stays, goes, comes, after_fate}
use Rattle.irc_edited_rooms.specs.Lemmas.FatesMeet.{untouched_stays}
use Rattle.irc_room_edits.specs.Edits.{change_write, fate_if}
use Rattle.irc_room_edits.specs.Places.{Place, nickname, user_name, host, real_name}
use Rattle.irc_room_edits.specs.Places.{home, invisible, away, of_user, of_member, of_channel}
use Rattle.irc_room_edits.specs.Places.{user_row, user_write}

-- ---- one user

change_written : (change : UserChange) (user : User)
    → written (change_write change) (user_row user) ≡ user_row (with_change change user)
change_written change user i place = at change place i
  where
    at : (change : UserChange) (place : Place)
        → written (change_write change) (user_row user) place
        ≡ user_row (with_change change user) place
    at (Invisible is_invisible) (of_user nickname) = refl
    at (Invisible is_invisible) (of_user user_name) = refl
    at (Invisible is_invisible) (of_user host) = refl
    at (Invisible is_invisible) (of_user real_name) = refl
    at (Invisible is_invisible) (of_user home) = refl
    at (Invisible is_invisible) (of_user invisible) = refl
    at (Invisible is_invisible) (of_user away) = refl
    at (Invisible is_invisible) (of_member place) = refl
    at (Invisible is_invisible) (of_channel place) = refl
    at (Away text) (of_user nickname) = refl
    at (Away text) (of_user user_name) = refl
    at (Away text) (of_user host) = refl
    at (Away text) (of_user real_name) = refl
    at (Away text) (of_user home) = refl
    at (Away text) (of_user invisible) = refl
    at (Away text) (of_user away) = refl
    at (Away text) (of_member place) = refl
    at (Away text) (of_channel place) = refl

pub nick_written : (new : List ℕ) (user : User)
    → written (user_write nickname new) (user_row user) ≡ user_row (with_nick new user)
nick_written new user i place = at place i
  where
    at : (place : Place) → written (user_write nickname new) (user_row user) place
        ≡ user_row (with_nick new user) place
    at (of_user nickname) = refl
    at (of_user user_name) = refl
    at (of_user host) = refl
    at (of_user real_name) = refl
    at (of_user home) = refl
    at (of_user invisible) = refl
    at (of_user away) = refl
    at (of_member place) = refl
    at (of_channel place) = refl

-- ---- at a nickname

-- a user who comes
pub come_at : (users : Table User) (fold : List ℕ) (user : User) (k : List ℕ)
    → after_fate (fate_if (same_fold k fold) (comes (all_of (user_row user))))
    (option_map user_row (row users k))
    ≡ option_map user_row (row (alter fold (λ _. Some user) users) k)
come_at users fold user k =
    by (same_fold k fold) ∙ sym (ap (option_map user_row) (row-alter fold (λ _. Some user) users k))
  where
    by : (b : Bool) → after_fate (fate_if b (comes (all_of (user_row user))))
        (option_map user_row (row users k))
        ≡ option_map user_row (cond b (Some user) (row users k))
    by true = refl
    by false = untouched_stays (option_map user_row (row users k))

-- one who is changed
changed_one : (writes : Writes Place) (change : User → User)
    → ((user : User) → written writes (user_row user) ≡ user_row (change user))
    → (user : Option User) → after_fate (stays writes) (option_map user_row user)
    ≡ option_map user_row (option_map change user)
changed_one writes change so None = refl
changed_one writes change so (Some user) = ap Some (so user)

stay_at : (users : Table User) (fold : List ℕ) (writes : Writes Place) (change : User → User)
    → ((user : User) → written writes (user_row user) ≡ user_row (change user)) → (k : List ℕ)
    → after_fate (fate_if (same_fold k fold) (stays writes)) (option_map user_row (row users k))
    ≡ option_map user_row (row (alter fold (option_map change) users) k)
stay_at users fold writes change so k =
    by (same_fold k fold) refl
    ∙ sym (ap (option_map user_row) (row-alter fold (option_map change) users k))
  where
    by : (b : Bool) → same_fold k fold ≡ b
        → after_fate (fate_if b (stays writes)) (option_map user_row (row users k))
        ≡ option_map user_row (cond b (option_map change (row users fold)) (row users k))
    by true is =
        changed_one writes change so (row users k)
        ∙ ap (λ it. option_map user_row (option_map change (row users it))) (one_fold k fold is)
    by false is = untouched_stays (option_map user_row (row users k))

pub change_at : (users : Table User) (fold : List ℕ) (change : UserChange) (k : List ℕ)
    → after_fate (fate_if (same_fold k fold) (stays (change_write change)))
    (option_map user_row (row users k))
    ≡ option_map user_row (row (alter fold (option_map (with_change change)) users) k)
change_at users fold change =
    stay_at users fold (change_write change) (with_change change) (change_written change)

-- one who spells the nickname otherwise
pub respell_at : (users : Table User) (old new : List ℕ) (name : List ℕ) (user : User)
    → row users old ≡ Some user → old ≡ new → (k : List ℕ)
    → after_fate (fate_if (same_fold k old) (stays (user_write nickname name)))
    (option_map user_row (row users k))
    ≡ option_map user_row (row (moved old new (with_nick name) users) k)
respell_at users old new name user there one k =
    by (same_fold k old) refl
    ∙ ap (λ it. option_map user_row (cond (same_fold k it) (Some (with_nick name user))
    (cond (same_fold k old) None (row users k)))) one
    ∙ sym (ap (option_map user_row) (row-moved old new (with_nick name) users user there k))
  where
    by : (b : Bool) → same_fold k old ≡ b
        → after_fate (fate_if b (stays (user_write nickname name)))
        (option_map user_row (row users k))
        ≡ option_map user_row (cond (same_fold k old) (Some (with_nick name user))
        (cond (same_fold k old) None (row users k)))
    by true is =
        ap (λ it. after_fate (stays (user_write nickname name)) (option_map user_row it))
        (ap (row users) (one_fold k old is) ∙ there)
        ∙ ap Some (nick_written name user)
        ∙ sym (ap (λ b. option_map user_row (cond b (Some (with_nick name user))
        (cond b None (row users k)))) is)
    by false is =
        untouched_stays (option_map user_row (row users k))
        ∙ sym (ap (λ b. option_map user_row (cond b (Some (with_nick name user))
        (cond b None (row users k)))) is)

-- one who goes
pub gone_at : (users : Table User) (fold k : List ℕ)
    → after_fate (fate_if (same_fold k fold) goes) (option_map user_row (row users k))
    ≡ option_map user_row (row (alter fold (λ _. None) users) k)
gone_at users fold k =
    by (same_fold k fold) ∙ sym (ap (option_map user_row) (row-alter fold (λ _. None) users k))
  where
    by : (b : Bool) → after_fate (fate_if b goes) (option_map user_row (row users k))
        ≡ option_map user_row (cond b None (row users k))
    by true = refl
    by false = untouched_stays (option_map user_row (row users k))
