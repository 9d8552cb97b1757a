-- What users have set of themselves, as a burst tells it: those who are introduced come with what
-- that line tells of them, and their changes, read behind all introductions, make them whole.
use Rattle.std.proofs.Common.{◌≡◌, ℕ, Bool, true, false, cond, ◌&&◌, Option, Some, None, List, []}
use Rattle.std.proofs.Common.{◌∷◌, ◌++◌, refl, sym, ◌∙◌, ap, map, option_map, is_some}
use Rattle.std.proofs.Common.{option_to_list}
use Rattle.std.specs.List.{flat_map, AllByRecursion}
use Rattle.std.specs.Option.{option_and_then}
use Rattle.irc_names.specs.Fold.{key, same}
use Rattle.irc_names.specs.Tables.{Table, row}
use Rattle.irc_names.specs.TableLaws.{same_fold, one_fold, same_table, row-alter}
use Rattle.irc_tables.specs.TableChanges.{tried_at}
use Rattle.irc_users.specs.declared.user.User.{User}
use Rattle.irc_users.specs.declared.user_change.UserChange.{UserChange}
use Rattle.irc_users.specs.UserTable.{is_shown, with_change}
use Rattle.irc_users.specs.ChangesTold.{as_introduced, changes_of, changed_by, changes_found}
use Rattle.irc_users.specs.ChangesTold.{table_changed, all_changed}
use Rattle.irc_users.specs.Lemmas.ChangesMeet.{told_whole, told_unseen}
use Rattle.irc_room.specs.effect.Effect.TheVariants.{ChangeUser}
use Rattle.irc_room.specs.Room.{Room}
use Rattle.irc_room.specs.After.{after}
use Rattle.irc_room.specs.Seen.{shown_line}
use Rattle.irc_room.specs.Viewers.{shows_to, line_for}
use Rattle.irc_merge.specs.Deeds.{does, after_deed, after_deeds, shown_by, shown_by_all}
use Rattle.irc_merge.specs.Bursts.{own_deeds}
use Rattle.irc_merge.specs.Lemmas.Reading.{read_one, reads, reads-one, reads-append}
use Rattle.irc_merge.specs.Lemmas.ShownReading.{shown_one, shown_reads, shown_reads-one}
use Rattle.irc_merge.specs.Lemmas.ShownReading.{shown_reads-append}
use Rattle.irc_merge.specs.Lemmas.Introducing.{told_user}

-- ---- changes that are read

-- nothing changes where nobody has the nickname
idle : (nick : List ℕ) (change : UserChange) (users : Table User) → row users (key nick) ≡ None
    → users ≡ tried_at nick (with_change change) users
idle nick change users none = same_table users (tried_at nick (with_change change) users)
    (λ q. sym (row-alter (key nick) (option_map (with_change change)) users q
    ∙ by_fold q (same_fold q (key nick)) refl))
  where
    by_fold : (q : List ℕ) (b : Bool) → same_fold q (key nick) ≡ b
        → cond b (option_map (with_change change) (row users (key nick))) (row users q)
        ≡ row users q
    by_fold q true one =
        ap (option_map (with_change change)) none
        ∙ sym (ap (row users) (one_fold q (key nick) one) ∙ none)
    by_fold q false two = refl

module _ (own : List ℕ) (far : List ℕ → Bool) where
  change_read : (room : Room) (nick : List ℕ) (change : UserChange)
      → read_one own far room (does (ChangeUser nick change))
      ≡ record room { users = tried_at nick (with_change change) room.users }
  unfolding after after_deed
  change_read room nick change = by_row (row room.users (key nick)) refl
    where
      by_row : (o : Option User) → row room.users (key nick) ≡ o
          → after_deeds room (cond (is_some o) (does (ChangeUser nick change) ∷ []) [])
          ≡ record room { users = tried_at nick (with_change change) room.users }
      by_row None none =
          ap (λ users. record { users = users; channels = room.channels })
          (idle nick change room.users none)
      by_row (Some user) there = refl

  user_read : (nick : List ℕ) (changes : List UserChange) (room : Room)
      → reads own far room (map (λ change. does (ChangeUser nick change)) changes)
      ≡ record room { users = table_changed nick changes room.users }
  user_read nick [] room = refl
  user_read nick (change ∷ changes) room =
      let later = map (λ change. does (ChangeUser nick change)) changes in
      reads-one own far room (does (ChangeUser nick change)) later
      ∙ ap (λ r. reads own far r later) (change_read room nick change)
      ∙ user_read nick changes
      (record room { users = tried_at nick (with_change change) room.users })

  -- the changes of some users change the users alone
  pub changes_read : (users : List User) (room : Room)
      → reads own far room (flat_map own_deeds users)
      ≡ record room { users = all_changed users room.users }
  changes_read [] room = refl
  changes_read (user ∷ users) room =
      reads-append own far room (own_deeds user) (flat_map own_deeds users)
      ∙ ap (λ r. reads own far r (flat_map own_deeds users))
      (user_read user.nick (changes_of user) room)
      ∙ changes_read users
      (record room { users = table_changed user.nick (changes_of user) room.users })

-- who was introduced and then changed is the user that is told of
pub whole_again : (x y : Option User)
    → option_map (changed_by (changes_found y)) (told_user x (option_map as_introduced y))
    ≡ told_user x y
whole_again None None = refl
whole_again None (Some user) = ap Some (told_whole user)
whole_again (Some holder) None = refl
whole_again (Some holder) (Some user) = refl

-- ---- nobody is shown them

unseen : (room : Room) (nick : List ℕ) (change : UserChange) (viewer : List ℕ)
    → is_shown change ≡ false → shows_to room (ChangeUser nick change) viewer ≡ None
unfolding shows_to
unseen room nick change viewer quiet = by_row (row room.users (key viewer))
  where
    by_row : (o : Option User)
        → option_and_then (line_for room (ChangeUser nick change)) o ≡ None
    by_row None = refl
    by_row (Some user) =
        ap (λ b. cond (b && same nick user.nick)
        (shown_line room (ChangeUser nick change) user) None) quiet

module _ (viewer own : List ℕ) (far : List ℕ → Bool) where
  change_unseen : (room : Room) (nick : List ℕ) (change : UserChange) → is_shown change ≡ false
      → shown_one viewer own far room (does (ChangeUser nick change)) ≡ []
  unfolding shown_by
  change_unseen room nick change quiet = by_row (row room.users (key nick))
    where
      by_row : (o : Option User) → shown_by_all viewer room
          (cond (is_some o) (does (ChangeUser nick change) ∷ []) []) ≡ []
      by_row None = refl
      by_row (Some user) =
          ap (λ o. (option_to_list o ++ []) ++ []) (unseen room nick change viewer quiet)

  user_unseen : (nick : List ℕ) (changes : List UserChange)
      → AllByRecursion (λ change. is_shown change ≡ false) changes → (room : Room)
      → shown_reads viewer own far room (map (λ change. does (ChangeUser nick change)) changes)
      ≡ []
  user_unseen nick [] quiet room = refl
  user_unseen nick (change ∷ changes) quiet room =
      let later = map (λ change. does (ChangeUser nick change)) changes in
      shown_reads-one viewer own far room (does (ChangeUser nick change)) later
      ∙ (λ i. change_unseen room nick change quiet.0 i
      ++ user_unseen nick changes quiet.1
      (read_one own far room (does (ChangeUser nick change))) i)

  pub changes_unseen : (users : List User) (room : Room)
      → shown_reads viewer own far room (flat_map own_deeds users) ≡ []
  changes_unseen [] room = refl
  changes_unseen (user ∷ users) room =
      shown_reads-append viewer own far room (own_deeds user) (flat_map own_deeds users)
      ∙ (λ i. user_unseen user.nick (changes_of user) (told_unseen user) room i
      ++ changes_unseen users (reads own far room (own_deeds user)) i)
