-- What comes of a user whom a burst introduces: a nickname that clashes is on neither side, any
-- other is there; and who of two sides is there then.
use Rattle.std.proofs.Common.{◌≡◌, ℕ, true, false, cond, not, ◌&&◌, Option, Some, None, List, []}
use Rattle.std.proofs.Common.{◌∷◌, ◌++◌, refl, sym, ◌∙◌, ap, map, is_some, option_to_list}
use Rattle.std.proofs.lemmas.Bool.{and_parts}
use Rattle.std.specs.Option.{option_map_or}
use Rattle.std.specs.Ordering.{is_lt, is_eq}
use Rattle.std.specs.FinMap.{entries}
use Rattle.std.specs.FinMap.Entries.{below_all}
use Rattle.irc_names.specs.Fold.{key}
use Rattle.irc_names.specs.Tables.{Table, fold_cmp, row, both}
use Rattle.irc_names.specs.TableLaws.{same_fold, row-alter}
use Rattle.irc_tables.specs.Lemmas.OrderedEntries.{turned}
use Rattle.irc_users.specs.declared.user.User.{User}
use Rattle.irc_room.specs.effect.Effect.TheVariants.{AddUser, Quit}
use Rattle.irc_room.specs.Room.{Room, IsWellFormed}
use Rattle.irc_room.specs.After.{after}
use Rattle.irc_room.specs.Found.{users_under}
use Rattle.irc_room.specs.Lemmas.FoundInTurn.{table_chooses}
use Rattle.irc_room.specs.Lemmas.WellFormedLaw.{after_is_well_formed}
use Rattle.irc_merge.specs.Quits.{collision_text}
use Rattle.irc_merge.specs.Deeds.{Deed, does, kills, after_deed, after_deeds}
use Rattle.irc_merge.specs.BurstRead.{introduced}
use Rattle.irc_merge.specs.Merge.{clash, room_without, either}
use Rattle.irc_merge.specs.Lemmas.TableWords.{order}
use Rattle.irc_merge.specs.Lemmas.Quitting.{quit_well}
use Rattle.irc_merge.specs.Lemmas.Clashing.{users_without}
use Rattle.irc_merge.specs.Lemmas.Joining.{row-either}

-- ---- one user

-- the room after a user was introduced, by who holds its nickname
abbrev pub met_by : Room → User → Option User → Room
met_by room user (Some holder) = after room (Quit holder.nick collision_text)
met_by room user None = after room (AddUser user)

abbrev pub met : Room → User → Room
met room user = met_by room user (row room.users (key user.nick))

pub is_met : (own : List ℕ) (room : Room) (user : User)
    → after_deeds room (introduced own room user) ≡ met room user
unfolding after_deed
is_met own room user = by_row (row room.users (key user.nick))
  where
    by_row : (o : Option User) → after_deeds room (option_map_or (λ (holder : User).
        kills own holder.nick ∷ []) o (does (AddUser user) ∷ [])) ≡ met_by room user o
    by_row None = refl
    by_row (Some holder) = refl

-- what is there of one nickname, where it was held or not, once a user was introduced with it or
-- none was
abbrev pub told_user : Option User → Option User → Option User
told_user None new = new
told_user (Some holder) None = Some holder
told_user (Some holder) (Some user) = None

pub users_met : (room : Room) (user : User) → IsWellFormed room → (q : List ℕ)
    → row (met room user).users q ≡ cond (same_fold q (key user.nick))
    (told_user (row room.users (key user.nick)) (Some user)) (row room.users q)
unfolding after
users_met room user well q = by_row (row room.users (key user.nick)) refl
  where
    by_row : (o : Option User) → row room.users (key user.nick) ≡ o → row (met_by room user o).users
        q ≡ cond (same_fold q (key user.nick)) (told_user o (Some user)) (row room.users q)
    by_row None at = row-alter (key user.nick) (λ _. Some user) room.users q
    by_row (Some holder) at =
        row-alter (key holder.nick) (λ _. None) room.users q
        ∙ ap (λ f. cond (same_fold q f) None (row room.users q))
        (well.users_named (key user.nick) holder at)

pub met_well : (room : Room) (user : User) → IsWellFormed room → IsWellFormed (met room user)
met_well room user well = by_row (row room.users (key user.nick)) refl
  where
    by_row : (o : Option User) → row room.users (key user.nick) ≡ o
        → IsWellFormed (met_by room user o)
    by_row None at = after_is_well_formed room (AddUser user) well (record {
      users_there = refl;
      channel_there = refl;
      nick_free = ap (λ p. not (is_some p)) at;
    })
    by_row (Some holder) at = quit_well room holder.nick collision_text well

-- ---- all users

abbrev pub introductions : List (List ℕ × User) → List Deed
introductions es = map (λ user. does (AddUser user)) (map (λ e. e.1) es)

-- ---- their channels

-- an entry above a fold is another
pub above_apart : (x y : List ℕ) → is_lt (fold_cmp x y) ≡ true → same_fold y x ≡ false
above_apart x y lt = ap is_eq (turned order x y lt)

pub under_same : (one other : Table User) (fold : List ℕ) → ((q : List ℕ) → same_fold q fold ≡ false
    → row one q ≡ row other q) → (es : List (List ℕ × User)) → below_all fold_cmp fold es ≡ true
    → users_under one es ≡ users_under other es
under_same one other fold alike [] below = refl
under_same one other fold alike (e ∷ es) below =
    let parts = and_parts _ _ below in
    λ i. option_to_list (alike e.0 (above_apart fold e.0 parts.0) i)
    ++ under_same one other fold alike es parts.1 i

pub other_met : (room : Room) (user : User) (fold : List ℕ) → IsWellFormed room
    → key user.nick ≡ fold → (q : List ℕ) → same_fold q fold ≡ false
    → row (met room user).users q ≡ row room.users q
other_met room user fold well named q other =
    users_met room user well q
    ∙ ap (λ b. cond b (told_user (row room.users (key user.nick)) (Some user)) (row room.users q))
    (ap (same_fold q) named ∙ other)

-- ---- the room once all users of another are introduced

told_either : (x y : Option User) → told_user x y ≡ either (cond (is_some x && is_some y) None x)
    (cond (is_some y && is_some x) None y)
told_either None None = refl
told_either None (Some u) = refl
told_either (Some h) None = refl
told_either (Some h) (Some u) = refl

-- who is there of both sides once those have quit who clash
pub both_users : (room other : Room) → IsWellFormed room → IsWellFormed other → (q : List ℕ)
    → row (both either (room_without room other).users (room_without other room).users) q
    ≡ told_user (row room.users q) (row other.users q)
both_users room other well well_other q =
    row-either (room_without room other).users (room_without other room).users q
    ∙ (λ i. either (users_without room other well q i) (users_without other room well_other q i))
    ∙ sym (told_either (row room.users q) (row other.users q))

-- those who hold a nickname of the other's users are those who clash
pub holders : (room other : Room) → IsWellFormed room
    → users_under room.users (entries other.users) ≡ clash room other
holders room other well =
    table_chooses room.users other.users (λ user. is_some (row other.users (key user.nick)))
    (λ fold user at. ap (λ f. is_some (row other.users f)) (sym (well.users_named fold user at)))
