-- Servers that are lost one by one are a split.
use Rattle.std.proofs.Common.{◌≡◌, ℕ, Bool, true, false, cond, Option, Some, None, List, [], ◌∷◌}
use Rattle.std.proofs.Common.{◌++◌, refl, sym, ◌∙◌, ap, filter, filter_map, option_to_list}
use Rattle.std.proofs.Common.{if◌then◌else◌}
use Rattle.std.proofs.lemmas.List.{map-append, append_assoc}
use Rattle.std.specs.List.{list_any, cons_option}
use Rattle.std.specs.Option.{option_and_then, option_map_or}
use Rattle.std.specs.Cmp.Lexicographic.{bytes_decides}
use Rattle.std.specs.FinMap.{values}
use Rattle.std.proofs.lemmas.Bool.{or_parts}
use Rattle.std.proofs.Math.Bool.{false≢true}
use Rattle.irc_names.specs.Spellings.{exactly_same}
use Rattle.irc_names.specs.Tables.{Table, row, each}
use Rattle.irc_names.specs.TableLaws.{same_table, row-each}
use Rattle.irc_users.specs.declared.user.User.{User}
use Rattle.irc_users.specs.UserTable.{is_home}
use Rattle.irc_room.specs.effect.Effect.{Effect}
use Rattle.irc_room.specs.effect.Effect.TheVariants.{Quit}
use Rattle.irc_room.specs.Room.{Room, IsWellFormed}
use Rattle.irc_room.specs.After.{after}
use Rattle.irc_room.specs.InTurn.{after_all}
use Rattle.irc_room.specs.InTurnLaws.{after_all-append}
use Rattle.irc_room.specs.Viewers.{shows_to}
use Rattle.irc_merge.specs.ShownAlong.{shown_along}
use Rattle.irc_merge.specs.Quits.{quits_of, users_at}
use Rattle.irc_merge.specs.Deeds.{after_deed, after_deeds, shown_by, shown_by_all}
use Rattle.irc_merge.specs.Split.{lost_home, lost_homes, lost_users, split, split_effects, squits}
use Rattle.irc_merge.specs.Split.{are_distinct}
use Rattle.irc_merge.specs.Laws.{OthersStay, HomesOneByOne, SplitIsWellFormed, SquitsSplit}
use Rattle.irc_merge.specs.Lemmas.TableWords.{values_each}
use Rattle.irc_merge.specs.Lemmas.Quitting.{users_left, quits_well, among_values}
use Rattle.irc_merge.specs.Lemmas.BooleanTests.{not_and}

-- ---- the users of a table that pass a test are the values of a table

abbrev if_passes : {X : Type 0} → (X → Bool) → X → Option X
if_passes p x = if p x then Some x else None

filter_is : {X : Type 0} (p : X → Bool) (xs : List X) → filter_map (if_passes p) xs ≡ filter p xs
filter_is p [] = refl
filter_is {X} p (x ∷ xs) = by_test (p x) (filter_is p xs)
  where
    by_test : (b : Bool) → filter_map (if_passes p) xs ≡ filter p xs → cons_option (cond b
        (Some x) None) (filter_map (if_passes p) xs) ≡ cond b (x ∷ filter p xs) (filter p xs)
    by_test true rest = ap (λ ys. x ∷ ys) rest
    by_test false rest = rest

chosen_table : {X : Type 0} (p : X → Bool) (table : Table X)
    → filter p (values table) ≡ values (each (if_passes p) table)
chosen_table p table = sym (values_each (if_passes p) table ∙ filter_is p (values table))

-- ---- who is at another server stays

pub two_homes : (home other : List ℕ) → exactly_same home other ≡ false → (user : User)
    → is_home home user ≡ true → is_home other user ≡ false
two_homes home other two user here = by_test (is_home other user) refl
  where
    by_test : (b : Bool) → is_home other user ≡ b → b ≡ false
    by_test true there =
        absurd (false≢true
        (sym (sym ((bytes_decides home other).1 (sym ((bytes_decides user.home home).0
        here) ∙ (bytes_decides user.home other).0 there)) ∙ two)))
    by_test false there = refl

pub others_stay : OthersStay
unfolding lost_home
others_stay text home other room two well =
    chosen_table (is_home other) (after_all room (quits_of text (users_at home room))).users
    ∙ ap values (same_table (each (if_passes (is_home other)) (after_all room (quits_of text
    (users_at home room))).users) (each (if_passes (is_home other)) room.users) (λ q.
    row-each (if_passes (is_home other))
    (after_all room (quits_of text (users_at home room))).users q
    ∙ ap (option_and_then (if_passes (is_home other)))
    (users_left room text (users_at home room) q
    ∙ ap (λ b. cond b None (row room.users q))
    (among_values room.users well.users_named (is_home home) q))
    ∙ by_row (row room.users q)
    ∙ sym (row-each (if_passes (is_home other)) room.users q)))
    ∙ sym (chosen_table (is_home other) room.users)
  where
    by_home : (user : User) (b : Bool) → is_home home user ≡ b → option_and_then
        (if_passes (is_home other)) (cond b None (Some user)) ≡ if_passes (is_home other) user
    by_home user true here =
        sym (ap (λ c. cond c (Some user) None) (two_homes home other two user here))
    by_home user false here = refl

    by_row : (o : Option User) → option_and_then (if_passes (is_home other)) (cond (option_map_or
        (is_home home) o false) None o) ≡ option_and_then (if_passes (is_home other)) o
    by_row None = refl
    by_row (Some user) = by_home user (is_home home user) refl

-- ---- one server after another

pub lost_well : (text : List ℕ) (room : Room) (home : List ℕ) → IsWellFormed room
    → IsWellFormed (lost_home text room home)
unfolding lost_home
lost_well text room home well = quits_well room text (users_at home room) well

same_users : (text : List ℕ) (room : Room) (home : List ℕ) (homes : List (List ℕ))
    → list_any (exactly_same home) homes ≡ false → IsWellFormed room
    → lost_users homes (lost_home text room home) ≡ lost_users homes room
same_users text room home [] two well = refl
same_users text room home (other ∷ homes) two well =
    let parts = or_parts _ _ two in
    λ i. others_stay text home other room parts.0 well i
    ++ same_users text room home homes parts.1 well i

-- the quits of one server, and then those of others, are the split's
one_more : (text : List ℕ) (home : List ℕ) (homes : List (List ℕ)) (room : Room)
    → after_all (lost_home text room home) (quits_of text (lost_users homes room))
    ≡ split text (home ∷ homes) room
unfolding lost_home split
one_more text home homes room =
    sym (ap (after_all room) (map-append (λ (user : User). Quit user.nick text) (users_at home room)
    (lost_users homes room))
    ∙ after_all-append room (quits_of text (users_at home room))
    (quits_of text (lost_users homes room)))

pub homes_one_by_one : HomesOneByOne
unfolding split
homes_one_by_one text [] room distinct well = refl
homes_one_by_one text (home ∷ homes) room distinct well =
    let parts = not_and _ _ distinct in
    homes_one_by_one text homes (lost_home text room home) parts.1 (lost_well text room home well)
    ∙ ap (λ users. after_all (lost_home text room home) (quits_of text users))
    (same_users text room home homes parts.0 well)
    ∙ one_more text home homes room

pub split_is_well_formed : SplitIsWellFormed
unfolding split
split_is_well_formed text homes room well = quits_well room text (lost_users homes room) well

-- ---- by SQUITs

pub shown-append : (viewer : List ℕ) (room : Room) (a b : List Effect) → shown_along viewer room
    (a ++ b) ≡ shown_along viewer room a ++ shown_along viewer (after_all room a) b
shown-append viewer room [] b = refl
shown-append viewer room (effect ∷ a) b =
    ap (λ rest. option_to_list (shows_to room effect viewer) ++ rest)
    (shown-append viewer (after room effect) a b)
    ∙ sym (append_assoc (option_to_list (shows_to room effect viewer)) (shown_along viewer
    (after room effect) a) (shown_along viewer (after_all (after room effect) a) b))

squits_leave : (server text : List ℕ) (homes : List (List ℕ)) (room : Room)
    → after_deeds room (squits server text homes) ≡ lost_homes text room homes
unfolding after_deed lost_home
squits_leave server text [] room = refl
squits_leave server text (home ∷ homes) room =
    squits_leave server text homes (lost_home text room home)

squits_show : (server text : List ℕ) (homes : List (List ℕ)) (room : Room)
    → are_distinct homes ≡ true → IsWellFormed room → (viewer : List ℕ) → shown_by_all viewer room
    (squits server text homes) ≡ shown_along viewer room (split_effects text homes room)
unfolding after_deed lost_home shown_by
squits_show server text [] room distinct well viewer = refl
squits_show server text (home ∷ homes) room distinct well viewer =
    let parts = not_and _ _ distinct in
    let here = quits_of text (users_at home room) in
    ap (λ rest. shown_along viewer room here ++ rest)
    (squits_show server text homes (lost_home text room home) parts.1
    (lost_well text room home well) viewer
    ∙ ap (λ users. shown_along viewer (lost_home text room home) (quits_of text users))
    (same_users text room home homes parts.0 well))
    ∙ sym (ap (shown_along viewer room) (map-append (λ (user : User). Quit user.nick text)
    (users_at home room) (lost_users homes room))
    ∙ shown-append viewer room here (quits_of text (lost_users homes room)))

pub squits_split : SquitsSplit
squits_split server text homes room distinct well = record {
  room_left = squits_leave server text homes room ∙ homes_one_by_one text homes room distinct well;
  shown = squits_show server text homes room distinct well;
}
