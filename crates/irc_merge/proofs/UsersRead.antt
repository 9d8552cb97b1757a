-- Users and channels of a room once all users of another are introduced, one after another, and
-- have changed what they have set.
use Rattle.std.proofs.Common.{◌≡◌, ℕ, Bool, true, Option, Some, None, List, [], ◌∷◌}
use Rattle.std.proofs.Common.{◌++◌, refl, sym, ◌∙◌, ap, option_map, option_to_list}
use Rattle.std.proofs.lemmas.Bool.{and_parts}
use Rattle.std.specs.List.{AllByRecursion}
use Rattle.std.specs.FinMap.{entries, entries_sorted, values, is_sorted, get-entries}
use Rattle.irc_names.specs.Lemmas.PlainFacts.{is_true}
use Rattle.irc_names.specs.Fold.{key}
use Rattle.irc_names.specs.Tables.{Table, fold_cmp, row, each, both}
use Rattle.irc_names.specs.TableLaws.{same_table}
use Rattle.irc_users.specs.declared.user.User.{User}
use Rattle.irc_users.specs.ChangesTold.{as_introduced, changed_by, changes_found, all_changed}
use Rattle.irc_users.specs.Lemmas.ChangesMeet.{changes_meet_their_users}
use Rattle.irc_channels.specs.declared.channel.Channel.{Channel}
use Rattle.irc_channels.specs.Channels.{without_user}
use Rattle.irc_room.specs.effect.Effect.TheVariants.{AddUser, Quit}
use Rattle.irc_room.specs.Room.{Room, IsWellFormed}
use Rattle.irc_room.specs.After.{after}
use Rattle.irc_room.specs.InTurn.{after_all}
use Rattle.irc_room.specs.Found.{users_under}
use Rattle.irc_room.specs.Lemmas.ViewerLaws.{IsNamed, table_named}
use Rattle.irc_merge.specs.Quits.{quits_of, collision_text}
use Rattle.irc_merge.specs.Deeds.{does}
use Rattle.irc_merge.specs.Bursts.{user_deeds, change_deeds, people_deeds}
use Rattle.irc_merge.specs.Merge.{clash, room_without, either}
use Rattle.irc_merge.specs.Lemmas.Reading.{reads, reads-one, reads-append}
use Rattle.irc_merge.specs.Lemmas.Introducing.{met_by, met, is_met, told_user, met_well}
use Rattle.irc_merge.specs.Lemmas.Introducing.{introductions, under_same, other_met, both_users}
use Rattle.irc_merge.specs.Lemmas.Introducing.{holders}
use Rattle.irc_merge.specs.Lemmas.BareUsers.{bare, bare_deeds, bare_sorted, bare_named}
use Rattle.irc_merge.specs.Lemmas.BareUsers.{bare_under, introduced_row}
use Rattle.irc_merge.proofs.ChangesRead.{changes_read, whole_again}

-- ---- their channels

-- channels when these users have quit
abbrev quit_all : List User → Table Channel → Table Channel
quit_all [] channels = channels
quit_all (user ∷ users) channels = quit_all users (each (without_user (key user.nick)) channels)

quit_all_is : (room : Room) (text : List ℕ) (users : List User)
    → (after_all room (quits_of text users)).channels ≡ quit_all users room.channels
unfolding after
quit_all_is room text [] = refl
quit_all_is room text (user ∷ users) = quit_all_is (after room (Quit user.nick text)) text users

channels_met : (room : Room) (user : User) → IsWellFormed room
    → (rest : List User) → quit_all rest (met room user).channels
    ≡ quit_all (option_to_list (row room.users (key user.nick)) ++ rest) room.channels
unfolding after
channels_met room user well rest = by_row (row room.users (key user.nick))
  where
    by_row : (o : Option User) → quit_all rest (met_by room user o).channels
        ≡ quit_all (option_to_list o ++ rest) room.channels
    by_row None = refl
    by_row (Some holder) = refl

channels_read : (own : List ℕ) (far : List ℕ → Bool) (es : List (List ℕ × User))
    → is_sorted fold_cmp es ≡ true → AllByRecursion IsNamed es → (room : Room)
    → IsWellFormed room → (reads own far room (introductions es)).channels
    ≡ quit_all (users_under room.users es) room.channels
channels_read own far [] rise named room well = refl
channels_read own far (e ∷ es) rise named room well =
    let parts = and_parts _ _ rise in
    ap (λ (r : Room). r.channels) (reads-one own far room (does (AddUser e.1)) (introductions es))
    ∙ ap (λ (r : Room). (reads own far r (introductions es)).channels) (is_met own room e.1)
    ∙ channels_read own far es parts.1 named.1 (met room e.1) (met_well room e.1 well)
    ∙ ap (λ us. quit_all us (met room e.1).channels)
    (under_same (met room e.1).users room.users e.0
    (other_met room e.1 e.0 well named.0) es parts.0)
    ∙ channels_met room e.1 well (users_under room.users es)
    ∙ ap (λ f. quit_all
    (option_to_list (row room.users f) ++ users_under room.users es) room.channels) named.0

-- ---- the room once all users of another are introduced, and have changed

-- the room after the introductions
abbrev met_all : List ℕ → (List ℕ → Bool) → Room → Room → Room
met_all own far room other = reads own far room (introductions (bare (entries other.users)))

people_read : (own : List ℕ) (far : List ℕ → Bool) (room other : Room)
    → reads own far room (people_deeds other)
    ≡ record (met_all own far room other) {
      users = all_changed (values other.users) (met_all own far room other).users;
    }
people_read own far room other =
    reads-append own far room (user_deeds other) (change_deeds other)
    ∙ ap (λ deeds. reads own far (reads own far room deeds) (change_deeds other))
    (bare_deeds (entries other.users))
    ∙ changes_read own far (values other.users) (met_all own far room other)

rising : (other : Room) → is_sorted fold_cmp (bare (entries other.users)) ≡ true
rising other =
    bare_sorted (entries other.users) ∙ is_true _ (entries_sorted other.users)

met_row : (own : List ℕ) (far : List ℕ → Bool) (room other : Room) → IsWellFormed room
    → IsWellFormed other → (q : List ℕ) → row (met_all own far room other).users q
    ≡ told_user (row room.users q) (option_map as_introduced (row other.users q))
met_row own far room other well well_other q =
    ap (λ deeds. row (reads own far room deeds).users q) (sym (bare_deeds (entries other.users)))
    ∙ introduced_row own far room other well well_other q

pub users_introduced : (own : List ℕ) (far : List ℕ → Bool) (room other : Room)
    → IsWellFormed room → IsWellFormed other → (reads own far room (people_deeds other)).users
    ≡ both either (room_without room other).users (room_without other room).users
users_introduced own far room other well well_other =
    same_table (reads own far room (people_deeds other)).users
    (both either (room_without room other).users (room_without other room).users) (λ q.
    ap (λ (r : Room). row r.users q) (people_read own far room other)
    ∙ changes_meet_their_users (entries other.users) (is_true _ (entries_sorted other.users))
    (table_named other.users well_other.users_named) (met_all own far room other).users q
    ∙ ap (λ o. option_map (changed_by (changes_found o)) (row (met_all own far room other).users q))
    (sym (get-entries other.users q))
    ∙ ap (option_map (changed_by (changes_found (row other.users q))))
    (met_row own far room other well well_other q)
    ∙ whole_again (row room.users q) (row other.users q)
    ∙ sym (both_users room other well well_other q))

pub channels_introduced : (own : List ℕ) (far : List ℕ → Bool) (room other : Room)
    → IsWellFormed room → IsWellFormed other
    → (reads own far room (people_deeds other)).channels ≡ (room_without room other).channels
unfolding room_without
channels_introduced own far room other well well_other =
    ap (λ (r : Room). r.channels) (people_read own far room other)
    ∙ channels_read own far (bare (entries other.users)) (rising other)
    (bare_named (entries other.users) (table_named other.users well_other.users_named))
    room well
    ∙ ap (λ us. quit_all us room.channels)
    (bare_under room.users (entries other.users) ∙ holders room other well)
    ∙ sym (quit_all_is room collision_text (clash room other))
