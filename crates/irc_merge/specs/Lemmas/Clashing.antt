-- Who is left on either side once those have quit whose nicknames clash.
use Rattle.std.proofs.Common.{◌≡◌, ℕ, Bool, true, false, cond, ◌&&◌, Option, Some, None, List, refl}
use Rattle.std.proofs.Common.{sym, ◌∙◌, ap, is_some}
use Rattle.std.specs.Option.{option_and_then, option_map_or}
use Rattle.std.proofs.Math.Bool.{false≢true}
use Rattle.irc_names.specs.Fold.{key}
use Rattle.irc_names.specs.Tables.{row}
use Rattle.irc_users.specs.declared.user.User.{User}
use Rattle.irc_room.specs.Room.{Room, IsWellFormed}
use Rattle.irc_merge.specs.Quits.{collision_text}
use Rattle.irc_merge.specs.Merge.{clash, room_without}
use Rattle.irc_merge.specs.Lemmas.Quitting.{among, users_left, quits_well, thinned, channels_left}
use Rattle.irc_merge.specs.Lemmas.Quitting.{among_values}

-- whether a nickname is held in both rooms
abbrev pub both_hold : Room → Room → List ℕ → Bool
both_hold room other q = is_some (row room.users q) && is_some (row other.users q)

pub clashing : (room other : Room) → IsWellFormed room → (q : List ℕ)
    → among (clash room other) q ≡ both_hold room other q
clashing room other well q =
    among_values room.users well.users_named (λ user. is_some (row other.users (key user.nick))) q
    ∙ by_row (row room.users q) refl
  where
    by_row : (o : Option User) → row room.users q ≡ o → option_map_or (λ (user : User). is_some
        (row other.users (key user.nick))) o false ≡ (is_some o && is_some (row other.users q))
    by_row None at = refl
    by_row (Some user) at = ap (λ f. is_some (row other.users f)) (well.users_named q user at)

pub users_without : (room other : Room) → IsWellFormed room → (q : List ℕ)
    → row (room_without room other).users q ≡ cond (both_hold room other q) None (row room.users q)
unfolding room_without
users_without room other well q =
    users_left room collision_text (clash room other) q
    ∙ ap (λ b. cond b None (row room.users q)) (clashing room other well q)

pub channels_without : (room other : Room) → IsWellFormed room → (fold : List ℕ)
    → row (room_without room other).channels fold ≡ option_and_then
    (thinned (among (clash room other))) (row room.channels fold)
unfolding room_without
channels_without room other well fold =
    channels_left room collision_text (clash room other) well fold

pub without_well : (room other : Room) → IsWellFormed room → IsWellFormed (room_without room other)
unfolding room_without
without_well room other well = quits_well room collision_text (clash room other) well

-- no nickname is held on both sides then
pub held_apart : {A : Type 0} (one other : Room) → IsWellFormed one → IsWellFormed other
    → (q : List ℕ) → is_some (row (room_without one other).users q) ≡ true
    → is_some (row (room_without other one).users q) ≡ true → A
held_apart {A} one other well_one well_other q here there =
    by_rows (row one.users q) (row other.users q)
    (sym (ap is_some (users_without one other well_one q)) ∙ here)
    (sym (ap is_some (users_without other one well_other q)) ∙ there)
  where
    by_rows : (x y : Option User) → is_some (cond (is_some x && is_some y) None x) ≡ true
        → is_some (cond (is_some y && is_some x) None y) ≡ true → A
    by_rows None y here there = absurd (false≢true here)
    by_rows (Some u) None here there = absurd (false≢true there)
    by_rows (Some u) (Some v) here there = absurd (false≢true here)
