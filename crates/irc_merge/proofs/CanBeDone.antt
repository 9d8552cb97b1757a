-- What is read of a burst can be done, and each of its effects does something.
use Rattle.std.proofs.Common.{◌≡◌, ℕ, Bool, true, false, cond, Option, Some, None, List, [], ◌∷◌}
use Rattle.std.proofs.Common.{refl, ◌∙◌, ap, subst, is_some}
use Rattle.std.specs.List.{flat_map}
use Rattle.std.specs.Option.{option_map_or}
use Rattle.irc_names.specs.Fold.{key}
use Rattle.irc_names.specs.Tables.{row}
use Rattle.irc_users.specs.declared.user.User.{User}
use Rattle.irc_room.specs.effect.Effect.TheVariants.{AddUser, ChangeUser}
use Rattle.irc_room.specs.Room.{Room, IsWellFormed}
use Rattle.irc_room.specs.Effects.{has_user}
use Rattle.irc_room.specs.After.{titled_by}
use Rattle.irc_room.specs.InTurn.{EachInTurn}
use Rattle.irc_merge.specs.Quits.{collision_text}
use Rattle.irc_merge.specs.Deeds.{Deed, does, kills, brings, sets, tops, member_comes, raised_in}
use Rattle.irc_merge.specs.Deeds.{is_greater_topic, after_deeds}
use Rattle.irc_merge.specs.BurstRead.{introduced, new_members, some_far, read_deed, read_all}
use Rattle.irc_merge.specs.CanBeDone.{DoesSomething, DeedsDo, IsOfBurst, LinesCanBeDone}
use Rattle.irc_merge.specs.Lemmas.SpelledMembers.{new_titled}
use Rattle.irc_merge.specs.Lemmas.DoableDeeds.{add_does, own_does, quit_does, members_do}
use Rattle.irc_merge.specs.Lemmas.DoableDeeds.{some_there}
use Rattle.irc_merge.specs.Lemmas.DoableDeeds.{brought_does, changes_do, greater_does, do-append}
use Rattle.irc_merge.specs.Lemmas.DoableDeeds.{deeds_well}

introduced_does : (own : List ℕ) (room : Room) (user : User) → IsWellFormed room
    → DeedsDo room (introduced own room user)
introduced_does own room user well = by_row (row room.users (key user.nick)) refl
  where
    by_row : (o : Option User) → row room.users (key user.nick) ≡ o → DeedsDo room
        (option_map_or (λ (holder : User). kills own holder.nick ∷ []) o (does (AddUser user) ∷ []))
    by_row None at = (record { now = add_does room user at; later = tt }, tt)
    by_row (Some holder) at = (
      record {
        now = quit_does room holder.nick collision_text (ap (λ f. is_some (row room.users f))
            (well.users_named (key user.nick) holder at) ∙ ap is_some at);
        later = tt;
      },
      tt,
    )

line_does : (own : List ℕ) (far : List ℕ → Bool) (deed : Deed) (room : Room) → IsOfBurst deed
    → IsWellFormed room → DeedsDo room (read_deed own far room deed)
line_does own far (does (AddUser user)) room of_burst well = introduced_does own room user well
line_does own far (does (ChangeUser nick change)) room of_burst well =
    by_test (has_user room nick) refl
  where
    by_test : (b : Bool) → has_user room nick ≡ b
        → DeedsDo room (cond b (does (ChangeUser nick change) ∷ []) [])
    by_test true there = (record { now = own_does room nick change there; later = tt }, tt)
    by_test false none = tt
line_does own far (brings server channel members) room of_burst well =
    brought_does server channel (new_members far room channel members) room
    (subst (λ news. EachInTurn DoesSomething (titled_by channel room)
    (flat_map (member_comes channel) news)) (new_titled far channel members room)
    (members_do far channel members (titled_by channel room)))
line_does own far (sets server channel changes) room of_burst well =
    by_test (some_far far room channel) refl
  where
    by_test : (b : Bool) → some_far far room channel ≡ b
        → DeedsDo room (cond b (sets server channel changes ∷ []) [])
    by_test true some = (
      changes_do room channel (raised_in room channel changes)
          (some_there far room channel some),
      tt,
    )
    by_test false none = tt
line_does own far (tops server channel topic) room of_burst well =
    by_test (some_far far room channel) refl
  where
    by_test : (b : Bool) → some_far far room channel ≡ b
        → DeedsDo room (cond b (tops server channel topic ∷ []) [])
    by_test true some = (
      greater_does room channel topic (some_there far room channel some)
          (is_greater_topic room channel topic),
      tt,
    )
    by_test false none = tt
line_does own far other room of_burst well = absurd of_burst

pub lines_can_be_done : LinesCanBeDone
lines_can_be_done own far room [] of_burst well = tt
lines_can_be_done own far room (deed ∷ deeds) of_burst well =
    let here = line_does own far deed room of_burst.0 well in
    let now = read_deed own far room deed in
    do-append room now (read_all own far (after_deeds room now) deeds) here
    (lines_can_be_done own far (after_deeds room now) deeds of_burst.1
    (deeds_well room now here well))
