-- What a refusal of an effect leaves.
use Rattle.std.proofs.Common.{◌≡◌, Bool, true, false, cond, not, Some, None, Err}
use Rattle.std.proofs.Common.{refl, sym, ◌∙◌, ap, subst}
use Rattle.std.specs.List.{list_all}
use Rattle.std.specs.Option.{option_map_or}
use Rattle.std.proofs.lemmas.Bool.{not-false}
use Rattle.irc_effects.specs.declared.effect.Effect.{Effect}
use Rattle.irc_effects.specs.declared.fault.RoomFault.{RoomFault}
use Rattle.irc_effects.specs.declared.fault.RoomFault.TheVariants.{NoSuchUser, NoSuchChannel}
use Rattle.irc_effects.specs.declared.fault.RoomFault.TheVariants.{Memory, Failed}
use Rattle.irc_effects.specs.Room.{Room}
use Rattle.irc_effects.specs.After.{after}
use Rattle.irc_effects.specs.Effects.{has_user, has_channel, is_idle, needs_users, needs_channel}
use Rattle.irc_effects.specs.Applying.{ServerRoom, room_fault, Changed}
use Rattle.irc_effects.specs.Lemmas.IdleLaw.{idle_changes_nothing}
use Rattle.irc_room.specs.Loops.Naming.{IsNamed}
use Rattle.irc_room.specs.declared.named.Named.{Named}

-- what was found in a room as it lies
pub named_in : (inside now : ServerRoom) (effect : Effect) (named : Named) → inside ≡ now
    → IsNamed inside.room effect named → IsNamed now.room effect named
named_in inside now effect named is found =
    subst (λ (k : ServerRoom). IsNamed k.room effect named) is found

-- want of memory is no cause that is looked for
by_causes : (failed no_user no_channel : Bool) → cond failed (Some Failed)
    (cond no_user (Some NoSuchUser) (cond no_channel (Some NoSuchChannel) None)) ≡ Some Memory → ⊥
by_causes true no_user no_channel is = cc
by_causes false true no_channel is = cc
by_causes false false true is = cc
by_causes false false false is = cc

never_memory : (kept : ServerRoom) (effect : Effect) → room_fault kept effect ≡ Some Memory → ⊥
never_memory kept effect =
    by_causes kept.failed (not (list_all (has_user kept.room) (needs_users effect)))
    (not (option_map_or (has_channel kept.room) (needs_channel effect) true))

-- a refusal for a cause leaves all as it was
pub unchanged : (old : ServerRoom) (effect : Effect) (fault : RoomFault)
    → Some fault ≡ room_fault old effect → Changed old effect (Err fault) old
unchanged old effect NoSuchUser is = (sym is, refl)
unchanged old effect NoSuchChannel is = (sym is, refl)
unchanged old effect Memory is = absurd (never_memory old effect (sym is))
unchanged old effect Failed is = (sym is, refl)

-- what is so where an effect is not refused
pub record IsServed (kept : ServerRoom) (effect : Effect) : Type 0 where
  pub alive : kept.failed ≡ false
  pub users_there : list_all (has_user kept.room) (needs_users effect) ≡ true
  pub channel_there : option_map_or (has_channel kept.room) (needs_channel effect) true ≡ true

no_cause : (failed no_user no_channel : Bool) → cond failed (Some Failed)
    (cond no_user (Some NoSuchUser) (cond no_channel (Some NoSuchChannel) None)) ≡ None
    → (failed ≡ false) × (no_user ≡ false) × (no_channel ≡ false)
no_cause true no_user no_channel is = cc
no_cause false true no_channel is = cc
no_cause false false true is = cc
no_cause false false false is = (refl, refl, refl)

pub served : (kept : ServerRoom) (effect : Effect) → room_fault kept effect ≡ None
    → IsServed kept effect
served kept effect is =
    let parts = no_cause kept.failed (not (list_all (has_user kept.room) (needs_users effect)))
    (not (option_map_or (has_channel kept.room) (needs_channel effect) true)) is in
    record {
      alive = parts.0;
      users_there = not-false _ parts.1;
      channel_there = not-false _ parts.2;
    }

-- a room that was changed, or was not for want of memory, field by field
pub kept_changed : (inside now : ServerRoom) (room : Room) (effect : Effect) → inside ≡ now
    → inside.failed ≡ false → room ≡ after inside.room effect → record {
      own = inside.own;
      failed = false;
      room = room;
    } ≡ record now { room = after now.room effect }
kept_changed inside now room effect is alive changed =
    ap (λ f. record { own = inside.own; failed = f; room = room }) (sym alive)
    ∙ ap (λ (r : Room). record { own = inside.own; failed = inside.failed; room = r }) changed
    ∙ ap (λ (k : ServerRoom). record k { room = after k.room effect }) is

pub kept_refused : (inside now : ServerRoom) (room : Room) → inside ≡ now → room ≡ inside.room
    → record { own = inside.own; failed = true; room = room } ≡ record now { failed = true }
kept_refused inside now room is same =
    ap (λ (r : Room). record { own = inside.own; failed = true; room = r }) same
    ∙ ap (λ (k : ServerRoom). record k { failed = true }) is

-- an effect that does nothing leaves all as it was
pub idle_kept : (old : ServerRoom) (effect : Effect) → is_idle old.room effect ≡ true
    → old ≡ record old { room = after old.room effect }
idle_kept old effect idle =
    ap (λ (r : Room). record old { room = r }) (sym (idle_changes_nothing old.room effect idle))
