-- What holds of what is done, one thing after another.
use Rattle.std.proofs.Common.{◌≡◌, ℕ, Option, List, [], ◌∷◌, ◌++◌, refl, sym}
use Rattle.std.proofs.Common.{◌∙◌, ap, append-nil, append_assoc, subst}
use Rattle.irc_batch.specs.Batches.{Sent}
use Rattle.irc_room.specs.effect.Effect.{Effect}
use Rattle.irc_room.specs.Lemmas.RespelledRooms.{respelled_is_well_formed}
use Rattle.irc_room.specs.Lemmas.WellFormedLaw.{after_is_well_formed}
use Rattle.irc_room.specs.Room.{IsWellFormed}
use Rattle.irc_stage.specs.RoomMachine.{RoomMachine}
use Rattle.irc_stage.specs.EffectTold.{Served}
use Rattle.irc_stage.specs.View.{machine_of}
use Rattle.irc_own_order.specs.Doings.{Doing, an_effect, a_spelling, an_answer, a_client}
use Rattle.irc_own_order.specs.Doings.{a_departure, a_closing, an_ending, a_place, machine_by}
use Rattle.irc_own_order.specs.Doings.{machine_along, sent_by, sent_along, EachDoing, effects_of}
use Rattle.irc_own_order.specs.Doings.{to_clients}
use Rattle.irc_own_order.specs.OwnOrder.{CanBeDone, IsDue}
use Rattle.irc_own_order.specs.Laws.{RoomIsOfEffects}
use Rattle.irc_own_order.specs.Lemmas.ToClients.{to_clients-append}

-- ---- lists

pub machine_along-append : (machine : RoomMachine) (a b : List Doing)
    → machine_along machine (a ++ b) ≡ machine_along (machine_along machine a) b
machine_along-append machine [] b = refl
machine_along-append machine (doing ∷ a) b =
    machine_along-append (machine_by doing machine) a b

pub sent_along-append : (machine : RoomMachine) (a b : List Doing)
    → sent_along machine (a ++ b)
    ≡ sent_along machine a ++ sent_along (machine_along machine a) b
sent_along-append machine [] b = refl
sent_along-append machine (doing ∷ a) b =
    ap (λ l. sent_by doing machine ++ l) (sent_along-append (machine_by doing machine) a b)
    ∙ sym (append_assoc (sent_by doing machine) (sent_along (machine_by doing machine) a)
    (sent_along (machine_along (machine_by doing machine) a) b))

pub each_doing-append : (IsSo : RoomMachine → Doing → Type 0) (machine : RoomMachine)
    (a b : List Doing) → EachDoing IsSo machine a → EachDoing IsSo (machine_along machine a) b
    → EachDoing IsSo machine (a ++ b)
each_doing-append IsSo machine [] b one other = other
each_doing-append IsSo machine (doing ∷ a) b one other = record {
  now = one.now;
  later = each_doing-append IsSo (machine_by doing machine) a b one.later other;
}

pub effects_of-append : (a b : List Doing) → effects_of (a ++ b) ≡ effects_of a ++ effects_of b
effects_of-append [] b = refl
effects_of-append (an_effect effect ∷ a) b = ap (λ l. effect ∷ l) (effects_of-append a b)
effects_of-append (a_spelling channel ∷ a) b = effects_of-append a b
effects_of-append (an_answer conn line ∷ a) b = effects_of-append a b
effects_of-append (a_client conn client ∷ a) b = effects_of-append a b
effects_of-append (a_departure conn ∷ a) b = effects_of-append a b
effects_of-append (a_closing conn ∷ a) b = effects_of-append a b
effects_of-append (an_ending nick words ∷ a) b = effects_of-append a b
effects_of-append (a_place place ∷ a) b = effects_of-append a b

pub due_can_be : (start : RoomMachine) (giver : Option ℕ) (machine : RoomMachine)
    (doings : List Doing) → EachDoing (IsDue start giver) machine doings
    → EachDoing CanBeDone machine doings
due_can_be start giver machine [] each = tt
due_can_be start giver machine (doing ∷ doings) each = record {
  now = each.now.can_be;
  later = due_can_be start giver (machine_by doing machine) doings each.later;
}

-- ---- rooms

well_by : (doing : Doing) (machine : RoomMachine) → CanBeDone machine doing
    → IsWellFormed machine.room → IsWellFormed (machine_by doing machine).room
well_by (an_effect effect) machine can well =
    after_is_well_formed machine.room effect well can
well_by (a_spelling channel) machine can well =
    respelled_is_well_formed channel machine.room well
well_by (an_answer conn line) machine can well = well
well_by (a_client conn client) machine can well = well
well_by (a_departure conn) machine can well = well
well_by (a_closing conn) machine can well = well
well_by (an_ending nick words) machine can well = well
well_by (a_place place) machine can well = well

pub well_along : (machine : RoomMachine) (doings : List Doing)
    → EachDoing CanBeDone machine doings → IsWellFormed machine.room
    → IsWellFormed (machine_along machine doings).room
well_along machine [] can well = well
well_along machine (doing ∷ doings) can well =
    well_along (machine_by doing machine) doings can.later
    (well_by doing machine can.now well)

pub room_is_of_effects : RoomIsOfEffects
room_is_of_effects machine [] none = refl
room_is_of_effects machine (an_effect effect ∷ doings) none =
    room_is_of_effects (machine_by (an_effect effect) machine) doings none
room_is_of_effects machine (a_spelling channel ∷ doings) none = absurd (cc none)
room_is_of_effects machine (an_answer conn line ∷ doings) none =
    room_is_of_effects machine doings none
room_is_of_effects machine (a_client conn client ∷ doings) none =
    room_is_of_effects (machine_by (a_client conn client) machine) doings none
room_is_of_effects machine (a_departure conn ∷ doings) none =
    room_is_of_effects (machine_by (a_departure conn) machine) doings none
room_is_of_effects machine (a_closing conn ∷ doings) none =
    room_is_of_effects (machine_by (a_closing conn) machine) doings none
room_is_of_effects machine (an_ending nick words ∷ doings) none =
    room_is_of_effects (machine_by (an_ending nick words) machine) doings none
room_is_of_effects machine (a_place place ∷ doings) none =
    room_is_of_effects (machine_by (a_place place) machine) doings none

-- ---- from one moment of a server to another

-- these are done between the two
pub record IsBetween (start : RoomMachine) (giver : Option ℕ) (s t : Served) : Type 0 where
  pub doings : List Doing
  pub machine : machine_of t.state ≡ machine_along (machine_of s.state) doings
  pub sent : to_clients t.out ≡ to_clients s.out ++ sent_along (machine_of s.state) doings
  pub each : EachDoing (IsDue start giver) (machine_of s.state) doings

module _ (start : RoomMachine) (giver : Option ℕ) where
  abbrev pub nothing_between : (s t : Served) → machine_of t.state ≡ machine_of s.state
      → to_clients t.out ≡ to_clients s.out → IsBetween start giver s t
  nothing_between s t same quiet = record {
    doings = [];
    machine = same;
    sent = quiet ∙ sym (append-nil (to_clients s.out));
    each = tt;
  }

  -- this much more is put out, none of it to clients
  abbrev pub elsewhere : (s t : Served) (more : List Sent) → machine_of t.state ≡ machine_of s.state
      → t.out ≡ s.out ++ more → to_clients more ≡ [] → IsBetween start giver s t
  elsewhere s t more same out none = nothing_between s t same
      (ap to_clients out ∙ to_clients-append s.out more
      ∙ ap (λ l. to_clients s.out ++ l) none ∙ append-nil (to_clients s.out))

  -- one thing is done
  abbrev pub one_between : (s t : Served) (doing : Doing) (more : List Sent)
      → machine_of t.state ≡ machine_by doing (machine_of s.state) → t.out ≡ s.out ++ more
      → to_clients more ≡ sent_by doing (machine_of s.state)
      → IsDue start giver (machine_of s.state) doing → IsBetween start giver s t
  one_between s t doing more same out is due = record {
    doings = doing ∷ [];
    machine = same;
    sent = ap to_clients out ∙ to_clients-append s.out more
        ∙ ap (λ l. to_clients s.out ++ l)
        (is ∙ sym (append-nil (sent_by doing (machine_of s.state))));
    each = record { now = due; later = tt };
  }

  abbrev pub then_between : (s t u : Served) → IsBetween start giver s t → IsBetween start giver t u
      → IsBetween start giver s u
  then_between s t u one other = record {
    doings = one.doings ++ other.doings;
    machine = other.machine
        ∙ ap (λ m. machine_along m other.doings) one.machine
        ∙ sym (machine_along-append (machine_of s.state) one.doings other.doings);
    sent = other.sent
        ∙ ap (λ l. l ++ sent_along (machine_of t.state) other.doings) one.sent
        ∙ append_assoc (to_clients s.out) (sent_along (machine_of s.state) one.doings)
        (sent_along (machine_of t.state) other.doings)
        ∙ ap (λ m. to_clients s.out ++ (sent_along (machine_of s.state) one.doings
        ++ sent_along m other.doings)) one.machine
        ∙ ap (λ l. to_clients s.out ++ l)
        (sym (sent_along-append (machine_of s.state) one.doings other.doings));
    each = each_doing-append (IsDue start giver) (machine_of s.state) one.doings other.doings
        one.each
        (subst (λ m. EachDoing (IsDue start giver) m other.doings) one.machine other.each);
  }

-- ---- the same, with these effects

pub record IsBetweenBy (start : RoomMachine) (giver : Option ℕ) (effects : List Effect)
    (s t : Served) : Type 0 where
  pub between : IsBetween start giver s t
  pub effects_are : effects_of between.doings ≡ effects

module _ (start : RoomMachine) (giver : Option ℕ) where
  pub quietly : (s t : Served) (between : IsBetween start giver s t)
      → effects_of between.doings ≡ [] → IsBetweenBy start giver [] s t
  quietly s t between none = record { between = between; effects_are = none }

  pub then_by : (one other : List Effect) (s t u : Served) → IsBetweenBy start giver one s t
      → IsBetweenBy start giver other t u → IsBetweenBy start giver (one ++ other) s u
  then_by one other s t u first second = record {
    between = then_between start giver s t u first.between second.between;
    effects_are = effects_of-append first.between.doings second.between.doings
        ∙ ap (λ l. l ++ effects_of second.between.doings) first.effects_are
        ∙ ap (λ l. one ++ l) second.effects_are;
  }
