-- Who is no client of a room machine receives nothing of it.
use Rattle.std.proofs.Common.{◌≡◌, ℕ, Bool, true, false, cond, Option, Some, None, Ok, Err, List}
use Rattle.std.proofs.Common.{[], ◌∷◌, ◌++◌, refl, sym, ◌∙◌, ap, option_map, if◌then◌else◌, nat_eq}
use Rattle.std.proofs.Common.{filter_map}
use Rattle.std.proofs.lemmas.List.Elements.{filter_map-append}
use Rattle.std.specs.List.{flat_map, cons_option}
use Rattle.std.proofs.lemmas.Bool.{eqb-true, eq-eqb}
use Rattle.std.specs.Ordering.{nat_cmp}
use Rattle.std.specs.FinMap.{get, entries, find, get-entries}
use Rattle.irc_names.specs.Fold.{key}
use Rattle.irc_names.specs.Tables.{row}
use Rattle.irc_line.specs.Messages.{Parsed}
use Rattle.irc_users.specs.declared.user.User.{User}
use Rattle.irc_room.specs.effect.Effect.{Effect}
use Rattle.irc_room.specs.effect.Effect.TheVariants.{Rename, Quit}
use Rattle.irc_room.specs.Seen.{Showing, seen}
use Rattle.irc_numerics.specs.Replies.{reply_text}
use Rattle.irc_acts.specs.declared.act.Act.{Act}
use Rattle.irc_acts.specs.declared.act.Act.TheVariants.{Answer, Raw, Do}
use Rattle.irc_batch.specs.Batches.{Sent, end_of, line_to}
use Rattle.irc_commands.specs.Decide.{decide}
use Rattle.irc_commands.specs.Register.{register}
use Rattle.irc_stage.specs.declared.clients.Client.{Client}
use Rattle.irc_stage.specs.declared.clients.Client.TheVariants.{Registering, Registered}
use Rattle.irc_stage.specs.RoomMachine.{Clients, RoomMachine, client_of, with_client}
use Rattle.irc_stage.specs.RoomMachine.{without_client}
use Rattle.irc_stage.specs.Handle.{ClientEvent, connects, says, goes, Handled, handled, is_client}
use Rattle.irc_stage.specs.Handle.{to_viewer, renamed_in, clients_after, with_effect, stepped}
use Rattle.irc_stage.specs.Handle.{all_stepped, unchanged, closing, client_after, user_decided}
use Rattle.irc_stage.specs.Handle.{said_by, user_of, quits, lost_text}
use Rattle.irc_server.specs.Owed.{line_to_conn, lines_to}
use Rattle.irc_stage.specs.Lemmas.Numbers.{same_number, one_number, same_number-is, get-with}
use Rattle.irc_stage.specs.Lemmas.Numbers.{get-without, get-each}

-- another number than one that is there
other_number : (q n : ℕ) → (q ≡ n → ⊥) → nat_eq n q ≡ false
other_number q n two = by (nat_eq n q) refl
  where
    by : (b : Bool) → nat_eq n q ≡ b → b ≡ false
    by true one = absurd (two (sym (eqb-true n q one)))
    by false no_one = refl

module _ (who : ℕ) where
  -- nothing is for it, and it is no client
  record IsUnheard (now : Handled) : Type 0 where
    nowhere : get now.state.clients who ≡ None
    nothing : lines_to who now.out ≡ []

  nothing_more : (one other : List Sent) → lines_to who one ≡ [] → lines_to who other ≡ []
      → lines_to who (one ++ other) ≡ []
  nothing_more one other none also =
      filter_map-append (line_to_conn who) one other ∙ (λ i. none i ++ also i)

  not_first : (n : ℕ) (client : Client) (es : List (ℕ × Client)) → find nat_cmp who
      ((n, client) ∷ es) ≡ None → (nat_eq n who ≡ false) × (find nat_cmp who es ≡ None)
  not_first n client es none = by (same_number who n) refl none
    where
      by : (b : Bool) → same_number who n ≡ b → cond b (Some client) (find nat_cmp who es) ≡ None
          → (nat_eq n who ≡ false) × (find nat_cmp who es ≡ None)
      by true same none = absurd (cc none)
      by false two none = (
        other_number who n (λ one. let clash = sym two ∙ same_number-is who n one
            in absurd (cc clash)),
        none,
      )

  of_entries : (showing : Showing) (es : List (ℕ × Client)) → find nat_cmp who es ≡ None
      → lines_to who (filter_map (λ (c : ℕ × Client). if is_client showing.viewer c.1
      then Some (line_to c.0 showing.line) else None) es) ≡ []
  of_entries showing [] none = refl
  of_entries showing (e ∷ es) none =
      by (is_client showing.viewer e.1) (of_entries showing es (not_first e.0 e.1 es none).1)
    where
      rest : List Sent
      rest = filter_map (λ (c : ℕ × Client). if is_client showing.viewer c.1
          then Some (line_to c.0 showing.line) else None) es

      by : (b : Bool) → lines_to who rest ≡ [] → lines_to who
          (cons_option (if b then Some (line_to e.0 showing.line) else None) rest) ≡ []
      by true later =
          ap (λ b. cons_option (if b then Some (showing.line) else None) (lines_to who rest))
          (not_first e.0 e.1 es none).0 ∙ later
      by false later = later

  of_showings : (clients : Clients) → get clients who ≡ None → (showings : List Showing)
      → lines_to who (flat_map (to_viewer clients) showings) ≡ []
  of_showings clients none [] = refl
  of_showings clients none (showing ∷ showings) =
      nothing_more (to_viewer clients showing) (flat_map (to_viewer clients) showings)
      (of_entries showing (entries clients) (sym (get-entries clients who) ∙ none))
      (of_showings clients none showings)

  still_nowhere : (effect : Effect) (clients : Clients) → get clients who ≡ None
      → get (clients_after effect clients) who ≡ None
  still_nowhere (Rename nick new) clients none = get-each (renamed_in nick new) clients who
      ∙ ap (option_map (renamed_in nick new)) none
  still_nowhere other clients none = none

  effect_unheard : (effect : Effect) (before : Handled) → IsUnheard before
      → IsUnheard (with_effect effect before)
  effect_unheard effect before so = record {
    nowhere = still_nowhere effect before.state.clients so.nowhere;
    nothing = nothing_more before.out
        (flat_map (to_viewer before.state.clients) (seen before.state.room effect)) so.nothing
        (of_showings before.state.clients so.nowhere (seen before.state.room effect));
  }

  module _ (conn : ℕ) (apart : nat_eq conn who ≡ false) where
    line_elsewhere : (line : List ℕ) → lines_to who (line_to conn line ∷ []) ≡ []
    line_elsewhere line = ap (λ b. cons_option (if b then Some line else None) []) apart

    step_unheard : (name : Option (List ℕ)) (act : Act) (before : Handled) → IsUnheard before
        → IsUnheard (stepped conn name act before)
    step_unheard name (Answer reply) before so = record {
      nowhere = so.nowhere;
      nothing = nothing_more before.out
          (line_to conn (reply_text before.state.place.name name reply) ∷ []) so.nothing
          (line_elsewhere (reply_text before.state.place.name name reply));
    }
    step_unheard name (Raw line) before so = record {
      nowhere = so.nowhere;
      nothing = nothing_more before.out (line_to conn line.items ∷ []) so.nothing
          (line_elsewhere line.items);
    }
    step_unheard name (Do effect) before so = effect_unheard effect before so

    steps_unheard : (name : Option (List ℕ)) (acts : List Act) (before : Handled) → IsUnheard before
        → IsUnheard (all_stepped conn name acts before)
    steps_unheard name [] before so = so
    steps_unheard name (act ∷ acts) before so =
        steps_unheard name acts (stepped conn name act before) (step_unheard name act before so)

    still_out : (b : Bool) → (o : Option Client) → o ≡ None → cond b None o ≡ None
    still_out true o none = refl
    still_out false o none = none

    close_unheard : (close : Bool) (before : Handled) → IsUnheard before
        → IsUnheard (closing close conn before)
    close_unheard true before so = record {
      nowhere = get-without before.state.clients conn who
          ∙ still_out (same_number who conn) (get before.state.clients who) so.nowhere;
      nothing = nothing_more before.out (end_of conn ∷ []) so.nothing refl;
    }
    close_unheard false before so = so

    with_unheard : (machine : RoomMachine) (client : Client) → get machine.clients who ≡ None
        → IsUnheard (unchanged (with_client machine conn client))
    with_unheard machine client none = record {
      nowhere = get-with machine.clients conn client who ∙ by (same_number who conn) refl;
      nothing = refl;
    }
      where
        by : (b : Bool) → same_number who conn ≡ b
            → cond b (Some client) (get machine.clients who) ≡ None
        by true same = absurd (let clash = sym apart
            ∙ eq-eqb conn who (sym (one_number who conn same)) in cc clash)
        by false two = none

    user_unheard : (machine : RoomMachine) → get machine.clients who ≡ None → (o : Option User)
        (message : Parsed) → lines_to who (user_decided machine conn o message).out ≡ []
    user_unheard machine none None message = refl
    user_unheard machine none (Some user) message =
        let decision = decide machine.room machine.place user.nick message in
        (close_unheard decision.close
        (all_stepped conn (Some user.nick) decision.steps (unchanged machine))
        (steps_unheard (Some user.nick) decision.steps (unchanged machine)
        (record { nowhere = none; nothing = refl }))).nothing

    said_unheard : (machine : RoomMachine) → get machine.clients who ≡ None → (o : Option Client)
        (message : Parsed) → lines_to who (said_by machine conn o message).out ≡ []
    said_unheard machine none None message = refl
    said_unheard machine none (Some (Registering pending)) message =
        let given = register machine.room machine.place pending message in
        let now = with_client machine conn (client_after given given.pending.nick) in
        (close_unheard given.close (all_stepped conn given.pending.nick given.steps (unchanged now))
        (steps_unheard given.pending.nick given.steps (unchanged now)
        (with_unheard machine (client_after given given.pending.nick) none))).nothing
    said_unheard machine none (Some (Registered nick)) message =
        user_unheard machine none (row machine.room.users (key nick)) message

  quit_unheard : (nick : Option (List ℕ)) (before : Handled) → IsUnheard before
      → lines_to who (quits nick before).out ≡ []
  quit_unheard None before so = so.nothing
  quit_unheard (Some nick) before so = (effect_unheard (Quit nick lost_text) before so).nothing

  said_of : (machine : RoomMachine) (conn : ℕ) (message : Parsed) → get machine.clients who ≡ None
      → lines_to who (said_by machine conn (client_of machine conn) message).out ≡ []
  said_of machine conn message none = by (nat_eq conn who) refl
    where
      by : (b : Bool) → nat_eq conn who ≡ b
          → lines_to who (said_by machine conn (client_of machine conn) message).out ≡ []
      by true same =
          ap (λ o. lines_to who (said_by machine conn o message).out)
          (ap (client_of machine) (eqb-true conn who same) ∙ none)
      by false apart = said_unheard conn apart machine none (client_of machine conn) message

  pub unheard : (machine : RoomMachine) (client_event : ClientEvent) → client_of machine who ≡ None
      → lines_to who (handled machine client_event).out ≡ []
  unfolding handled
  unheard machine (connects conn host) none = refl
  unheard machine (says conn (Err fault)) none = refl
  unheard machine (says conn (Ok message)) none = said_of machine conn message none
  unheard machine (goes conn) none =
      quit_unheard (user_of machine.room (client_of machine conn))
      (unchanged (without_client machine conn))
      (record {
        nowhere = get-without machine.clients conn who ∙ out (same_number who conn);
        nothing = refl;
      })
    where
      out : (b : Bool) → cond b None (get machine.clients who) ≡ None
      out true = refl
      out false = none
