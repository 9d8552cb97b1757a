-- What a client's event makes of the other clients of a room machine: just what its effects make of
-- a hall. They are shown just what the effects show.
use Rattle.std.proofs.Common.{◌≡◌, ℕ, Bool, true, false, cond, not, Option, Some, None, Ok}
use Rattle.std.proofs.Common.{Err, List, [], ◌∷◌, ◌++◌, refl, sym, ◌∙◌, ap, subst, append-nil}
use Rattle.std.proofs.Common.{append_assoc, nat_eq, option_map, if◌then◌else◌}
use Rattle.std.specs.Prelude.{⊤}
use Rattle.std.proofs.lemmas.Bool.{eqb-true, or_parts}
use Rattle.std.proofs.lemmas.List.Elements.{filter_map-append}
use Rattle.std.specs.FinMap.{get}
use Rattle.std.specs.List.{flat_map, list_any, cons_option}
use Rattle.std.specs.Option.{option_and_then, option_map_or}
use Rattle.irc_names.specs.Fold.{key, same}
use Rattle.irc_names.specs.Tables.{row}
use Rattle.irc_line.specs.Messages.{Parsed}
use Rattle.irc_users.specs.declared.user.User.{User}
use Rattle.irc_numerics.specs.Replies.{reply_text}
use Rattle.irc_batch.specs.Batches.{Sent, end_of, line_to}
use Rattle.irc_room.specs.effect.Effect.{Effect}
use Rattle.irc_room.specs.effect.Effect.TheVariants.{Rename, Quit}
use Rattle.irc_room.specs.After.{after}
use Rattle.irc_room.specs.InTurn.{IsSoFirst}
use Rattle.irc_room.specs.Readers.{home_under}
use Rattle.irc_room.specs.Room.{IsWellFormed}
use Rattle.irc_room.specs.Seen.{seen}
use Rattle.irc_room.specs.Lemmas.WellFormedLaw.{after_is_well_formed}
use Rattle.irc_acts.specs.declared.act.Act.{Act}
use Rattle.irc_acts.specs.declared.act.Act.TheVariants.{Answer, Raw, Do}
use Rattle.irc_acts.specs.Acts.{effects_among}
use Rattle.irc_acts.specs.Possible.{ArePossible}
use Rattle.irc_commands.specs.Comings.{adds_or_ends, is_effect, RegisteredIsAdded}
use Rattle.irc_commands.specs.Comings.{UnregisteredChangesNothing, WhoIsClosedQuits, WhoStaysIsUser}
use Rattle.irc_commands.specs.Decide.{decide}
use Rattle.irc_commands.specs.declared.pending.Pending.{Pending}
use Rattle.irc_commands.specs.Decisions.{Decided}
use Rattle.irc_commands.specs.Possible.{DecidedIsPossible, RegisteringIsPossible}
use Rattle.irc_commands.specs.Register.{register}
use Rattle.irc_relay.specs.Links.{Name}
use Rattle.irc_stage.specs.declared.clients.Client.{Client}
use Rattle.irc_stage.specs.declared.clients.Client.TheVariants.{Registering, Registered}
use Rattle.irc_stage.specs.RoomMachine.{Clients, RoomMachine, client_of, with_client}
use Rattle.irc_stage.specs.RoomMachine.{without_client}
use Rattle.irc_stage.specs.EffectTold.{is_another}
use Rattle.irc_stage.specs.Handle.{ClientEvent, connects, says, goes, Handled, handled}
use Rattle.irc_stage.specs.Handle.{client_after}
use Rattle.irc_stage.specs.Handle.{clients_after, closing, fresh, gone, is_client, lost_text}
use Rattle.irc_stage.specs.Handle.{all_stepped, pending_decided, quits, renamed_in, said_by}
use Rattle.irc_stage.specs.Handle.{stepped, to_viewer, unchanged, user_decided, user_of}
use Rattle.irc_stage.specs.Handle.{with_effect}
use Rattle.irc_stage.specs.Lemmas.Counting.{get-kept}
use Rattle.irc_stage.specs.Lemmas.Matching.{key_by_same}
use Rattle.irc_stage.specs.Lemmas.Numbers.{same_number, same_number-is, get-each, get-with}
use Rattle.irc_stage.specs.Lemmas.Numbers.{get-without}
use Rattle.irc_server.specs.Owed.{line_to_conn, lines_to}
use Rattle.irc_world.specs.Bounds.{effects_at, effects_left, effects_of_user, effects_said}
use Rattle.irc_world.specs.ClientsUsers.{AreMatched, fold_of, registered_as}
use Rattle.irc_world.specs.World.{Hall}
use Rattle.irc_follow.specs.SideState.{clients_left, hall_after}
use Rattle.irc_follow.specs.Lemmas.ClientLines.{client_shown, effect_lines}
use Rattle.irc_items.proofs.Client.Due.{client_in}

-- ---- effects one after another

abbrev pub hall_along : List Effect → Hall → Hall
hall_along [] hall = hall
hall_along (effect ∷ effects) hall = hall_along effects (hall_after effect hall)

-- what one client sees of them
abbrev pub seen_along : ℕ → List Effect → Hall → List (List ℕ)
seen_along who [] hall = []
seen_along who (effect ∷ effects) hall = client_shown who hall.room effect (get hall.clients who)
    ++ seen_along who effects (hall_after effect hall)

-- who quits has no client but this one
abbrev pub LeavesOthers : ℕ → Effect → Clients → Type 0
LeavesOthers conn (Quit nick text) clients = (q : ℕ) → same_number q conn ≡ false
    → is_another clients nick q ≡ true
LeavesOthers conn effect clients = ⊤

abbrev pub AllLeaveOthers : ℕ → List Effect → Clients → Type 0
AllLeaveOthers conn [] clients = ⊤
AllLeaveOthers conn (effect ∷ effects) clients = IsSoFirst (LeavesOthers conn effect clients)
    (AllLeaveOthers conn effects (clients_left effect clients))

-- a machine has come to be this hall, but for one client, and the others have received this
pub record IsAsHall (conn : ℕ) (now : Handled) (hall : Hall)
    (received : ℕ → List (List ℕ)) : Type 0 where
  pub room : now.state.room ≡ hall.room
  pub clients : (q : ℕ) → same_number q conn ≡ false
      → get now.state.clients q ≡ get hall.clients q
  pub lines : (q : ℕ) → same_number q conn ≡ false → lines_to q now.out ≡ received q

abbrev pub hall_of : RoomMachine → Hall
hall_of machine = record { clients = machine.clients; room = machine.room }

-- ---- one step

-- what goes to another is nothing to a client
lines_behind : (q : ℕ) (one other : List Sent)
    → lines_to q (one ++ other) ≡ lines_to q one ++ lines_to q other
lines_behind q one other = filter_map-append (line_to_conn q) one other

module _ (conn : ℕ) where
  own_line : (q : ℕ) → same_number q conn ≡ false → (out : List Sent) (line : List ℕ)
      → lines_to q (out ++ line_to conn line ∷ []) ≡ lines_to q out
  own_line q two out line = lines_behind q out (line_to conn line ∷ []) ∙ by (nat_eq conn q) refl
    where
      by : (b : Bool) → nat_eq conn q ≡ b
          → lines_to q out ++ lines_to q (line_to conn line ∷ []) ≡ lines_to q out
      by true one = let both = same_number-is q conn (sym (eqb-true conn q one)) in absurd cc
      by false other =
          ap (λ b. lines_to q out ++ cons_option (if b then Some line else None) []) other
          ∙ append-nil (lines_to q out)

  own_end : (q : ℕ) (out : List Sent) → lines_to q (out ++ end_of conn ∷ []) ≡ lines_to q out
  own_end q out = lines_behind q out (end_of conn ∷ []) ∙ append-nil (lines_to q out)

  clients_alike : (effect : Effect) (one other : Clients) → LeavesOthers conn effect other
      → (q : ℕ) → same_number q conn ≡ false → get one q ≡ get other q
      → get (clients_after effect one) q ≡ get (clients_left effect other) q
  clients_alike (Rename nick new) one other leaves q two alike =
      get-each (renamed_in nick new) one q ∙ ap (option_map (renamed_in nick new)) alike
      ∙ sym (get-each (renamed_in nick new) other q)
  clients_alike (Quit nick text) one other leaves q two alike =
      alike ∙ sym (get-kept other (is_another other nick) q
      ∙ ap (λ b. cond b (get other q) None) (leaves q two))
  clients_alike effect one other leaves q two alike = alike

  effect_as : (effect : Effect) (before : Handled) (hall : Hall) (received : ℕ → List (List ℕ))
      → IsAsHall conn before hall received → IsWellFormed hall.room
      → LeavesOthers conn effect hall.clients
      → IsAsHall conn (with_effect effect before) (hall_after effect hall)
      (λ q. received q ++ client_shown q hall.room effect (get hall.clients q))
  effect_as effect before hall received is_so well leaves = record {
    room = ap (λ room. after room effect) is_so.room;
    clients = λ q two. clients_alike effect before.state.clients hall.clients leaves q two
        (is_so.clients q two);
    lines = λ q two.
        lines_behind q before.out
        (flat_map (to_viewer before.state.clients) (seen before.state.room effect))
        ∙ ap (λ l. l ++ lines_to q (flat_map (to_viewer before.state.clients)
        (seen before.state.room effect))) (is_so.lines q two)
        ∙ ap (λ l. received q ++ l)
        (effect_lines q before.state.clients before.state.room effect
        (subst IsWellFormed (sym is_so.room) well)
        ∙ ap (λ room. client_shown q room effect (get before.state.clients q)) is_so.room
        ∙ ap (client_shown q hall.room effect) (is_so.clients q two));
  }

  -- what it is told itself changes nothing for the others
  answered_as : (before : Handled) (hall : Hall) (received : ℕ → List (List ℕ)) (line : List ℕ)
      → IsAsHall conn before hall received
      → IsAsHall conn (record before { out = before.out ++ line_to conn line ∷ [] }) hall received
  answered_as before hall received line is_so = record {
    room = is_so.room;
    clients = is_so.clients;
    lines = λ q two. own_line q two before.out line ∙ is_so.lines q two;
  }

  closed_as : (close : Bool) (before : Handled) (hall : Hall) (received : ℕ → List (List ℕ))
      → IsAsHall conn before hall received → IsAsHall conn (closing close conn before) hall received
  closed_as true before hall received is_so = record {
    room = is_so.room;
    clients = λ q two. get-without before.state.clients conn q
        ∙ ap (λ b. cond b None (get before.state.clients q)) two ∙ is_so.clients q two;
    lines = λ q two. own_end q before.out ∙ is_so.lines q two;
  }
  closed_as false before hall received is_so = is_so

  -- ---- all steps

  more_as : (now : Handled) (hall : Hall) (one other : ℕ → List (List ℕ))
      → ((q : ℕ) → one q ≡ other q) → IsAsHall conn now hall one → IsAsHall conn now hall other
  more_as now hall one other same_lines is_so = record {
    room = is_so.room;
    clients = is_so.clients;
    lines = λ q two. is_so.lines q two ∙ same_lines q;
  }

  pub steps_as : (name : Option (List ℕ)) (acts : List Act) (before : Handled) (hall : Hall)
      (received : ℕ → List (List ℕ)) → IsAsHall conn before hall received → IsWellFormed hall.room
      → ArePossible hall.room acts → AllLeaveOthers conn (effects_among acts) hall.clients
      → IsAsHall conn (all_stepped conn name acts before) (hall_along (effects_among acts) hall)
      (λ q. received q ++ seen_along q (effects_among acts) hall)
  steps_as name [] before hall received is_so well possible leave =
      more_as before hall received (λ q. received q ++ [])
      (λ q. sym (append-nil (received q))) is_so
  steps_as name (Answer reply ∷ acts) before hall received is_so well possible leave =
      steps_as name acts (stepped conn name (Answer reply) before) hall received
      (answered_as before hall received (reply_text before.state.place.name name reply) is_so)
      well possible leave
  steps_as name (Raw line ∷ acts) before hall received is_so well possible leave =
      steps_as name acts (stepped conn name (Raw line) before) hall received
      (answered_as before hall received line.items is_so) well possible leave
  steps_as name (Do effect ∷ acts) before hall received is_so well possible leave =
      let shown : ℕ → List (List ℕ) = λ q. client_shown q hall.room effect (get hall.clients q) in
      let rest : ℕ → List (List ℕ) =
      λ q. seen_along q (effects_among acts) (hall_after effect hall) in
      more_as (all_stepped conn name acts (with_effect effect before))
      (hall_along (effects_among acts) (hall_after effect hall))
      (λ q. (received q ++ shown q) ++ rest q) (λ q. received q ++ (shown q ++ rest q))
      (λ q. append_assoc (received q) (shown q) (rest q))
      (steps_as name acts (with_effect effect before) (hall_after effect hall)
      (λ q. received q ++ shown q)
      (effect_as effect before hall received is_so well leave.now)
      (after_is_well_formed hall.room effect well possible.now) possible.later leave.later)

  -- ---- whose user quits

  quiet_leaves : (effect : Effect) (clients : Clients) → adds_or_ends (Do effect) ≡ false
      → LeavesOthers conn effect clients
  quiet_leaves (Quit nick text) clients quiet = cc quiet
  quiet_leaves effect clients quiet = tt

  quiet_leave : (acts : List Act) (clients : Clients) → list_any adds_or_ends acts ≡ false
      → AllLeaveOthers conn (effects_among acts) clients
  quiet_leave [] clients quiet = tt
  quiet_leave (Answer reply ∷ acts) clients quiet = quiet_leave acts clients quiet
  quiet_leave (Raw line ∷ acts) clients quiet = quiet_leave acts clients quiet
  quiet_leave (Do effect ∷ acts) clients quiet =
      let parts = or_parts (adds_or_ends (Do effect)) (list_any adds_or_ends acts) quiet in
      record {
        now = quiet_leaves effect clients parts.0;
        later = quiet_leave acts (clients_left effect clients) parts.1;
      }

  none_leave : (acts : List Act) (clients : Clients) → list_any is_effect acts ≡ false
      → AllLeaveOthers conn (effects_among acts) clients
  none_leave [] clients none = tt
  none_leave (Answer reply ∷ acts) clients none = none_leave acts clients none
  none_leave (Raw line ∷ acts) clients none = none_leave acts clients none
  none_leave (Do effect ∷ acts) clients none = cc none

-- what is known of decisions
pub record IsKnownOfDecisions : Type 0 where
  pub decided_possible : DecidedIsPossible
  pub registering_possible : RegisteringIsPossible
  pub stays : WhoStaysIsUser
  pub closes : WhoIsClosedQuits
  pub added : RegisteredIsAdded
  pub unchanging : UnregisteredChangesNothing

-- ---- what a client does

module _ (known : IsKnownOfDecisions) (homes : ℕ → Option Name) (machine : RoomMachine)
    (well : IsWellFormed machine.room)
    (matched : AreMatched homes (home_under machine.room) (registered_as machine.clients)) where
  -- these effects are all that the others know of it
  abbrev pub IsServed : ℕ → Handled → List Effect → Type 0
  IsServed conn now effects = IsAsHall conn now (hall_along effects (hall_of machine))
      (λ q. seen_along q effects (hall_of machine))

  module _ (conn : ℕ) where
    own_alone : (nick text : List ℕ) → registered_as machine.clients conn ≡ Some (key nick)
        → LeavesOthers conn (Quit nick text) machine.clients
    own_alone nick text mine q two = by (get machine.clients q) refl
      where
        named : (name : List ℕ) → get machine.clients q ≡ Some (Registered name) → (b : Bool)
            → same name nick ≡ b → not b ≡ true
        named name there true one =
            let both = same_number-is q conn (matched.user_has_one conn q (key nick) mine
            (ap (option_and_then fold_of) there ∙ ap Some (key_by_same name nick one))) in
            absurd (cc (sym both ∙ two))
        named name there false other = refl

        by : (o : Option Client) → get machine.clients q ≡ o
            → option_map_or (λ client. not (is_client nick client)) o true ≡ true
        by None there = refl
        by (Some (Registering pending)) there = refl
        by (Some (Registered name)) there = named name there (same name nick) refl

    as_it_is : IsAsHall conn (unchanged machine) (hall_of machine) (λ q. [])
    as_it_is = record { room = refl; clients = λ q two. refl; lines = λ q two. refl }

    with_it : (client : Client)
        → IsAsHall conn (unchanged (with_client machine conn client)) (hall_of machine) (λ q. [])
    with_it client = record {
      room = refl;
      clients = λ q two. get-with machine.clients conn client q
          ∙ ap (λ b. cond b (Some client) (get machine.clients q)) two;
      lines = λ q two. refl;
    }

    without_it : IsAsHall conn (unchanged (without_client machine conn)) (hall_of machine) (λ q. [])
    without_it = record {
      room = refl;
      clients = λ q two. get-without machine.clients conn q
          ∙ ap (λ b. cond b None (get machine.clients q)) two;
      lines = λ q two. refl;
    }

    done_so : (name : Option (List ℕ)) (acts : List Act) (close : Bool) (start : RoomMachine)
        → IsAsHall conn (unchanged start) (hall_of machine) (λ q. [])
        → ArePossible machine.room acts → AllLeaveOthers conn (effects_among acts) machine.clients
        → IsServed conn (closing close conn (all_stepped conn name acts (unchanged start)))
        (effects_among acts)
    done_so name acts close start starts possible leave =
        closed_as conn close (all_stepped conn name acts (unchanged start))
        (hall_along (effects_among acts) (hall_of machine))
        (λ q. seen_along q (effects_among acts) (hall_of machine))
        (steps_as conn name acts (unchanged start) (hall_of machine)
        (λ q. []) starts well possible leave)

    -- a line before registration
    given_so : (pending : Pending) (message : Parsed) → IsServed conn
        (pending_decided machine conn (register machine.room machine.place pending message))
        (effects_among (register machine.room machine.place pending message).steps)
    given_so pending message =
        let given = register machine.room machine.place pending message in
        done_so given.pending.nick given.steps given.close
        (with_client machine conn (client_after given given.pending.nick))
        (with_it (client_after given given.pending.nick))
        (known.registering_possible machine.room machine.place pending message well)
        (by given.registered refl)
      where
        by : (b : Bool) → (register machine.room machine.place pending message).registered ≡ b
            → AllLeaveOthers conn (effects_among
            (register machine.room machine.place pending message).steps) machine.clients
        by true is =
            let adds = known.added machine.room machine.place pending message is in
            subst (λ acts. AllLeaveOthers conn (effects_among acts) machine.clients)
            (sym adds.steps_are)
            (record { now = tt; later = none_leave conn adds.behind machine.clients adds.no_more })
        by false is =
            none_leave conn
            (register machine.room machine.place pending message).steps machine.clients
            (known.unchanging machine.room machine.place pending message is)

    user_so : (nick : List ℕ) → client_of machine conn ≡ Some (Registered nick)
        → (message : Parsed) (o : Option User) → row machine.room.users (key nick) ≡ o
        → IsServed conn (user_decided machine conn o message) (effects_of_user machine message o)
    user_so nick mine message None there = as_it_is
    user_so nick mine message (Some user) there =
        done_so (Some user.nick) decision.steps decision.close machine as_it_is
        (known.decided_possible machine.room machine.place user.nick message well)
        (by decision.close refl)
      where
        decision : Decided
        decision = decide machine.room machine.place user.nick message

        by : (b : Bool) → decision.close ≡ b
            → AllLeaveOthers conn (effects_among decision.steps) machine.clients
        by true is =
            let first = known.closes machine.room machine.place user.nick message is in
            let left = clients_left (Quit first.me.nick first.reason) machine.clients in
            let named = sym (well.users_named (key user.nick) first.me first.is_user
            ∙ well.users_named (key nick) user there) in
            subst (λ acts. AllLeaveOthers conn (effects_among acts) machine.clients)
            (sym first.steps_are) (record {
              now = own_alone first.me.nick first.reason (ap (option_and_then fold_of) mine
                  ∙ ap Some named);
              later = none_leave conn first.behind left first.no_more;
            })
        by false is = quiet_leave conn decision.steps machine.clients
            (known.stays machine.room machine.place user.nick message is)

    said_so : (message : Parsed) (o : Option Client) → client_of machine conn ≡ o
        → IsServed conn (said_by machine conn o message) (effects_said machine message o)
    said_so message None is = as_it_is
    said_so message (Some (Registering pending)) is = given_so pending message
    said_so message (Some (Registered nick)) is =
        user_so nick is message (row machine.room.users (key nick)) refl

    gone_so : (o : Option Client) → client_of machine conn ≡ o
        → IsServed conn (gone machine conn o) (effects_left (user_of machine.room o))
    gone_so None is = without_it
    gone_so (Some (Registering pending)) is = without_it
    gone_so (Some (Registered nick)) is = by (row machine.room.users (key nick)) refl
      where
        by : (o : Option User) → row machine.room.users (key nick) ≡ o → IsServed conn (quits
            (option_map (λ (user : User). user.nick) o) (unchanged (without_client machine conn)))
            (effects_left (option_map (λ (user : User). user.nick) o))
        by None there = without_it
        by (Some user) there =
            let shown : ℕ → List (List ℕ) = λ q. client_shown q machine.room
            (Quit user.nick lost_text) (get machine.clients q) in
            more_as conn
            (with_effect (Quit user.nick lost_text) (unchanged (without_client machine conn)))
            (hall_after (Quit user.nick lost_text) (hall_of machine)) shown (λ q. shown q ++ [])
            (λ q. sym (append-nil (shown q)))
            (effect_as conn (Quit user.nick lost_text) (unchanged (without_client machine conn))
            (hall_of machine) (λ q. []) without_it well
            (own_alone user.nick lost_text (ap (option_and_then fold_of) is
            ∙ ap Some (sym (well.users_named (key nick) user there)))))

  pub handled_so : (client_event : ClientEvent) → IsServed (client_in client_event)
      (handled machine client_event) (effects_at machine client_event)
  unfolding handled
  handled_so (connects conn host) = with_it conn (fresh host)
  handled_so (says conn (Err fault)) = as_it_is conn
  handled_so (says conn (Ok message)) = said_so conn message (client_of machine conn) refl
  handled_so (goes conn) = gone_so conn (client_of machine conn) refl
