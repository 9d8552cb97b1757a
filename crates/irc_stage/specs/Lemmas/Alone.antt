-- A server that knows no other, and has no link: nothing it does is told on links, and its users
-- are its own. It is the room machine that it is to its clients.
use Rattle.std.proofs.Common.{◌≡◌, ℕ, Bool, true, false, Option, Some, None, Ok, Err, List, [], ◌∷◌}
use Rattle.std.proofs.Common.{◌++◌, refl, sym, ◌∙◌, ap, append-nil, filter, filter_map, is_some}
use Rattle.std.proofs.Common.{map, if◌then◌else◌}
use Rattle.std.specs.FinMap.{empty, from_entries, keys, values}
use Rattle.std.specs.List.{cons_option, flat_map, list_any}
use Rattle.std.specs.Option.{option_and_then, option_map}
use Rattle.std.specs.Ordering.{nat_cmp}
use Rattle.irc_line.specs.Messages.{Parsed}
use Rattle.irc_names.specs.Fold.{key}
use Rattle.irc_names.specs.Tables.{row}
use Rattle.irc_users.specs.declared.user.User.{User}
use Rattle.irc_batch.specs.Batches.{line_to}
use Rattle.irc_link_writer.specs.Written.{wire}
use Rattle.irc_stage.specs.Ends.{End, Ends, is_met}
use Rattle.irc_stage.specs.Lemmas.Listed.{listed}
use Rattle.irc_stage.specs.Ways.{but, met_links, told_homes, ways_toward}
use Rattle.irc_numerics.specs.Replies.{reply_text}
use Rattle.irc_room.specs.effect.Effect.{Effect}
use Rattle.irc_room.specs.effect.Effect.TheVariants.{Quit}
use Rattle.irc_room.specs.effect.Effect.TheVariants.{Invite}
use Rattle.irc_room.specs.After.{after}
use Rattle.irc_room.specs.Readers.{home_under}
use Rattle.irc_room.specs.Seen.{seen}
use Rattle.irc_routes.specs.declared.server_row.ServerRow.{ServerRow}
use Rattle.irc_routes.specs.About.{About}
use Rattle.irc_routes.specs.Known.{Known, alone_known, link_key, next_hop, others, place_of}
use Rattle.irc_routes.specs.Lemmas.TableRows.{row_passes, values-table_of}
use Rattle.irc_routes.specs.Place.{Place}
use Rattle.irc_tables.specs.Lemmas.RowsAsTable.{nothing-sorted, nothing-table}
use Rattle.irc_acts.specs.declared.act.Act.{Act}
use Rattle.irc_acts.specs.declared.act.Act.TheVariants.{Answer, Raw, Do}
use Rattle.irc_commands.specs.Decide.{decide}
use Rattle.irc_commands.specs.Register.{register}
use Rattle.irc_stage.specs.declared.clients.Client.{Client}
use Rattle.irc_stage.specs.declared.clients.Client.TheVariants.{Registering, Registered}
use Rattle.irc_stage.specs.RoomMachine.{RoomMachine, client_of, with_client, without_client}
use Rattle.irc_stage.specs.View.{View, machine_of, IsAlone}
use Rattle.irc_stage.specs.Handle.{Handled, ClientEvent, connects, says, goes, all_stepped}
use Rattle.irc_stage.specs.Handle.{clients_after, client_after, closing, handled, lost_text, quits}
use Rattle.irc_stage.specs.Handle.{said_by, stepped, to_viewer, unchanged, user_decided, user_of}
use Rattle.irc_stage.specs.Handle.{with_effect}
use Rattle.irc_stage.specs.EffectTold.{changed, effect_told, in_silence, is_elsewhere, on_links}
use Rattle.irc_stage.specs.EffectTold.{put_back, with_sent}
use Rattle.irc_stage.specs.ClientTold.{client_told, closed_told, message_told, quit_told, step_told}
use Rattle.irc_stage.specs.ClientTold.{steps_told, unseated, user_told}

-- ---- toward servers that are behind no link nothing goes

none_toward : (known : Known) → ((name : List ℕ) → next_hop known name ≡ None)
    → (homes : List (List ℕ)) → filter_map (next_hop known) homes ≡ []
none_toward known nowhere [] = refl
none_toward known nowhere (home ∷ homes) =
    ap (λ o. cons_option o (filter_map (next_hop known) homes)) (nowhere home)
    ∙ none_toward known nowhere homes

pub no_ways : (ends : Ends) (known : Known) (arrival : Option ℕ) → met_links ends ≡ []
    → ((name : List ℕ) → next_hop known name ≡ None) → (homes : Option (List (List ℕ)))
    → but arrival (ways_toward ends known homes) ≡ []
no_ways ends known arrival none nowhere None = ap (but arrival) none
no_ways ends known arrival none nowhere (Some homes) =
    ap (λ links. but arrival (keys (from_entries {R = nat_cmp} (map link_key links))))
    (none_toward known nowhere homes)
    ∙ ap (λ (es : List (ℕ × Unit {0})). but arrival (map (λ (e : ℕ × Unit {0}). e.0) es))
    (listed {X = Unit {0}} [] tt)

-- where there is no end, no link counts
pub none_met : (ends : Ends) → ends ≡ empty → met_links ends ≡ []
none_met ends none =
    ap met_links none ∙ ap (λ (es : List (ℕ × End)). map (λ (e : ℕ × End). e.0)
    (filter (λ (e : ℕ × End). is_met e.1) es)) (listed {X = End} [] tt)

pub none_elsewhere : (view : View) → ((name : List ℕ) → next_hop view.routes name ≡ None)
    → (effect : Effect) → is_elsewhere view effect ≡ false
none_elsewhere view nowhere (Invite who nick channel) = by (home_under view.room (key nick))
  where
    by : (o : Option (List ℕ)) → is_some (option_and_then (next_hop view.routes) o) ≡ false
    by None = refl
    by (Some home) = ap is_some (nowhere home)
none_elsewhere view nowhere other = refl

-- a server that was not linked yet knows no other
pub knows_no_other : (name : List ℕ) (about : About) → others (alone_known name about) ≡ []
knows_no_other name about =
    ap values (sym (nothing-table (λ (r : ServerRow). (r.name, r))))
    ∙ values-table_of (λ (r : ServerRow). r.name) []
    (nothing-sorted (λ (r : ServerRow). (r.name, r)))

-- where no other is known, there is no way to any
no_next_hop : (known : Known) → others known ≡ [] → (name : List ℕ) → next_hop known name ≡ None
no_next_hop known none name = by (row known.rows name) refl
  where
    by : (o : Option ServerRow) → row known.rows name ≡ o
        → option_map (λ (r : ServerRow). r.link) o ≡ None
    by None is = refl
    by (Some server) is =
        absurd
        (let there = sym (ap (list_any (λ (r : ServerRow). true)) none)
        ∙ row_passes (λ (r : ServerRow). true) known.rows name server is refl in cc there)

-- ---- what the room machine does, a server without links does

-- what a decision may know of its server is never changed
abbrev pub KeepsPlace : RoomMachine → Handled → Type 0
KeepsPlace machine after = after.state.place ≡ machine.place

step_keeps : (conn : ℕ) (name : Option (List ℕ)) (act : Act) (before : Handled)
    → KeepsPlace before.state (stepped conn name act before)
step_keeps conn name (Answer reply) before = refl
step_keeps conn name (Raw line) before = refl
step_keeps conn name (Do effect) before = refl

steps_keep : (conn : ℕ) (name : Option (List ℕ)) (acts : List Act) (before : Handled)
    → KeepsPlace before.state (all_stepped conn name acts before)
steps_keep conn name [] before = refl
steps_keep conn name (act ∷ acts) before = steps_keep conn name acts (stepped conn name act before)
    ∙ step_keeps conn name act before

close_keeps : (close : Bool) (conn : ℕ) (before : Handled)
    → KeepsPlace before.state (closing close conn before)
close_keeps true conn before = refl
close_keeps false conn before = refl

carried_keeps : (close : Bool) (conn : ℕ) (name : Option (List ℕ))
    (acts : List Act) (machine : RoomMachine)
    → KeepsPlace machine (closing close conn (all_stepped conn name acts (unchanged machine)))
carried_keeps close conn name acts machine =
    close_keeps close conn (all_stepped conn name acts (unchanged machine))
    ∙ steps_keep conn name acts (unchanged machine)

quits_keep : (nick : Option (List ℕ)) (before : Handled)
    → KeepsPlace before.state (quits nick before)
quits_keep None before = refl
quits_keep (Some nick) before = refl

user_keeps : (machine : RoomMachine) (conn : ℕ) (o : Option User) (message : Parsed)
    → KeepsPlace machine (user_decided machine conn o message)
user_keeps machine conn None message = refl
user_keeps machine conn (Some user) message =
    let decision = decide machine.room machine.place user.nick message in
    carried_keeps decision.close conn (Some user.nick) decision.steps machine

said_keeps : (machine : RoomMachine) (conn : ℕ) (o : Option Client) (message : Parsed)
    → KeepsPlace machine (said_by machine conn o message)
said_keeps machine conn None message = refl
said_keeps machine conn (Some (Registering pending)) message =
    let given = register machine.room machine.place pending message in
    let name = given.pending.nick in
    carried_keeps given.close conn name given.steps
    (with_client machine conn (client_after given name))
said_keeps machine conn (Some (Registered nick)) message =
    user_keeps machine conn (row machine.room.users (key nick)) message

pub place_is_kept : (machine : RoomMachine) (client_event : ClientEvent)
    → KeepsPlace machine (handled machine client_event)
unfolding handled
place_is_kept machine (connects conn host) = refl
place_is_kept machine (says conn (Err fault)) = refl
place_is_kept machine (says conn (Ok message)) =
    said_keeps machine conn (client_of machine conn) message
place_is_kept machine (goes conn) = quits_keep (user_of machine.room (client_of machine conn))
    (unchanged (without_client machine conn))

module _ (view : View) (alone : IsAlone view) where
  nowhere : (name : List ℕ) → next_hop view.routes name ≡ None
  nowhere = no_next_hop view.routes alone.no_others

  effect_back : (effect : Effect) (h : Handled)
      → effect_told None effect (put_back view h) ≡ put_back view (with_effect effect h)
  effect_back effect h = told_nowhere ∙ kept_here
    where
      now : View
      now = record view { clients = h.state.clients; room = h.state.room }

      -- nothing goes on a link, ..
      told_nowhere : effect_told None effect (put_back view h) ≡ changed effect (put_back view h)
      told_nowhere =
          ap (λ links. with_sent (on_links links (wire h.state.room view.routes effect))
          (changed effect (put_back view h)))
          (no_ways view.ends view.routes None (none_met view.ends alone.no_ends) nowhere
          (told_homes h.state.room effect))
          ∙ ap (λ out. record { state = (changed effect (put_back view h)).state; out = out })
          (append-nil (changed effect (put_back view h)).out)

      -- .. and no user is another server's
      kept_here : changed effect (put_back view h) ≡ put_back view (with_effect effect h)
      kept_here =
          ap (λ (b : Bool). record {
            state = record view {
              clients = clients_after effect h.state.clients;
              room = if b
                  then h.state.room else after h.state.room effect;
            };
            out = h.out ++ (if b then []
                else flat_map (to_viewer h.state.clients) (seen h.state.room effect));
          }) (none_elsewhere now nowhere effect)

  step_back : (conn : ℕ) (name : Option (List ℕ)) (act : Act) (h : Handled)
      → h.state.place ≡ place_of view.routes
      → step_told conn name act (put_back view h) ≡ put_back view (stepped conn name act h)
  step_back conn name (Answer reply) h same =
      ap (λ (p : Place). record {
        state = (put_back view h).state;
        out = h.out ++ line_to conn (reply_text p.name name reply) ∷ [];
      }) (sym same)
  step_back conn name (Raw line) h same = refl
  step_back conn name (Do effect) h same = effect_back effect h

  steps_back : (conn : ℕ) (name : Option (List ℕ)) (acts : List Act) (h : Handled)
      → h.state.place ≡ place_of view.routes
      → steps_told conn name acts (put_back view h) ≡ put_back view (all_stepped conn name acts h)
  steps_back conn name [] h same = refl
  steps_back conn name (act ∷ acts) h same =
      ap (steps_told conn name acts) (step_back conn name act h same)
      ∙ steps_back conn name acts (stepped conn name act h) (step_keeps conn name act h ∙ same)

  close_back : (close : Bool) (conn : ℕ) (h : Handled)
      → closed_told close conn (put_back view h) ≡ put_back view (closing close conn h)
  close_back true conn h = refl
  close_back false conn h = refl

  -- a decision that is carried out from a machine with this place
  carried_back : (close : Bool) (conn : ℕ) (name : Option (List ℕ)) (acts : List Act)
      (machine : RoomMachine) → machine.place ≡ place_of view.routes
      → closed_told close conn (steps_told conn name acts (put_back view (unchanged machine)))
      ≡ put_back view (closing close conn (all_stepped conn name acts (unchanged machine)))
  carried_back close conn name acts machine same =
      ap (closed_told close conn) (steps_back conn name acts (unchanged machine) same)
      ∙ close_back close conn (all_stepped conn name acts (unchanged machine))

  user_back : (conn : ℕ) (user : Option User) (message : Parsed) → user_told view conn user message
      ≡ put_back view (user_decided (machine_of view) conn user message)
  user_back conn None message = refl
  user_back conn (Some user) message =
      let decision = decide view.room (place_of view.routes) user.nick message in
      carried_back decision.close conn (Some user.nick) decision.steps (machine_of view) refl

  message_back : (conn : ℕ) (client : Option Client) (message : Parsed) → message_told view conn
      client message ≡ put_back view (said_by (machine_of view) conn client message)
  message_back conn None message = refl
  message_back conn (Some (Registering pending)) message =
      let given = register view.room (place_of view.routes) pending message in
      let name = given.pending.nick in
      carried_back given.close conn name given.steps
      (with_client (machine_of view) conn (client_after given name)) refl
  message_back conn (Some (Registered nick)) message =
      user_back conn (row view.room.users (key nick)) message

  quit_back : (conn : ℕ) (user : Option (List ℕ)) → quit_told user (in_silence (unseated conn view))
      ≡ put_back view (quits user (unchanged (without_client (machine_of view) conn)))
  quit_back conn None = refl
  quit_back conn (Some nick) =
      effect_back (Quit nick lost_text) (unchanged (without_client (machine_of view) conn))

  pub told_back : (client_event : ClientEvent)
      → client_told view client_event ≡ put_back view (handled (machine_of view) client_event)
  unfolding handled client_told
  told_back (connects conn host) = refl
  told_back (says conn (Ok message)) = message_back conn (client_of (machine_of view) conn) message
  told_back (says conn (Err fault)) = refl
  told_back (goes conn) = quit_back conn (user_of view.room (client_of (machine_of view) conn))
