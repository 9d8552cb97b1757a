-- What a server puts on a link by what a client of its own does: the lines of its effects in turn,
-- at most one of each.
use Rattle.std.proofs.Common.{◌≡◌, ℕ, ◌≤◌, Bool, true, false, Option, Some, None, Ok, Err, List, []}
use Rattle.std.proofs.Common.{◌∷◌, ◌++◌, length, refl, sym, ◌∙◌, ap, subst, filter, nat_eq}
use Rattle.std.proofs.Common.{append-nil, append_assoc, arith, if◌then◌else◌}
use Rattle.std.proofs.lemmas.List.{length-append, length-map}
use Rattle.std.specs.FinMap.{get, insert, remove}
use Rattle.std.specs.List.{filter_map, list_any}
use Rattle.std.specs.Option.{option_map_or}
use Rattle.irc_line.specs.Messages.{Parsed, line_text}
use Rattle.irc_names.specs.Fold.{key}
use Rattle.irc_names.specs.Tables.{row}
use Rattle.irc_users.specs.declared.user.User.{User}
use Rattle.irc_batch.specs.Batches.{Sent}
use Rattle.irc_room.specs.effect.Effect.{Effect}
use Rattle.irc_room.specs.effect.Effect.TheVariants.{Quit}
use Rattle.irc_room.specs.Room.{Room}
use Rattle.irc_routes.specs.Known.{next_hop, place_of}
use Rattle.irc_acts.specs.declared.act.Act.{Act}
use Rattle.irc_acts.specs.declared.act.Act.TheVariants.{Answer, Raw, Do}
use Rattle.irc_acts.specs.Acts.{effects_among}
use Rattle.irc_commands.specs.Decide.{decide}
use Rattle.irc_commands.specs.Register.{register}
use Rattle.irc_stage.specs.Ends.{is_met}
use Rattle.irc_stage.specs.Ways.{told_homes, ways_toward}
use Rattle.irc_link_writer.specs.Written.{wire}
use Rattle.irc_stage.specs.declared.clients.Client.{Client}
use Rattle.irc_stage.specs.declared.clients.Client.TheVariants.{Registering, Registered}
use Rattle.irc_stage.specs.ClientTold.{client_told, closed_told, message_told, quit_told, step_told}
use Rattle.irc_stage.specs.ClientTold.{steps_told, user_told}
use Rattle.irc_stage.specs.EffectTold.{Served, effect_told, in_silence, on_links, room_after}
use Rattle.irc_stage.specs.EffectTold.{shown_at, ways_at}
use Rattle.irc_stage.specs.Handle.{ClientEvent, connects, says, goes, client_after, lost_text}
use Rattle.irc_stage.specs.Handle.{user_of}
use Rattle.irc_stage.specs.RoomMachine.{Clients, client_of}
use Rattle.irc_stage.specs.View.{View, machine_of}
use Rattle.irc_world.specs.Bounds.{effects_at, effects_left, effects_of_user, effects_said}
use Rattle.irc_follow.specs.Says.{lines_on}
use Rattle.irc_follow.specs.Lemmas.LinesOnLinks.{among_keys, among_met, lines_behind}
use Rattle.irc_follow.specs.Lemmas.LinesOnLinks.{none_by_effect, on_these}
use Rattle.irc_follow.specs.Lemmas.Neighbours.{but_none}

-- the server in another room
abbrev pub in_room : View → Room → View
in_room view room = record view { room = room }

-- the lines on a link of these effects, done one after another from this room on
abbrev pub lines_along : ℕ → View → Room → List Effect → List (List ℕ)
lines_along k view room [] = []
lines_along k view room (effect ∷ effects) =
    lines_on k (on_links (ways_at (in_room view room) None effect) (wire room view.routes effect))
    ++ lines_along k view (room_after (in_room view room) effect) effects

module _ (k : ℕ) (view : View) where
  -- ---- at most one of each effect

  one_at_most : (b : Bool) → length (if b then k ∷ [] else []) ≤ 1
  one_at_most true = omega arith
  one_at_most false = omega arith

  one_of_each : (room : Room) (effect : Effect) → length (lines_on k
      (on_links (ways_at (in_room view room) None effect) (wire room view.routes effect))) ≤ 1
  one_of_each room effect =
      subst (λ n. n ≤ 1) (sym lengths) (few (told_homes room effect))
    where
      those : Option (List (List ℕ)) → List ℕ
      those homes = filter (λ n. nat_eq n k) (ways_toward view.ends view.routes homes)

      lengths : length (lines_on k
          (on_links (ways_at (in_room view room) None effect) (wire room view.routes effect)))
          ≡ length (those (told_homes room effect))
      lengths =
          ap length
          (on_these k (ways_at (in_room view room) None effect) (wire room view.routes effect))
          ∙ length-map (filter (λ n. nat_eq n k) (ways_at (in_room view room) None effect))
          (λ _. line_text (wire room view.routes effect))
          ∙ ap (λ links. length (filter (λ n. nat_eq n k) links))
          (but_none (ways_toward view.ends view.routes (told_homes room effect)))

      few : (homes : Option (List (List ℕ))) → length (those homes) ≤ 1
      few None = subst (λ links. length links ≤ 1) (sym (among_met k view.ends))
          (one_at_most (option_map_or is_met (get view.ends k) false))
      few (Some homes) =
          subst (λ links. length links ≤ 1)
          (sym (among_keys k (filter_map (next_hop view.routes) homes)))
          (one_at_most (list_any (λ n. nat_eq n k) (filter_map (next_hop view.routes) homes)))

  pub few_along : (room : Room) (effects : List Effect)
      → length (lines_along k view room effects) ≤ length effects
  few_along room [] = omega arith
  few_along room (effect ∷ effects) =
      let one = one_of_each room effect in
      let rest = few_along (room_after (in_room view room) effect) effects in
      let both = length-append (lines_on k
      (on_links (ways_at (in_room view room) None effect) (wire room view.routes effect)))
      (lines_along k view (room_after (in_room view room) effect) effects) in
      omega arith

  -- ---- steps in turn

  abbrev at : Clients → Room → View
  at clients room = record view { clients = clients; room = room }

  -- these were put out, and then those lines
  abbrev IsTold : Served → List Sent → List (List ℕ) → Type 0
  IsTold after before lines = lines_on k after.out ≡ lines_on k before ++ lines

  nothing_more : (out : List Sent) (sent : Sent) → lines_on k (sent ∷ []) ≡ []
      → lines_on k (out ++ sent ∷ []) ≡ lines_on k out
  nothing_more out sent none = lines_behind k out (sent ∷ []) ∙ ap (λ l. lines_on k out ++ l) none
      ∙ append-nil (lines_on k out)

  effect_lines : (clients : Clients) (room : Room) (out : List Sent) (effect : Effect)
      → IsTold (effect_told None effect (record { state = at clients room; out = out })) out
      (lines_on k
      (on_links (ways_at (in_room view room) None effect) (wire room view.routes effect)))
  effect_lines clients room out effect =
      lines_behind k (out ++ shown_at (at clients room) effect)
      (on_links (ways_at (in_room view room) None effect) (wire room view.routes effect))
      ∙ ap (λ l. l ++ lines_on k
      (on_links (ways_at (in_room view room) None effect) (wire room view.routes effect)))
      (lines_behind k out (shown_at (at clients room) effect)
      ∙ ap (λ l. lines_on k out ++ l) (none_by_effect k (at clients room) effect)
      ∙ append-nil (lines_on k out))

  steps_lines : (conn : ℕ) (name : Option (List ℕ)) (acts : List Act)
      (clients : Clients) (room : Room) (out : List Sent)
      → IsTold (steps_told conn name acts (record { state = at clients room; out = out })) out
      (lines_along k view room (effects_among acts))
  steps_lines conn name [] clients room out = sym (append-nil (lines_on k out))
  steps_lines conn name (Answer reply ∷ acts) clients room out =
      steps_lines conn name acts clients room
      (step_told conn name (Answer reply) (record { state = at clients room; out = out })).out
      ∙ ap (λ l. l ++ lines_along k view room (effects_among acts)) (nothing_more out _ refl)
  steps_lines conn name (Raw line ∷ acts) clients room out =
      steps_lines conn name acts clients room
      (step_told conn name (Raw line) (record { state = at clients room; out = out })).out
      ∙ ap (λ l. l ++ lines_along k view room (effects_among acts)) (nothing_more out _ refl)
  steps_lines conn name (Do effect ∷ acts) clients room out =
      let after = effect_told None effect (record { state = at clients room; out = out }) in
      steps_lines conn name acts after.state.clients after.state.room after.out
      ∙ ap (λ l. l ++ lines_along k view after.state.room (effects_among acts))
      (effect_lines clients room out effect)
      ∙ append_assoc (lines_on k out) (lines_on k
      (on_links (ways_at (in_room view room) None effect) (wire room view.routes effect)))
      (lines_along k view after.state.room (effects_among acts))

  close_lines : (close : Bool) (conn : ℕ) (after : Served)
      → lines_on k (closed_told close conn after).out ≡ lines_on k after.out
  close_lines true conn after = nothing_more after.out _ refl
  close_lines false conn after = refl

  -- ---- whatever happens

  user_lines : (conn : ℕ) (o : Option User) (message : Parsed)
      → lines_on k (user_told view conn o message).out ≡ lines_along k view view.room
      (effects_of_user (machine_of view) message o)
  user_lines conn None message = refl
  user_lines conn (Some user) message =
      let decision = decide view.room (place_of view.routes) user.nick message in
      close_lines decision.close conn
      (steps_told conn (Some user.nick) decision.steps (in_silence view))
      ∙ steps_lines conn (Some user.nick) decision.steps view.clients view.room []

  message_lines : (conn : ℕ) (o : Option Client) (message : Parsed)
      → lines_on k (message_told view conn o message).out ≡ lines_along k view view.room
      (effects_said (machine_of view) message o)
  message_lines conn None message = refl
  message_lines conn (Some (Registering pending)) message =
      let given = register view.room (place_of view.routes) pending message in
      let seated_now =
      record view { clients = insert view.clients conn (client_after given given.pending.nick) }
      in
      close_lines given.close conn
      (steps_told conn given.pending.nick given.steps (in_silence seated_now))
      ∙ steps_lines conn given.pending.nick given.steps seated_now.clients view.room []
  message_lines conn (Some (Registered nick)) message =
      user_lines conn (row view.room.users (key nick)) message

  quit_lines : (nick : Option (List ℕ)) (clients : Clients)
      → lines_on k (quit_told nick (in_silence (record view { clients = clients }))).out
      ≡ lines_along k view view.room (effects_left nick)
  quit_lines None clients = refl
  quit_lines (Some nick) clients = effect_lines clients view.room [] (Quit nick lost_text)
      ∙ sym (append-nil _)

  pub told_along : (client_event : ClientEvent) → lines_on k (client_told view client_event).out
      ≡ lines_along k view view.room (effects_at (machine_of view) client_event)
  unfolding client_told
  told_along (connects conn host) = refl
  told_along (says conn (Ok message)) =
      message_lines conn (client_of (machine_of view) conn) message
  told_along (says conn (Err fault)) = refl
  told_along (goes conn) =
      quit_lines (user_of view.room (client_of (machine_of view) conn)) (remove view.clients conn)
