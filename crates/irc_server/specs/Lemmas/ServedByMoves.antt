-- Whatever is served is a list of moves, and so is what comes of a line by which a server sets.
use Rattle.std.proofs.Common.{◌≡◌, ℕ, Bool, true, false, cond, is_none, is_some, Option, Some, None}
use Rattle.std.proofs.Common.{Result, Ok, Err, List, [], ◌∷◌, refl, sym, ◌∙◌, ap, subst}
use Rattle.std.proofs.Common.{if◌then◌else◌}
use Rattle.std.specs.FinMap.{get, insert}
use Rattle.std.specs.Option.{option_map_or}
use Rattle.irc_names.specs.Fold.{key}
use Rattle.irc_names.specs.Lemmas.PlainFacts.{is_some-map}
use Rattle.irc_names.specs.Tables.{row}
use Rattle.irc_line.specs.declared.reading.LineFault.{LineFault}
use Rattle.irc_line.specs.Messages.{Parsed}
use Rattle.irc_batch.specs.Batches.{end_of_link}
use Rattle.irc_batch.specs.declared.close_reason.CloseReason.TheVariants as reason
use Rattle.irc_users.specs.declared.user.User.{User}
use Rattle.irc_numerics.specs.Replies.{reply_text}
use Rattle.irc_room.specs.effect.Effect.{Effect}
use Rattle.irc_room.specs.effect.Effect.TheVariants.{Quit, Rename}
use Rattle.irc_room.specs.Effects.{has_user}
use Rattle.irc_routes.specs.Known.{place_of}
use Rattle.irc_acts.specs.declared.act.Act.{Act}
use Rattle.irc_acts.specs.declared.act.Act.TheVariants.{Answer, Raw, Do}
use Rattle.irc_commands.specs.Decide.{decide}
use Rattle.irc_commands.specs.Register.{register}
use Rattle.irc_merge.specs.Deeds.{Deed, does as done, gains, loses, kills, brings, sets, tops}
use Rattle.irc_merge.specs.Deeds.{effects_of}
use Rattle.irc_merge.specs.Quits.{collision_text}
use Rattle.irc_burst.specs.DeedsMeant.{Told, a_deed, a_server}
use Rattle.irc_burst_lines.specs.DeedLines.{deed_parts}
use Rattle.irc_stage.specs.Ends.{End, Ends, is_met}
use Rattle.irc_stage.specs.Ways.{IsMetEnd}
use Rattle.irc_stage.specs.declared.clients.Client.{Client}
use Rattle.irc_stage.specs.declared.clients.Client.TheVariants.{Registering, Registered}
use Rattle.irc_stage.specs.RoomMachine.{Clients, client_of}
use Rattle.irc_stage.specs.View.{View, machine_of, password_for, with_end}
use Rattle.irc_stage.specs.Handle.{ClientEvent, connects, says, goes, client_after, clients_after}
use Rattle.irc_stage.specs.Handle.{lost_text, renamed_in, user_of}
use Rattle.irc_stage.specs.EffectTold.{Served, all_changed, changed, changed_if, counts}
use Rattle.irc_stage.specs.EffectTold.{effect_came, effect_told, in_silence, with_sent}
use Rattle.irc_stage.specs.Linked.{is_taken, told_on_all, with_password, with_row}
use Rattle.irc_stage.specs.ClientTold.{client_told, message_told, quit_told, step_told, steps_told}
use Rattle.irc_stage.specs.ClientTold.{unseated, user_told}
use Rattle.irc_stage.specs.Lemmas.Numbers.{get-each, get-with, one_number, same_number}
use Rattle.irc_stage.specs.Lemmas.Numbers.{same_number-refl}
use Rattle.irc_server.specs.DeedTold.{all_told, arrival_of, deed_told, deeds_told, gain_told}
use Rattle.irc_server.specs.DeedTold.{lost_behind, titled_view, told_by}
use Rattle.irc_server.specs.Heard.{Heard, ignored, closes, password, meets, tells, heard}
use Rattle.irc_server.specs.LinkServed.{after_heard, line_served, link_opened, met_by, on_link}
use Rattle.irc_server.specs.LinkServed.{opening_parts, owes}
use Rattle.irc_server.specs.Served.{ReadEvent, of_client, link_up, link_says, link_down, served}
use Rattle.irc_server.specs.Closings.{closing_by_line, closing_heard, closing_opened, closings_due}
use Rattle.irc_server.specs.declared.setting.Setting.{Setting}
use Rattle.irc_server.specs.declared.setting.Setting.TheVariants as setting
use Rattle.irc_server.specs.LinesThatSet.{SettingRead, after_setting, line_set, read_at}
use Rattle.irc_server.specs.LinesThatSet.{setting_effects, setting_parts, setting_read}
use Rattle.irc_server.specs.LinesThatSet.{setting_told, spelled_by}
use Rattle.irc_server.specs.Loops.Serving.{IsHearable}
use Rattle.irc_server.specs.Moves.{Mover, by_link, Move, answers, does, comes, shows, takes_out}
use Rattle.irc_server.specs.Moves.{tells_on, learns, forgets, respells, Moves, none, next, OfClient}
use Rattle.irc_server.specs.Moves.{OfLinks, AreStill, Closings, IsServed, seats, ignores, speaks}
use Rattle.irc_server.specs.Moves.{leaves, opens_link, refuses_link, ignores_link, listens}
use Rattle.irc_server.specs.Moves.{closes_link, loses_link}
use Rattle.irc_server.specs.Lemmas.HeardCanBeDone.{hearable}

-- ---- lists of moves

-- what each move keeps, all keep
pub kept : (By : Mover → Type 0) (Holds : Served → Type 0)
    → ((s t : Served) → Move By s t → Holds s → Holds t) → {s t : Served} → Moves By s t → Holds s
    → Holds t
kept By Holds keeps none holds = holds
kept By Holds keeps (next {s} {between} move moves) holds =
    kept By Holds keeps moves (keeps s between move holds)

pub followed_by : {By : Mover → Type 0} {s t u : Served} → Moves By s t → Moves By t u
    → Moves By s u
followed_by none others = others
followed_by (next move moves) others = next move (followed_by moves others)

pub one : {By : Mover → Type 0} {s t : Served} → Move By s t → Moves By s t
one move = next move none

-- no move changes the ends of the links
pub ends_stay : {By : Mover → Type 0} {s t : Served} → Moves By s t → t.state.ends ≡ s.state.ends
ends_stay {By} {s} {t} moves =
    kept By (λ now. now.state.ends ≡ s.state.ends) (λ now later move same. stays move ∙ same) moves
    refl
  where
    stays : {s t : Served} → Move By s t → t.state.ends ≡ s.state.ends
    stays (takes_out arrival nick words true by is) = refl
    stays (takes_out arrival nick words false by is) = refl
    stays other = refl

-- an effect leaves just the clients that were there
pub same_clients : (effect : Effect) (clients : Clients) (q : ℕ)
    → is_some (get (clients_after effect clients) q) ≡ is_some (get clients q)
same_clients (Rename nick new) clients q =
    ap is_some (get-each (renamed_in nick new) clients q)
    ∙ is_some-map (renamed_in nick new) (get clients q)
same_clients other clients q = refl

-- ---- what comes by links

module _ (By : Mover → Type 0) (arrival : Option ℕ) (by : By (by_link arrival)) where
  pub all_changed_moves : (effects : List Effect) (s : Served) → Moves By s (all_changed effects s)
  all_changed_moves [] s = none
  all_changed_moves (effect ∷ effects) s =
      followed_by (first (counts s.state effect) refl)
      (all_changed_moves effects (changed_if effect s))
    where
      first : (b : Bool) → counts s.state effect ≡ b
          → Moves By s (if b then changed effect s else s)
      first true is = one (shows arrival effect by is)
      first false is = none

  came_moves : (effect : Effect) (s : Served) → Moves By s (effect_came arrival effect s)
  came_moves effect s = either (counts s.state effect) refl
    where
      either : (b : Bool) → counts s.state effect ≡ b
          → Moves By s (if b then effect_told arrival effect s else s)
      either true is = one (comes arrival effect by is)
      either false is = none

  -- its effects, and its line on the links
  whole_moves : (deed : Deed) (s : Served)
      → Moves By s (told_on_all arrival (deed_parts s.state.room s.state.routes deed)
      (all_changed (effects_of s.state.room deed) s))
  whole_moves deed s = followed_by (all_changed_moves (effects_of s.state.room deed) s)
      (one (tells_on arrival (deed_parts s.state.room s.state.routes deed) by))

  pub deed_moves : (deed : Deed) (s : Served) → Moves By s (deed_told arrival deed s)
  unfolding deed_told
  deed_moves (done effect) s = came_moves effect s
  deed_moves (gains uplink name info) s = none
  deed_moves (loses server name text) s =
      let deed = loses server name text in
      followed_by (all_changed_moves (effects_of s.state.room deed) s)
      (next (forgets arrival name by)
      (one (tells_on arrival (deed_parts s.state.room s.state.routes deed) by)))
  deed_moves (kills server nick) s =
      next (takes_out arrival nick collision_text (has_user s.state.room nick) by refl)
      (one (tells_on arrival (deed_parts s.state.room s.state.routes (kills server nick)) by))
  deed_moves (brings server channel members) s =
      let deed = brings server channel members in
      next (respells arrival channel by)
      (followed_by (all_changed_moves (effects_of s.state.room deed) (titled_view channel s))
      (one (tells_on arrival (deed_parts s.state.room s.state.routes deed) by)))
  deed_moves (sets server channel changes) s = whole_moves (sets server channel changes) s
  deed_moves (tops server channel topic) s = whole_moves (tops server channel topic) s

  pub deeds_moves : (deeds : List Deed) (s : Served) → Moves By s (deeds_told arrival deeds s)
  deeds_moves [] s = none
  deeds_moves (deed ∷ deeds) s =
      followed_by (deed_moves deed s) (deeds_moves deeds (deed_told arrival deed s))

pub told_by_moves : (number : ℕ) (told : Told) (s : Served) → IsMetEnd (get s.state.ends number)
    → Moves OfLinks s (told_by number told s)
unfolding told_by
told_by_moves number (a_deed deed) s met =
    deed_moves OfLinks (arrival_of s.state.routes.name number deed) tt deed s
told_by_moves number (a_server uplink name distance token info) s met =
    either (is_taken s.state.routes number name token)
  where
    more : Served
    more = record s { state = with_row number uplink name distance token info s.state }

    either : (b : Bool) → Moves OfLinks s (if b then gain_told number uplink name info more else s)
    either true =
        next (learns number uplink name distance token info tt met)
        (one (tells_on (Some number)
        (deed_parts more.state.room more.state.routes (gains uplink name info)) tt))
    either false = none

pub told_keeps_ends : (number : ℕ) (told : Told) (s : Served) → IsMetEnd (get s.state.ends number)
    → (told_by number told s).state.ends ≡ s.state.ends
told_keeps_ends number told s met = ends_stay (told_by_moves number told s met)

pub all_told_moves : (number : ℕ) (told : List Told) (s : Served)
    → IsMetEnd (get s.state.ends number) → Moves OfLinks s (all_told number told s)
all_told_moves number [] s met = none
all_told_moves number (told ∷ later) s met =
    followed_by (told_by_moves number told s met)
    (all_told_moves number later (told_by number told s)
    (subst (λ ends. IsMetEnd (get ends number)) (sym (told_keeps_ends number told s met)) met))

losses_moves : (number : ℕ) (s : Served) → Moves OfLinks s
    (deeds_told (Some number) (lost_behind s.state number (get s.state.ends number)) s)
losses_moves number s =
    deeds_moves OfLinks (Some number) tt (lost_behind s.state number (get s.state.ends number)) s

-- ---- what clients do

steps_moves : (conn : ℕ) (name : Option (List ℕ)) (acts : List Act) (s : Served)
    → is_some (get s.state.clients conn) ≡ true
    → Moves (OfClient conn) s (steps_told conn name acts s)
steps_moves conn name [] s here = none
steps_moves conn name (act ∷ acts) s here =
    next (step act) (steps_moves conn name acts (step_told conn name act s) (still act))
  where
    step : (act : Act) → Move (OfClient conn) s (step_told conn name act s)
    step (Answer reply) = answers conn (reply_text s.state.routes.name name reply) refl here
    step (Raw line) = answers conn line.items refl here
    step (Do effect) = does conn effect refl

    still : (act : Act) → is_some (get (step_told conn name act s).state.clients conn) ≡ true
    still (Answer reply) = here
    still (Raw line) = here
    still (Do effect) = same_clients effect s.state.clients conn ∙ here

module _ (view : View) (conn : ℕ) (message : Parsed) where
  user_so : (user : Option User) → is_some (get view.clients conn) ≡ true
      → IsServed view (of_client (says conn (Ok message))) [] (user_told view conn user message)
  user_so None here = ignores conn (Ok message)
  user_so (Some user) here =
      let decision = decide view.room (place_of view.routes) user.nick message in
      speaks conn (Ok message) decision.close view.clients here (λ q. refl)
      (steps_moves conn (Some user.nick) decision.steps (in_silence view) here)

  -- a client that is there is another one there
  same_there : (now : Client) → is_some (get view.clients conn) ≡ true → (q : ℕ)
      → is_some (get (insert view.clients conn now) q) ≡ is_some (get view.clients q)
  same_there now here q =
      ap is_some (get-with view.clients conn now q) ∙ at (same_number q conn) refl
    where
      at : (b : Bool) → same_number q conn ≡ b
          → is_some (cond b (Some now) (get view.clients q)) ≡ is_some (get view.clients q)
      at true it = sym (ap (λ n. is_some (get view.clients n)) (one_number q conn it) ∙ here)
      at false two = refl

  message_so : (client : Option Client) → get view.clients conn ≡ client
      → IsServed view (of_client (says conn (Ok message))) []
      (message_told view conn client message)
  message_so None there = ignores conn (Ok message)
  message_so (Some (Registering pending)) there =
      let given = register view.room (place_of view.routes) pending message in
      let now = client_after given given.pending.nick in
      let same = same_there now (ap is_some there) in
      speaks conn (Ok message) given.close (insert view.clients conn now) (ap is_some there) same
      (steps_moves conn given.pending.nick given.steps
      (in_silence (record view { clients = insert view.clients conn now }))
      (same conn ∙ ap is_some there))
  message_so (Some (Registered nick)) there =
      user_so (row view.room.users (key nick)) (ap is_some there)

quit_moves : (conn : ℕ) (user : Option (List ℕ)) (s : Served)
    → Moves (OfClient conn) s (quit_told user s)
quit_moves conn None s = none
quit_moves conn (Some nick) s = one (does conn (Quit nick lost_text) refl)

client_so : (view : View) (client_event : ClientEvent)
    → IsServed view (of_client client_event) [] (client_told view client_event)
unfolding client_told
client_so view (connects conn host) = seats conn host
client_so view (says conn (Ok message)) =
    message_so view conn message (client_of (machine_of view) conn) refl
client_so view (says conn (Err fault)) = ignores conn (Err fault)
client_so view (goes conn) = leaves conn
    (quit_moves conn (user_of view.room (client_of (machine_of view) conn))
    (in_silence (unseated conn view)))

-- ---- links

opened_so : (view : View) (number : ℕ) (starts : Option (List ℕ))
    → IsServed view (link_up number starts) (closing_opened view number starts)
    (link_opened view number starts)
opened_so view number None = opens_link number None []
opened_so view number (Some name) = either (is_none (password_for view name))
  where
    either : (b : Bool) → IsServed view (link_up number (Some name))
        (if b then (number, reason.UnknownPeer) ∷ [] else [])
        (if b then with_sent (end_of_link number reason.UnknownPeer ∷ []) (in_silence view)
        else with_sent (on_link number (opening_parts view name))
        (in_silence (with_end number (Some name) view)))
    either true = refuses_link number (Some name) reason.UnknownPeer
    either false = opens_link number (Some name) (opening_parts view name)

still : (ends : Ends) → AreStill ends ends
still ends = record { there = λ q. refl; met = λ q met. met }

-- an end that is there keeps something more, and counts if it counted
module _ (ends : Ends) (number : ℕ) (end changed_end : End) (there : get ends number ≡ Some end)
    (counts : is_met end ≡ true → is_met changed_end ≡ true) where
  changed_still : AreStill ends (insert ends number changed_end)
  changed_still = record {
    there = λ q. ap is_some (get-with ends number changed_end q)
        ∙ at q (same_number q number) refl;
    met = λ q met. subst IsMetEnd (sym (get-with ends number changed_end q))
        (met_at q (same_number q number) refl met);
  }
    where
      at : (q : ℕ) (b : Bool) → same_number q number ≡ b
          → is_some (cond b (Some changed_end) (get ends q)) ≡ is_some (get ends q)
      at q true it =
          sym (ap (λ n. is_some (get ends n)) (one_number q number it) ∙ ap is_some there)
      at q false two = refl

      met_at : (q : ℕ) (b : Bool) → same_number q number ≡ b → IsMetEnd (get ends q)
          → IsMetEnd (cond b (Some changed_end) (get ends q))
      met_at q true it met =
          counts (subst IsMetEnd (ap (get ends) (one_number q number it) ∙ there) met)
      met_at q false two met = met

  changed_there : get (insert ends number changed_end) number ≡ Some changed_end
  changed_there = get-with ends number changed_end number
      ∙ ap (λ b. cond b (Some changed_end) (get ends number)) (same_number-refl number)

module _ (view : View) (number : ℕ) (read : Result Parsed LineFault) (end : End)
    (there : get view.ends number ≡ Some end) where
  -- what comes of a line, where the end changes so
  abbrev OfLine : Closings → Served → Type 0
  OfLine closed s = IsServed view (link_says number read) closed s

  met_so : (name info : List ℕ) → OfLine [] (met_by number name info view)
  met_so name info =
      subst (λ (o : Option End). OfLine [] (told_by number (a_server view.routes.name name 1 1 info)
      (with_sent (on_link number (owes view number name)) (in_silence (named o))))) (sym there)
      (listens number read (insert view.ends number far_end) (owes view number name)
      (ap is_some there) (changed_still view.ends number end far_end there (λ met. refl))
      (told_by_moves number (a_server view.routes.name name 1 1 info)
      (with_sent (on_link number (owes view number name)) (in_silence (named (Some end))))
      (subst IsMetEnd (sym (changed_there view.ends number end far_end there (λ met. refl))) refl)))
    where
      far_end : End
      far_end = record end { far = Some name }

      named : Option End → View
      named o = option_map_or (λ (end : End).
          record view { ends = insert view.ends number (record end { far = Some name }) }) o view

  password_so : (word : List ℕ) → OfLine [] (in_silence (with_password number word view))
  password_so word =
      subst (λ (o : Option End). OfLine [] (in_silence (option_map_or (λ (end : End). record view {
        ends = insert view.ends number (record end { password = Some word });
      }) o view))) (sym there)
      (listens number read (insert view.ends number kept_end) [] (ap is_some there)
      (changed_still view.ends number end kept_end there (λ met. met)) none)
    where
      kept_end : End
      kept_end = record end { password = Some word }

  pub heard_so : (what : Heard) → IsHearable (Some end) what
      → OfLine (closing_heard number what) (after_heard view number what)
  heard_so ignored can = ignores_link number read
  heard_so (closes why) can = closes_link number read why (ap is_some there)
      (losses_moves number (with_sent (end_of_link number why ∷ []) (in_silence view)))
  heard_so (password word) can = password_so word
  heard_so (meets name info) can = met_so name info
  heard_so (tells told) can =
      listens number read view.ends [] (ap is_some there) (still view.ends)
      (all_told_moves number told (in_silence view) (subst IsMetEnd (sym there) can))

line_so : (view : View) (number : ℕ) (read : Result Parsed LineFault) (end : Option End)
    → get view.ends number ≡ end
    → IsServed view (link_says number read) (closing_by_line view number read end)
    (line_served view number read end)
line_so view number read None there = ignores_link number read
line_so view number read (Some end) there =
    heard_so view number read end there (heard view number end read)
    (hearable view number end read)

-- Whatever is served is so, and closes what is due.
pub served_by_moves : (view : View) (read_event : ReadEvent)
    → IsServed view read_event (closings_due view read_event) (served view read_event)
unfolding served
served_by_moves view (of_client client_event) = client_so view client_event
served_by_moves view (link_up number starts) = opened_so view number starts
served_by_moves view (link_says number read) =
    line_so view number read (get view.ends number) refl
served_by_moves view (link_down number) = loses_link number (losses_moves number (in_silence view))

-- ---- a line by which a server sets

-- what it closes; any other closes what it closes elsewhere
abbrev pub closing_set : ℕ → Closings → Option SettingRead → Closings
closing_set number due None = due
closing_set number due (Some (Err why)) = (number, why) ∷ []
closing_set number due (Some (Ok what)) = []

setting_moves : (number : ℕ) (what : Setting) (s : Served)
    → Moves OfLinks s (setting_told number what s)
setting_moves number what s =
    followed_by (spelled what) (followed_by
    (all_changed_moves OfLinks (Some number) tt (setting_effects what) (spelled_by what s))
    (one (tells_on (Some number) (setting_parts what) tt)))
  where
    spelled : (what : Setting) → Moves OfLinks s (spelled_by what s)
    spelled (setting.Modes server channel changes) = none
    spelled (setting.Topic server channel words) = none
    spelled (setting.Spelling server channel) = one (respells (Some number) channel tt)
    spelled (setting.Removal server channel nick words) = none

pub set_by_moves : (view : View) (number : ℕ) (read : Result Parsed LineFault) (end : Option End)
    → get view.ends number ≡ end
    → IsServed view (link_says number read)
    (closing_set number (closing_by_line view number read end) (read_at view number read end))
    (line_set view number read end)
set_by_moves view number read None there = ignores_link number read
set_by_moves view number read (Some end) there = by (setting_read view number end read)
  where
    by : (what : Option SettingRead) → IsServed view (link_says number read)
        (closing_set number (closing_by_line view number read (Some end)) what)
        (after_setting view number (line_served view number read (Some end)) what)
    by None = line_so view number read (Some end) there
    by (Some (Err why)) = heard_so view number read end there (closes why) tt
    by (Some (Ok None)) = ignores_link number read
    by (Some (Ok (Some what))) =
        listens number read view.ends [] (ap is_some there) (still view.ends)
        (setting_moves number what (in_silence view))
