-- Nothing is put out to a client behind its end: who was ended is a client no more, and nothing is
-- put out to one that is none.
use Rattle.std.proofs.Common.{◌≡◌, ℕ, Bool, true, false, cond, not, is_none, is_some, nat_eq}
use Rattle.std.proofs.Common.{Option, Some, None, Ok, Err, List, [], ◌∷◌, ◌++◌, append-nil, refl}
use Rattle.std.proofs.Common.{sym, ◌∙◌, ap, option_map, if◌then◌else◌}
use Rattle.std.proofs.lemmas.Bool.{eq-eqb, eqb-true}
use Rattle.std.specs.Cmp.{nat_cmp_total, unsigned_tied}
use Rattle.std.specs.FinMap.{get, get-insert, get-remove, remove, retain_keys}
use Rattle.std.specs.List.{flat_map}
use Rattle.std.specs.Option.{option_map_or}
use Rattle.irc_names.specs.Lemmas.PlainFacts.{none_if_not_some, nat_eq-turned}
use Rattle.irc_batch.specs.Batches.{Sent, end_of, end_of_link, line_to}
use Rattle.irc_batch.specs.declared.close_reason.CloseReason.TheVariants as reason
use Rattle.irc_names.specs.Fold.{key}
use Rattle.irc_names.specs.Tables.{row}
use Rattle.irc_line.specs.Messages.{Parsed, Written}
use Rattle.irc_users.specs.declared.user.User.{User}
use Rattle.irc_numerics.specs.Replies.{reply_text}
use Rattle.irc_merge.specs.Deeds.{Deed, does, gains, loses, kills, brings, sets, tops, effects_of}
use Rattle.irc_merge.specs.Quits.{collision_text}
use Rattle.irc_room.specs.effect.Effect.{Effect}
use Rattle.irc_room.specs.effect.Effect.TheVariants.{Rename, Quit}
use Rattle.irc_room.specs.Effects.{has_user}
use Rattle.irc_room.specs.Seen.{Showing, seen}
use Rattle.irc_routes.specs.Known.{place_of}
use Rattle.irc_acts.specs.declared.act.Act.{Act}
use Rattle.irc_acts.specs.declared.act.Act.TheVariants.{Answer, Raw, Do}
use Rattle.irc_burst.specs.DeedsMeant.{Told, a_deed, a_server}
use Rattle.irc_burst_lines.specs.DeedLines.{deed_parts}
use Rattle.irc_commands.specs.Decide.{decide}
use Rattle.irc_commands.specs.Closing.{error_line}
use Rattle.irc_commands.specs.Register.{register}
use Rattle.irc_link_writer.specs.Written.{wire}
use Rattle.irc_stage.specs.Ways.{but, met_links}
use Rattle.irc_stage.specs.declared.clients.Client.{Client}
use Rattle.irc_stage.specs.declared.clients.Client.TheVariants.{Registering, Registered}
use Rattle.irc_stage.specs.Lemmas.Counting.{get-kept}
use Rattle.irc_stage.specs.Lemmas.Numbers.{get-each}
use Rattle.irc_stage.specs.RoomMachine.{Clients, client_of}
use Rattle.irc_stage.specs.View.{End, View, machine_of, password_for, with_end}
use Rattle.irc_stage.specs.Handle.{ClientEvent, connects, says, goes, client_after, clients_after}
use Rattle.irc_stage.specs.Handle.{fresh, is_client, lost_text, renamed_in, to_viewer, user_of}
use Rattle.irc_stage.specs.EffectTold.{Served, all_changed, changed, changed_if, client_ended}
use Rattle.irc_stage.specs.EffectTold.{counts, effect_came, effect_told, ends_of, in_silence}
use Rattle.irc_stage.specs.EffectTold.{is_another, is_elsewhere, on_links, quit_by, shown_at}
use Rattle.irc_stage.specs.EffectTold.{taken_out, view_after, ways_at, with_sent}
use Rattle.irc_stage.specs.Linked.{is_taken, told_on_all, with_far, with_password, with_row}
use Rattle.irc_stage.specs.ClientTold.{client_told, closed_told, message_told, quit_told, seated}
use Rattle.irc_stage.specs.ClientTold.{step_told, steps_told, unseated, user_told}
use Rattle.irc_server.specs.DeedTold.{all_told, arrival_of, deed_told, deeds_told, forgotten}
use Rattle.irc_server.specs.DeedTold.{gain_told, link_lost, lost_behind, titled_view, told_by}
use Rattle.irc_server.specs.Heard.{Heard, ignored, closes, password, meets, tells, heard}
use Rattle.irc_server.specs.LinkServed.{after_heard, line_served, link_opened, on_link}
use Rattle.irc_server.specs.LinkServed.{opening_parts, owes}
use Rattle.irc_server.specs.Served.{of_client, link_up, link_says, link_down, served}
use Rattle.irc_numbers.specs.EndsLast.{NothingIsBehindAnEnd, ends_last}
use Rattle.irc_numbers.specs.ServedAlike.{client_part}
use Rattle.irc_numbers.proofs.Parts.{chosen_part, client_part-append, to_no_client}

abbrev Share : Type 0
Share = List (Option (List ℕ))

abbrev its_end : Share
its_end = None ∷ []

-- whether there is an end among it
abbrev has_end : Share → Bool
has_end [] = false
has_end (Some line ∷ part) = has_end part
has_end (None ∷ part) = true

last_behind : (one other : Share) → has_end one ≡ false → ends_last (one ++ other) ≡ ends_last other
last_behind [] other is = refl
last_behind (Some line ∷ one) other is = last_behind one other is
last_behind (None ∷ one) other is = cc is

end_behind : (one other : Share) → has_end one ≡ false → has_end (one ++ other) ≡ has_end other
end_behind [] other is = refl
end_behind (Some line ∷ one) other is = end_behind one other is
end_behind (None ∷ one) other is = cc is

lines_last : (part : Share) → has_end part ≡ false → ends_last part ≡ true
lines_last [] is = refl
lines_last (Some line ∷ part) is = lines_last part is
lines_last (None ∷ part) is = cc is

-- an effect leaves each client one
as_there : (effect : Effect) (clients : Clients) (k : ℕ)
    → is_some (get (clients_after effect clients) k) ≡ is_some (get clients k)
as_there (Rename nick new) clients k = ap is_some (get-each (renamed_in nick new) clients k)
    ∙ by (get clients k)
  where
    by : (o : Option Client) → is_some (option_map (renamed_in nick new) o) ≡ is_some o
    by None = refl
    by (Some client) = refl
as_there other clients k = refl

module _ (conn : ℕ) where
  -- nothing is behind an end so far, and who was ended is a client no more
  record IsOrderly (s : Served) : Type 0 where
    last : ends_last (client_part conn s.out) ≡ true
    ended : has_end (client_part conn s.out) ≡ true → get s.state.clients conn ≡ None

  -- what is put out in a step
  record Puts (old : View) (more : List Sent) (new : View) : Type 0 where
    stays_none : get old.clients conn ≡ None → get new.clients conn ≡ None
    to_none : get old.clients conn ≡ None → client_part conn more ≡ []
    last : ends_last (client_part conn more) ≡ true
    ended : has_end (client_part conn more) ≡ true → get new.clients conn ≡ None

  abbrev Keeps : (Served → Served) → Type 0
  Keeps serve = (s : Served) → IsOrderly s → IsOrderly (serve s)

  then_more : (s : Served) (new : View) (more : List Sent) → IsOrderly s → Puts s.state more new
      → IsOrderly (record { state = new; out = s.out ++ more })
  then_more s new more orderly puts = by (get s.state.clients conn) refl
    where
      all : client_part conn (s.out ++ more) ≡ client_part conn s.out ++ client_part conn more
      all = client_part-append conn s.out more

      by : (o : Option Client) → get s.state.clients conn ≡ o
          → IsOrderly (record { state = new; out = s.out ++ more })
      by None is = record {
        last = ap ends_last (all ∙ ap (λ part. client_part conn s.out ++ part) (puts.to_none is)
            ∙ append-nil (client_part conn s.out)) ∙ orderly.last;
        ended = λ has. puts.stays_none is;
      }
      by (Some client) is = record {
        last = ap ends_last all
            ∙ last_behind (client_part conn s.out) (client_part conn more) none_ended ∙ puts.last;
        ended = λ has. puts.ended (sym (ap has_end all
            ∙ end_behind (client_part conn s.out) (client_part conn more) none_ended) ∙ has);
      }
        where
          none_ended : has_end (client_part conn s.out) ≡ false
          none_ended = by_end (has_end (client_part conn s.out)) refl
            where
              by_end : (b : Bool) → has_end (client_part conn s.out) ≡ b → b ≡ false
              by_end true has = cc (sym is ∙ orderly.ended has)
              by_end false has = refl

  -- nothing is put out to it
  puts_nothing : (old new : View) (more : List Sent) → (get old.clients conn ≡ None
      → get new.clients conn ≡ None) → client_part conn more ≡ [] → Puts old more new
  puts_nothing old new more stays none = record {
    stays_none = stays;
    to_none = λ is. none;
    last = ap ends_last none;
    ended = λ has. cc (sym (ap has_end none) ∙ has);
  }

  -- ---- effects

  viewer_is : (clients : Clients) (showing : Showing)
      → client_part conn (to_viewer clients showing)
      ≡ option_map_or (λ (c : Client). if is_client showing.viewer c then Some showing.line ∷ []
      else []) (get clients conn) []
  viewer_is clients showing = chosen_part (is_client showing.viewer) (λ n. line_to n showing.line)
      (Some showing.line ∷ []) (λ n c. refl) conn clients

  viewer_lines : (clients : Clients) (showing : Showing)
      → has_end (client_part conn (to_viewer clients showing)) ≡ false
  viewer_lines clients showing = ap has_end (viewer_is clients showing) ∙ by (get clients conn)
    where
      by_test : (b : Bool) → has_end (if b then Some showing.line ∷ [] else []) ≡ false
      by_test true = refl
      by_test false = refl

      by : (o : Option Client) → has_end (option_map_or (λ (c : Client).
          if is_client showing.viewer c then Some showing.line ∷ [] else []) o []) ≡ false
      by None = refl
      by (Some client) = by_test (is_client showing.viewer client)

  shown_lines : (clients : Clients) (showings : List Showing)
      → has_end (client_part conn (flat_map (to_viewer clients) showings)) ≡ false
  shown_lines clients [] = refl
  shown_lines clients (showing ∷ showings) =
      ap has_end (client_part-append conn (to_viewer clients showing)
      (flat_map (to_viewer clients) showings))
      ∙ end_behind (client_part conn (to_viewer clients showing))
      (client_part conn (flat_map (to_viewer clients) showings)) (viewer_lines clients showing)
      ∙ shown_lines clients showings

  shown_none : (clients : Clients) → get clients conn ≡ None → (showings : List Showing)
      → client_part conn (flat_map (to_viewer clients) showings) ≡ []
  shown_none clients none [] = refl
  shown_none clients none (showing ∷ showings) =
      client_part-append conn (to_viewer clients showing) (flat_map (to_viewer clients) showings)
      ∙ ap (λ part. part ++ client_part conn (flat_map (to_viewer clients) showings))
      (viewer_is clients showing ∙ ap (λ o. option_map_or (λ (c : Client).
      if is_client showing.viewer c then Some showing.line ∷ [] else []) o []) none)
      ∙ shown_none clients none showings

  effect_puts : (view : View) (effect : Effect)
      → Puts view (shown_at view effect) (view_after view effect)
  effect_puts view effect = by (is_elsewhere view effect)
    where
      stays : get view.clients conn ≡ None → get (clients_after effect view.clients) conn ≡ None
      stays none = none_if_not_some (get (clients_after effect view.clients) conn)
          (as_there effect view.clients conn ∙ ap is_some none)

      by : (b : Bool) → Puts view (if b then []
          else flat_map (to_viewer view.clients) (seen view.room effect)) (view_after view effect)
      by true = puts_nothing view (view_after view effect) [] stays refl
      by false = record {
        stays_none = stays;
        to_none = λ none. shown_none view.clients none (seen view.room effect);
        last = lines_last (client_part conn (flat_map (to_viewer view.clients)
            (seen view.room effect))) (shown_lines view.clients (seen view.room effect));
        ended = λ has. cc (sym (shown_lines view.clients (seen view.room effect)) ∙ has);
      }

  changed_orderly : (effect : Effect) → Keeps (changed effect)
  changed_orderly effect s orderly = then_more s (view_after s.state effect)
      (shown_at s.state effect) orderly (effect_puts s.state effect)

  -- what goes on links goes to no client
  on_links_orderly : (links : List ℕ) (parts : Written) → Keeps (with_sent (on_links links parts))
  on_links_orderly links parts s orderly =
      then_more s s.state (on_links links parts) orderly (puts_nothing s.state s.state
      (on_links links parts) (λ none. none) (to_no_client conn parts links))

  effect_orderly : (arrival : Option ℕ) (effect : Effect) → Keeps (effect_told arrival effect)
  effect_orderly arrival effect s orderly =
      on_links_orderly (ways_at s.state arrival effect) (wire s.state.room s.state.routes effect)
      (changed effect s) (changed_orderly effect s orderly)

  if_orderly : (serve : Served → Served) (s : Served) → IsOrderly s → IsOrderly (serve s)
      → (b : Bool) → IsOrderly (if b then serve s else s)
  if_orderly serve s orderly done true = done
  if_orderly serve s orderly done false = orderly

  came_orderly : (arrival : Option ℕ) (effect : Effect) → Keeps (effect_came arrival effect)
  came_orderly arrival effect s orderly =
      if_orderly (effect_told arrival effect) s orderly (effect_orderly arrival effect s orderly)
      (counts s.state effect)

  all_orderly : (effects : List Effect) → Keeps (all_changed effects)
  all_orderly [] s orderly = orderly
  all_orderly (effect ∷ effects) s orderly =
      all_orderly effects (changed_if effect s) (if_orderly (changed effect) s orderly
      (changed_orderly effect s orderly) (counts s.state effect))

  told_orderly : (arrival : Option ℕ) (parts : Written) → Keeps (told_on_all arrival parts)
  told_orderly arrival parts s orderly =
      on_links_orderly (but arrival (met_links s.state.ends)) parts s orderly

  -- ---- a user is killed

  module _ (nick text : List ℕ) (view : View) where
    abbrev why : Showing
    why = record { viewer = nick; line = error_line text }

    abbrev kept : Clients
    kept = retain_keys view.clients (is_another view.clients nick)

    abbrev told_why : Option Client → Share
    told_why o = option_map_or (λ (c : Client). if is_client nick c then Some (error_line text) ∷ []
        else []) o []

    abbrev told_end : Option Client → Share
    told_end o = option_map_or (λ (c : Client). if is_client nick c then its_end else []) o []

    abbrev left : Option Client → Option Client
    left o = cond (option_map_or (λ client. not (is_client nick client)) o true) o None

    ends_are : client_part conn (to_viewer view.clients why ++ ends_of nick view.clients)
        ≡ told_why (get view.clients conn) ++ told_end (get view.clients conn)
    ends_are =
        client_part-append conn (to_viewer view.clients why) (ends_of nick view.clients)
        ∙ ap (λ part. part ++ client_part conn (ends_of nick view.clients))
        (viewer_is view.clients why)
        ∙ ap (λ part. told_why (get view.clients conn) ++ part)
        (chosen_part (is_client nick) end_of its_end (λ n c. refl) conn view.clients)

    left_is : get kept conn ≡ left (get view.clients conn)
    left_is = get-kept view.clients (is_another view.clients nick) conn

    last_of : (o : Option Client) → ends_last (told_why o ++ told_end o) ≡ true
    last_of None = refl
    last_of (Some client) = by (is_client nick client)
      where
        by : (b : Bool) → ends_last
            ((if b then Some (error_line text) ∷ [] else []) ++ (if b then its_end else [])) ≡ true
        by true = refl
        by false = refl

    gone_of : (o : Option Client) → has_end (told_why o ++ told_end o) ≡ true → left o ≡ None
    gone_of None has = refl
    gone_of (Some client) has = by (is_client nick client) has
      where
        by : (b : Bool) → has_end ((if b then Some (error_line text) ∷ [] else [])
            ++ (if b then its_end else [])) ≡ true → cond (not b) (Some client) None ≡ None
        by true has = refl
        by false has = cc has

    ended_puts : Puts view (to_viewer view.clients why ++ ends_of nick view.clients)
        (record view { clients = kept })
    ended_puts = record {
      stays_none = λ none. left_is ∙ ap left none;
      to_none = λ none. ends_are ∙ ap (λ o. told_why o ++ told_end o) none;
      last = ap ends_last ends_are ∙ last_of (get view.clients conn);
      ended = λ has. left_is ∙ gone_of (get view.clients conn) (sym (ap has_end ends_are) ∙ has);
    }

  taken_orderly : (nick text : List ℕ) → Keeps (taken_out nick text)
  taken_orderly nick text s orderly =
      let left = quit_by nick text s in
      then_more left (client_ended nick text left).state
      (to_viewer left.state.clients (record { viewer = nick; line = error_line text })
      ++ ends_of nick left.state.clients)
      (if_orderly (changed (Quit nick text)) s orderly (changed_orderly (Quit nick text) s orderly)
      (has_user s.state.room nick))
      (ended_puts nick text left.state)

  -- ---- what comes by links

  deed_orderly : (arrival : Option ℕ) (deed : Deed) → Keeps (deed_told arrival deed)
  unfolding deed_told
  deed_orderly arrival (does effect) s orderly = came_orderly arrival effect s orderly
  deed_orderly arrival (gains uplink name info) s orderly = orderly
  deed_orderly arrival (loses server name text) s orderly =
      let left = all_changed (effects_of s.state.room (loses server name text)) s in
      let done = all_orderly (effects_of s.state.room (loses server name text)) s orderly in
      told_orderly arrival (deed_parts s.state.room s.state.routes (loses server name text))
      (forgotten name left)
      (record { last = done.last; ended = done.ended })
  deed_orderly arrival (kills server nick) s orderly =
      told_orderly arrival (deed_parts s.state.room s.state.routes (kills server nick))
      (taken_out nick collision_text s)
      (taken_orderly nick collision_text s orderly)
  deed_orderly arrival (brings server channel members) s orderly =
      let effects = effects_of s.state.room (brings server channel members) in
      let spelled = titled_view channel s in
      told_orderly arrival (deed_parts s.state.room s.state.routes (brings server channel members))
      (all_changed effects spelled)
      (all_orderly effects spelled (record { last = orderly.last; ended = orderly.ended }))
  deed_orderly arrival (sets server channel changes) s orderly =
      let effects = effects_of s.state.room (sets server channel changes) in
      told_orderly arrival (deed_parts s.state.room s.state.routes (sets server channel changes))
      (all_changed effects s) (all_orderly effects s orderly)
  deed_orderly arrival (tops server channel topic) s orderly =
      let effects = effects_of s.state.room (tops server channel topic) in
      told_orderly arrival (deed_parts s.state.room s.state.routes (tops server channel topic))
      (all_changed effects s) (all_orderly effects s orderly)

  deeds_orderly : (arrival : Option ℕ) (deeds : List Deed) → Keeps (deeds_told arrival deeds)
  deeds_orderly arrival [] s orderly = orderly
  deeds_orderly arrival (deed ∷ deeds) s orderly =
      deeds_orderly arrival deeds (deed_told arrival deed s) (deed_orderly arrival deed s orderly)

  told_by_orderly : (link : ℕ) (told : Told) → Keeps (told_by link told)
  unfolding told_by
  told_by_orderly link (a_deed deed) s orderly =
      deed_orderly (arrival_of s.state.routes.name link deed) deed s orderly
  told_by_orderly link (a_server uplink name distance token info) s orderly =
      by (is_taken s.state.routes link name token)
    where
      by : (b : Bool) → IsOrderly (if b then gain_told link uplink name info
          (record s { state = with_row link uplink name distance token info s.state }) else s)
      by true =
          let known : Served =
          record s { state = with_row link uplink name distance token info s.state } in
          told_orderly (Some link)
          (deed_parts known.state.room known.state.routes (gains uplink name info)) known
          (record { last = orderly.last; ended = orderly.ended })
      by false = orderly

  all_told_orderly : (link : ℕ) (told : List Told) → Keeps (all_told link told)
  all_told_orderly link [] s orderly = orderly
  all_told_orderly link (told ∷ later) s orderly =
      all_told_orderly link later (told_by link told s) (told_by_orderly link told s orderly)

  lost_orderly : (link : ℕ) → Keeps (link_lost link)
  lost_orderly link s orderly =
      let done =
      deeds_orderly (Some link) (lost_behind s.state link (get s.state.ends link)) s orderly in
      record { last = done.last; ended = done.ended }

  silent_orderly : (view : View) → IsOrderly (in_silence view)
  silent_orderly view = record { last = refl; ended = λ has. cc has }

  -- lines on one link
  no_line : (link : ℕ) (lines : List Written) → client_part conn (on_link link lines) ≡ []
  no_line link [] = refl
  no_line link (parts ∷ lines) = no_line link lines

  on_link_orderly : (link : ℕ) (lines : List Written) → Keeps (with_sent (on_link link lines))
  on_link_orderly link lines s orderly =
      then_more s s.state (on_link link lines) orderly
      (puts_nothing s.state s.state (on_link link lines) (λ none. none) (no_line link lines))

  heard_orderly : (view : View) (link : ℕ) (it : Heard) → IsOrderly (after_heard view link it)
  heard_orderly view link ignored = silent_orderly view
  heard_orderly view link (closes why) =
      lost_orderly link (with_sent (end_of_link link why ∷ []) (in_silence view))
      (record { last = refl; ended = λ has. cc has })
  heard_orderly view link (password word) = silent_orderly (with_password link word view)
  heard_orderly view link (meets name info) =
      told_by_orderly link (a_server view.routes.name name 1 1 info)
      (with_sent (on_link link (owes view link name)) (in_silence (with_far link name view)))
      (on_link_orderly link (owes view link name) (in_silence (with_far link name view))
      (silent_orderly (with_far link name view)))
  heard_orderly view link (tells told) =
      all_told_orderly link told (in_silence view) (silent_orderly view)

  opened_orderly : (view : View) (link : ℕ) (starts : Option (List ℕ))
      → IsOrderly (link_opened view link starts)
  opened_orderly view link None = silent_orderly (with_end link None view)
  opened_orderly view link (Some name) = by (is_none (password_for view name))
    where
      by : (b : Bool)
          → IsOrderly
          (if b then with_sent (end_of_link link reason.UnknownPeer ∷ []) (in_silence view)
          else with_sent (on_link link (opening_parts view name))
          (in_silence (with_end link (Some name) view)))
      by true = record { last = refl; ended = λ has. cc has }
      by false =
          on_link_orderly link (opening_parts view name) (in_silence
          (with_end link (Some name) view)) (silent_orderly (with_end link (Some name) view))

  -- ---- what clients do

  module _ (client : ℕ) where
    -- a line to it
    line_orderly : (line : List ℕ) (s : Served) → IsOrderly s → is_some (get s.state.clients client)
        ≡ true → IsOrderly (with_sent (line_to client line ∷ []) s)
    line_orderly line s orderly there =
        then_more s s.state (line_to client line ∷ []) orderly (by (nat_eq client conn) refl)
      where
        by : (b : Bool) → nat_eq client conn ≡ b → Puts s.state (line_to client line ∷ []) s.state
        by true one = record {
          stays_none = λ none. none;
          to_none = λ none. cc (sym there ∙ ap (λ n. is_some (get s.state.clients n))
              (eqb-true client conn one) ∙ ap is_some none);
          last = ap (λ b. ends_last ((if b then Some line ∷ [] else []) ++ [])) one;
          ended = λ has.
              cc (sym (ap (λ b. has_end ((if b then Some line ∷ [] else []) ++ [])) one) ∙ has);
        }
        by false two = puts_nothing s.state s.state (line_to client line ∷ []) (λ none. none)
            (ap (λ b. (if b then Some line ∷ [] else []) ++ []) two)

    -- its end
    end_orderly : (s : Served) → IsOrderly s → is_some (get s.state.clients client) ≡ true
        → IsOrderly (closed_told true client s)
    end_orderly s orderly there = then_more s (unseated client s.state) (end_of client ∷ []) orderly
        (by (nat_eq client conn) refl)
      where
        left_is : get (remove s.state.clients client) conn ≡ cond (nat_eq client conn) None
            (get s.state.clients conn)
        left_is = get-remove nat_cmp_total s.state.clients client conn ∙ ap (λ b. cond b None
            (get s.state.clients conn)) (unsigned_tied conn client ∙ nat_eq-turned conn client)

        stays : get s.state.clients conn ≡ None → get (remove s.state.clients client) conn ≡ None
        stays none =
            left_is ∙ ap (cond (nat_eq client conn) None) none ∙ none_twice (nat_eq client conn)
          where
            none_twice : (b : Bool) → ◌≡◌ {A = Option Client} (cond b None None) None
            none_twice true = refl
            none_twice false = refl

        by : (b : Bool) → nat_eq client conn ≡ b
            → Puts s.state (end_of client ∷ []) (unseated client s.state)
        by true one = record {
          stays_none = stays;
          to_none = λ none. cc (sym there ∙ ap (λ n. is_some (get s.state.clients n))
              (eqb-true client conn one) ∙ ap is_some none);
          last = ap (λ b. ends_last ((if b then its_end else []) ++ [])) one;
          ended = λ has. left_is ∙ ap (λ b. cond b None (get s.state.clients conn)) one;
        }
        by false two = puts_nothing s.state (unseated client s.state) (end_of client ∷ []) stays
            (ap (λ b. (if b then its_end else []) ++ []) two)

    step_orderly : (name : Option (List ℕ)) (act : Act) (s : Served) → IsOrderly s
        → is_some (get s.state.clients client) ≡ true → IsOrderly (step_told client name act s)
    step_orderly name (Answer reply) s orderly there =
        line_orderly (reply_text s.state.routes.name name reply) s orderly there
    step_orderly name (Raw line) s orderly there = line_orderly line.items s orderly there
    step_orderly name (Do effect) s orderly there = effect_orderly None effect s orderly

    step_there : (name : Option (List ℕ)) (act : Act) (s : Served) → is_some (get
        (step_told client name act s).state.clients client) ≡ is_some (get s.state.clients client)
    step_there name (Answer reply) s = refl
    step_there name (Raw line) s = refl
    step_there name (Do effect) s = as_there effect s.state.clients client

    carried_orderly : (close : Bool) (name : Option (List ℕ)) (acts : List Act) (s : Served)
        → IsOrderly s → is_some (get s.state.clients client) ≡ true
        → IsOrderly (closed_told close client (steps_told client name acts s))
    carried_orderly true name [] s orderly there = end_orderly s orderly there
    carried_orderly false name [] s orderly there = orderly
    carried_orderly close name (act ∷ acts) s orderly there =
        carried_orderly close name acts (step_told client name act s)
        (step_orderly name act s orderly there) (step_there name act s ∙ there)

    user_orderly : (view : View) (user : Option User) (message : Parsed)
        → is_some (get view.clients client) ≡ true → IsOrderly (user_told view client user message)
    user_orderly view None message there = silent_orderly view
    user_orderly view (Some user) message there =
        let decision = decide view.room (place_of view.routes) user.nick message in
        carried_orderly decision.close (Some user.nick) decision.steps (in_silence view)
        (silent_orderly view) there

    message_orderly : (view : View) (who : Option Client) (message : Parsed)
        → get view.clients client ≡ who → IsOrderly (message_told view client who message)
    message_orderly view None message is = silent_orderly view
    message_orderly view (Some (Registering pending)) message is =
        let given = register view.room (place_of view.routes) pending message in
        let who = client_after given given.pending.nick in
        let now = seated client who view in
        carried_orderly given.close given.pending.nick given.steps (in_silence now)
        (silent_orderly now)
        (ap is_some (get-insert nat_cmp_total view.clients client who client)
        ∙ ap (λ b. is_some (cond b (Some who) (get view.clients client)))
        (unsigned_tied client client ∙ eq-eqb client client refl))
    message_orderly view (Some (Registered nick)) message is =
        user_orderly view (row view.room.users (key nick)) message (ap is_some is)

    quit_orderly : (view : View) (user : Option (List ℕ))
        → IsOrderly (quit_told user (in_silence view))
    quit_orderly view None = silent_orderly view
    quit_orderly view (Some nick) =
        effect_orderly None (Quit nick lost_text) (in_silence view) (silent_orderly view)

  client_orderly : (view : View) (client_event : ClientEvent)
      → IsOrderly (client_told view client_event)
  unfolding client_told
  client_orderly view (connects client host) = silent_orderly (seated client (fresh host) view)
  client_orderly view (says client (Ok message)) =
      message_orderly client view (client_of (machine_of view) client) message refl
  client_orderly view (says client (Err fault)) = silent_orderly view
  client_orderly view (goes client) = quit_orderly client (unseated client view)
      (user_of view.room (client_of (machine_of view) client))

pub nothing_is_behind_an_end : NothingIsBehindAnEnd
unfolding served
nothing_is_behind_an_end view (of_client client_event) conn =
    (client_orderly conn view client_event).last
nothing_is_behind_an_end view (link_up link starts) conn =
    (opened_orderly conn view link starts).last
nothing_is_behind_an_end view (link_says link read) conn = by (get view.ends link)
  where
    by : (o : Option End) → ends_last (client_part conn (line_served view link read o).out) ≡ true
    by None = refl
    by (Some end) = (heard_orderly conn view link (heard view link end read)).last
nothing_is_behind_an_end view (link_down link) conn =
    (lost_orderly conn link (in_silence view) (silent_orderly conn view)).last
