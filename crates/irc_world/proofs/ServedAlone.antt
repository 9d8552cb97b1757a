-- A network of one server is that server.
use Rattle.std.proofs.Common.{◌≡◌, ℕ, suc, true, false, cond, ◌&&◌, Option, Some, None, List, []}
use Rattle.std.proofs.Common.{◌∷◌, ◌++◌, length, refl, sym, ◌∙◌, ap, subst, is_some, if◌then◌else◌}
use Rattle.std.proofs.Common.{option_map, inl, inr}
use Rattle.std.specs.Prelude.{option_to_list}
use Rattle.std.specs.List.{slice_get}
use Rattle.std.specs.Option.{option_map_or, option_and_then}
use Rattle.std.specs.Cmp.Lexicographic.{nat_list_cmp_total}
use Rattle.std.specs.FinMap.{get, empty, values, get-empty, get-from_entries}
use Rattle.irc_names.specs.Tables.{fold_cmp, put, tabulate}
use Rattle.irc_names.specs.TableLaws.{same_fold, same_table, row-put}
use Rattle.irc_tables.specs.FoldedRows.{table_of, IsInFoldedOrder}
use Rattle.irc_line.specs.Reading.{read_of}
use Rattle.irc_relay.specs.Links.{Name, Link, part, distance, AreLinked, IsForest}
use Rattle.irc_relay.specs.Links.{linked as are_linked}
use Rattle.irc_relay.specs.Lemmas.TellingNames.{alike, unlike, tell, same_when}
use Rattle.irc_room.specs.Room.{Room}
use Rattle.irc_routes.specs.About.{says_nothing}
use Rattle.irc_routes.specs.Known.{others, by_name, place_of}
use Rattle.irc_routes.specs.Laws.{AloneIsAlone}
use Rattle.irc_routes.specs.Place.{KnownServer, Place, alone}
use Rattle.irc_routes.specs.Lemmas.TableRows.{values-table_of}
use Rattle.irc_stage.specs.declared.clients.Client.{Client}
use Rattle.irc_stage.specs.RoomMachine.{Clients, RoomMachine, client_of}
use Rattle.irc_stage.specs.View.{View, machine_of}
use Rattle.irc_stage.specs.Handle.{ClientEvent, connects, says, goes, handled}
use Rattle.irc_stage.specs.Lemmas.Alone.{knows_no_other}
use Rattle.irc_server.specs.Served.{Served, of_client, served, LoneServerIsOneRoom, SaysTheSame}
use Rattle.irc_server.specs.Owed.{lines_to}
use Rattle.irc_server.specs.Owed.{lines_owed as owed_by_server}
use Rattle.irc_world.specs.World.{Setting, Hall, World, new_world, setting_of, is_server, home_of}
use Rattle.irc_world.specs.World.{known_from, joined_place, place_at, machine_at}
use Rattle.irc_world.specs.Stepping.{Item, connect, line, gone, link, cut, Stepped, step}
use Rattle.irc_world.specs.Stepping.{still as unmoved, by_machine, by_client}
use Rattle.irc_world.specs.Refused.{refused, open_client, no_such_client, no_such_server}
use Rattle.irc_world.specs.Refused.{not_linked}
use Rattle.irc_world.specs.Owed.{owed_by_network, owed_from}
use Rattle.irc_world.specs.Sound.{IsSound, AreTaken}
use Rattle.irc_world.specs.Laws.{StepStaysSound}
use Rattle.irc_world.specs.OneServer.{lone_view, IsTheServer, OneServerHasNoLink, IsServed}
use Rattle.irc_world.specs.OneServer.{OneServerIsTheNetwork, client_events_from, OneServerOwes}
use Rattle.irc_world.proofs.Halls.{hall_with}
use Rattle.irc_world.proofs.StaysSound.{new_world_is_sound, if_taken, server_known, link_taken}

-- ---- its place

found : (setting : Setting) → setting_of (setting ∷ []) setting.name ≡ Some setting
found setting = ap (λ b. cond b (Some setting) None) (same_when setting.name setting.name refl)

pub one_name : (setting : Setting) (server : Name) → is_server (setting ∷ []) server ≡ true
    → setting.name ≡ server
one_name setting server known = elim (tell setting.name server) [
  | alike _ is ↦ is
  | unlike two _ ↦ absurd (let none : false ≡ true = ap (λ b. is_some (cond b (Some setting) None))
      (sym two) ∙ known in cc none)
]

abbrev itself_known : Setting → KnownServer
itself_known setting = record { name = setting.name; info = setting.about.info; distance = 0 }

known_alone : (setting : Setting)
    → known_from (setting ∷ []) [] setting.name setting.name ≡ Some (itself_known setting)
unfolding distance
known_alone setting =
    ap (λ b. if b then option_map (λ (s : Setting). record {
      name = s.name;
      info = s.about.info;
      distance = distance [] setting.name setting.name;
    })
    (setting_of (setting ∷ []) setting.name)
    else None) (same_when (part [] setting.name) (part [] setting.name) refl)
    ∙ ap (option_map (λ (s : Setting). record {
      name = s.name;
      info = s.about.info;
      distance = distance [] setting.name setting.name;
    })) (found setting)

one_row : (k : KnownServer) → put empty k.name (Some k) ≡ table_of by_name (k ∷ [])
unfolding table_of
one_row k = same_table (put empty k.name (Some k)) (table_of by_name (k ∷ [])) (λ q.
    row-put empty k.name (Some k) q
    ∙ ap (cond (same_fold q k.name) (Some k)) (get-empty fold_cmp q)
    ∙ sym (get-from_entries nat_list_cmp_total ((k.name, k) ∷ []) q))

value_alone : (k : KnownServer) → values (table_of by_name (k ∷ [])) ≡ k ∷ []
unfolding IsInFoldedOrder
value_alone k = values-table_of (λ (s : KnownServer). s.name) (k ∷ []) refl

servers_alone : (setting : Setting) → values (tabulate (setting.name ∷ [])
    (known_from (setting ∷ []) [] setting.name)) ≡ itself_known setting ∷ []
servers_alone setting =
    ap (λ o. values (put empty setting.name o)) (known_alone setting)
    ∙ ap values (one_row (itself_known setting))
    ∙ value_alone (itself_known setting)

place_alone : (setting : Setting)
    → place_at (setting ∷ []) [] setting.name ≡ alone setting.name setting.about
place_alone setting =
    ap (λ o. option_map_or (joined_place (setting ∷ []) []) o (alone setting.name says_nothing))
    (found setting)
    ∙ ap (λ ss. record {
      name = setting.name;
      about = setting.about;
      links = 0;
      servers = ss;
    }) (servers_alone setting)

-- the ends of a link would be two servers
pub one_server_has_no_link : OneServerHasNoLink
one_server_has_no_link setting world sound = by world.links sound.forest sound.ends_known
  where
    by : (links : List Link) → IsForest links
        → ((s t : Name) → AreLinked links s t → is_server (setting ∷ []) s ≡ true) → links ≡ []
    by [] forest known = refl
    by (l ∷ ls) forest known =
        let near = one_name setting l.near (known l.near l.far (inl (inl (refl, refl)))) in
        let far = one_name setting l.far (known l.far l.near (inl (inr (refl, refl)))) in
        absurd (forest.0 (ap (part ls) (sym near ∙ far)))

-- ---- one event of a client

abbrev machine_with : Place → Clients → Room → RoomMachine
machine_with place clients room = record { place = place; clients = clients; room = room }

-- what a client does, does the same to both
pub record IsDone (setting : Setting) (done : Stepped) (view : View)
    (client_event : ClientEvent) : Type 0 where
  pub stays : IsTheServer setting done.state (served view (of_client client_event)).state
  pub lines : (client : ℕ)
      → done.out client ≡ lines_to client (served view (of_client client_event)).out

pub past_end : (homes : List Name) → slice_get homes (length homes) ≡ None
past_end [] = refl
past_end (home ∷ homes) = past_end homes

module _ (alone_is : AloneIsAlone) (one_room : LoneServerIsOneRoom) (setting : Setting) where
  machine_is : (world : World) (view : View) → world.links ≡ [] → IsTheServer setting world view
      → machine_at (setting ∷ []) world setting.name ≡ machine_of view
  machine_is world view no_links is =
      ap (λ links. machine_with (place_at (setting ∷ []) links setting.name)
      (world.hall setting.name).clients (world.hall setting.name).room) no_links
      ∙ ap (λ place. machine_with place (world.hall setting.name).clients
      (world.hall setting.name).room)
      (place_alone setting ∙ sym (alone_is setting.name setting.about)
      ∙ ap place_of (sym is.routes))
      ∙ ap (λ clients. machine_with (place_of view.routes) clients (world.hall setting.name).room)
      (sym is.clients)
      ∙ ap (machine_with (place_of view.routes) view.clients) (sym is.room)

  machine_done : (world : World) (view : View) (client_event : ClientEvent)
      → world.links ≡ [] → IsTheServer setting world view
      → IsDone setting (by_machine (setting ∷ []) world setting.name client_event) view client_event
  machine_done world view client_event no_links is = record {
    stays = record {
      routes = ap (λ (s : Served). s.state.routes) same.whole ∙ is.routes;
      no_ends = ap (λ (s : Served). s.state.ends) same.whole ∙ is.no_ends;
      clients = ap (λ (s : Served). s.state.clients) same.whole
          ∙ hall_with (λ h. (handled (machine_of view) client_event).state.clients
          ≡ h.clients) setting.name setting.name hall world
          (λ _. ap (λ m. (handled m client_event).state.clients) (sym same_machine))
          (λ apart. absurd (apart refl));
      room = ap (λ (s : Served). s.state.room) same.whole
          ∙ hall_with (λ h. (handled (machine_of view) client_event).state.room
          ≡ h.room) setting.name setting.name hall world
          (λ _. ap (λ m. (handled m client_event).state.room) (sym same_machine))
          (λ apart. absurd (apart refl));
    };
    lines = λ client. ap (λ m. lines_to client (handled m client_event).out) same_machine
        ∙ ap (lines_to client) (sym same.out);
  }
    where
      same_machine : machine_at (setting ∷ []) world setting.name ≡ machine_of view
      same_machine = machine_is world view no_links is

      same : SaysTheSame view client_event
      same = one_room view client_event (record {
        no_ends = is.no_ends;
        no_others = ap others is.routes ∙ knows_no_other setting.name setting.about;
      })

      hall : Hall
      hall = record {
        clients =
            (handled (machine_at (setting ∷ []) world setting.name) client_event).state.clients;
        room = (handled (machine_at (setting ∷ []) world setting.name) client_event).state.room;
      }

  module _ (world : World) (view : View) (sound : IsSound (setting ∷ []) world)
      (is : IsTheServer setting world view) where
    no_links : world.links ≡ []
    no_links = one_server_has_no_link setting world sound

    client_home : (client : ℕ) → is_some (open_client world client) ≡ true
        → home_of world client ≡ Some setting.name
    client_home client there = by (home_of world client) refl there
      where
        by : (o : Option Name) → home_of world client ≡ o
            → is_some (option_and_then (λ home. get (world.hall home).clients client) o) ≡ true
            → o ≡ Some setting.name
        by None home_is there = absurd (cc there)
        by (Some home) home_is there =
            ap Some (sym (one_name setting home (sound.homes_known client home home_is)))

    client_there : (client : ℕ) → is_some (open_client world client) ≡ true
        → is_some (client_of (machine_of view) client) ≡ true
    client_there client there =
        ap (λ clients. is_some (get clients client)) is.clients
        ∙ ap (λ o. is_some (option_and_then (λ home. get (world.hall home).clients client) o))
        (sym (client_home client there))
        ∙ there

    client_done : (client : ℕ) (client_event : ClientEvent)
        → is_some (open_client world client) ≡ true
        → IsDone setting (by_client (setting ∷ []) world client client_event) view client_event
    client_done client client_event there =
        subst (λ o. IsDone setting (option_map_or (λ home.
        by_machine (setting ∷ []) world home client_event) o (unmoved world)) view client_event)
        (sym (client_home client there)) (machine_done world view client_event no_links is)

    new_number : client_of (machine_of view) (suc (length world.homes)) ≡ None
    new_number = by (get view.clients (suc (length world.homes))) refl
      where
        by : (o : Option Client) → get view.clients (suc (length world.homes)) ≡ o → o ≡ None
        by None _ = refl
        by (Some client) is_it =
            let at_home = sound.clients_home setting.name (suc (length world.homes))
            (ap (λ clients. is_some (get clients (suc (length world.homes)))) (sym is.clients)
            ∙ ap is_some is_it) in
            absurd (let none = sym (past_end world.homes) ∙ at_home.is_home in cc none)

    connect_done : (server : Name) (host : List ℕ) → setting.name ≡ server → IsDone setting
        (by_machine (setting ∷ []) (record world { homes = world.homes ++ server ∷ [] }) server
        (connects (suc (length world.homes)) host)) view
        (connects (suc (length world.homes)) host)
    connect_done server host here =
        subst (λ s. IsDone setting
        (by_machine (setting ∷ []) (record world { homes = world.homes ++ s ∷ [] }) s
        (connects (suc (length world.homes)) host)) view
        (connects (suc (length world.homes)) host)) here
        (machine_done (record world { homes = world.homes ++ setting.name ∷ [] }) view
        (connects (suc (length world.homes)) host) no_links (record {
          routes = is.routes;
          no_ends = is.no_ends;
          clients = is.clients;
          room = is.room;
        }))

    no_link : (near far : Name) → refused (setting ∷ []) world (link near far) ≡ None → ⊥
    no_link near far taken =
        let may = link_taken (setting ∷ []) world near far taken in
        let one = sym (one_name setting near may.near_known) ∙ one_name setting far may.far_known in
        let whole =
        same_when (part world.links near) (part world.links far) (ap (part world.links) one) in
        let none = sym whole ∙ may.apart in
        cc none

    no_cut : (near far : Name) → refused (setting ∷ []) world (cut near far) ≡ None → ⊥
    unfolding refused
    no_cut near far taken =
        let there =
        if_taken (is_server (setting ∷ []) near && is_server (setting ∷ []) far) no_such_server
        (if are_linked world.links near far then None else Some not_linked) taken in
        let linked_so = (if_taken (are_linked world.links near far) not_linked None there.1).0 in
        let none : false ≡ true = ap (λ links. are_linked links near far) (sym no_links)
        ∙ linked_so in
        cc none

pub one_server_is_the_network : AloneIsAlone → LoneServerIsOneRoom → OneServerIsTheNetwork
unfolding refused step
one_server_is_the_network alone_is one_room setting world view item sound is taken = by item taken
  where
    there : (client : ℕ) → (if is_some (open_client world client) then None
        else Some no_such_client) ≡ None → is_some (open_client world client) ≡ true
    there client taken = (if_taken (is_some (open_client world client)) no_such_client None taken).0

    by : (item : Item) → refused (setting ∷ []) world item ≡ None → IsServed setting world view item
    by (connect server host) taken =
        let done = connect_done alone_is one_room setting world view sound is server host
        (one_name setting server (server_known (setting ∷ []) world server host taken)) in
        record {
          client_event = connects (suc (length world.homes)) host;
          is_item = refl;
          expected = new_number alone_is one_room setting world view sound is;
          stays = done.stays;
          lines = done.lines;
        }
    by (line client bytes) taken =
        let done = client_done alone_is one_room setting world view sound is client
        (says client (read_of bytes)) (there client taken) in
        record {
          client_event = says client (read_of bytes);
          is_item = refl;
          expected = client_there alone_is one_room setting world view sound is client
              (there client taken);
          stays = done.stays;
          lines = done.lines;
        }
    by (gone client) taken =
        let done = client_done alone_is one_room setting world view sound is client (goes client)
        (there client taken) in
        record {
          client_event = goes client;
          is_item = refl;
          expected = client_there alone_is one_room setting world view sound is client
              (there client taken);
          stays = done.stays;
          lines = done.lines;
        }
    by (link near far) taken =
        absurd (no_link alone_is one_room setting world view sound is near far taken)
    by (cut near far) taken =
        absurd (no_cut alone_is one_room setting world view sound is near far taken)

-- ---- one after another

module _ (alone_is : AloneIsAlone) (one_room : LoneServerIsOneRoom) (stays_sound : StepStaysSound)
    (setting : Setting) (client : ℕ) where
  owes : (items : List Item) (world : World) (view : View) → IsSound (setting ∷ []) world
      → IsTheServer setting world view → AreTaken (setting ∷ []) world items
      → owed_from (setting ∷ []) world items client ≡ owed_by_server client view
      (client_events_from (setting ∷ []) world items)
  owes [] world view sound is taken = refl
  owes (item ∷ items) world view sound is taken =
      ap (λ lines. lines ++ owed_from (setting ∷ []) next items client) (first.lines client)
      ∙ ap (λ lines. lines_to client (served view (of_client first.client_event)).out ++ lines)
      (owes items next (served view (of_client first.client_event)).state
      (stays_sound (setting ∷ []) world item sound taken.now) first.stays taken.later)
      ∙ ap (λ o. owed_by_server client view
      (option_to_list o ++ client_events_from (setting ∷ []) next items)) (sym first.is_item)
    where
      first : IsServed setting world view item
      first = one_server_is_the_network alone_is one_room setting world view item sound is taken.now

      next : World
      next = (step (setting ∷ []) world item).state

pub one_server_owes : AloneIsAlone → LoneServerIsOneRoom → StepStaysSound → OneServerOwes
unfolding owed_by_network
one_server_owes alone_is one_room stays_sound setting items taken client =
    owes alone_is one_room stays_sound setting client items new_world (lone_view setting)
    (new_world_is_sound (setting ∷ []))
    (record { routes = refl; no_ends = refl; clients = refl; room = refl }) taken
