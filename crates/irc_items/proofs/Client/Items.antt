-- A network is sound once a client's item is given: a client connects, says a line or goes.
use Rattle.std.proofs.Common.{◌≡◌, ℕ, zero, suc, ◌*◌, ◌-◌, ◌≤◌, Bool, true, false, cond}
use Rattle.std.proofs.Common.{Option, Some, None, is_some, List, [], ◌∷◌, ◌++◌, length, refl, sym}
use Rattle.std.proofs.Common.{ap, subst, ◌∙◌, arith, add-one}
use Rattle.std.specs.FinMap.{get}
use Rattle.std.specs.Option.{option_map_or}
use Rattle.irc_line.specs.Carried.{IsCarried}
use Rattle.irc_line.specs.Reading.{read_of}
use Rattle.irc_names.specs.Names.{IsHost}
use Rattle.irc_relay.specs.Distances.{IsAmong}
use Rattle.irc_relay.specs.Links.{Name, part, IsForest, AreJoined}
use Rattle.irc_relay.specs.Relay.{streams_from, from_one}
use Rattle.irc_routes.specs.Known.{Known, place_of}
use Rattle.irc_stage.specs.Handle.{ClientEvent, connects, goes, says}
use Rattle.irc_stage.specs.Lemmas.Counting.{get-kept}
use Rattle.irc_stage.specs.View.{View}
use Rattle.irc_stage.specs.declared.clients.Client.{Client}
use Rattle.irc_server.specs.Served.{ServedKeepsItsSetting}
use Rattle.irc_world.specs.Bounds.{most, most_of_client, part_size}
use Rattle.irc_world.specs.Bystanders.{IsElsewhere}
use Rattle.irc_world.specs.Stepping.{Item, by_machine, connect, gone, line, still, step}
use Rattle.irc_world.specs.WithinLimits.{IsItemWithin}
use Rattle.irc_world.specs.World.{World, home_in, is_server, place_at}
use Rattle.irc_world.specs.WorldHolds.{IsWorld}
use Rattle.irc_world.specs.Lemmas.HomesAdded.{more_sound, new_home, still_home}
use Rattle.irc_follow.specs.AtRest.{side_state_of, AreRight, IsOfWorld, PlaceIsWorlds}
use Rattle.irc_follow.specs.Fits.{Fits}
use Rattle.irc_follow.specs.SideState.{ItemSetting, is_home_of, IsItemSetting}
use Rattle.irc_network.specs.Network.{Network, given, is_at_rest, next_client, with_client}
use Rattle.irc_network.specs.Refusing.{fault_at_rest}
use Rattle.irc_items.specs.OneRoom.{IsOneRoom}
use Rattle.irc_items.specs.SetUp.{routes_in, settings_of, view_at}
use Rattle.irc_items.specs.Sound.{world_now, IsSound}
use Rattle.irc_items.proofs.Client.Begins.{AreClientLaws, IsToldByHome}
use Rattle.irc_items.proofs.Client.Given.{connect_is_given, gone_is_given, line_is_given}
use Rattle.irc_items.proofs.Client.Given.{next_has_none, IsConnected, IsDoneAtHome, IsServedFor}
use Rattle.irc_items.proofs.Client.Side.{ends, fits_here, fixed_here, home_setting, of_world}
use Rattle.irc_items.proofs.Client.Side.{right_here, IsClientStep}
use Rattle.irc_items.proofs.Client.Sound.{client_sound}
use Rattle.irc_items.proofs.Common.Step.{is_step, AreStepLaws, HasTaken, IsStep}
use Rattle.irc_items.proofs.Client.Due.{IsDueAtHome}
use Rattle.irc_items.proofs.Home.Fits.{does_as_machine, AreHomeLaws}
use Rattle.irc_items.specs.Lemmas.SetUpFacts.{listed}

-- a client's server tells its neighbours of the effects
abbrev pub TellsByHome : Type 0
TellsByHome =
    (s : ItemSetting) (world after : World) (routes : Name → Known) (h : Name) (view : View)
    (client_event : ClientEvent) → after.links ≡ world.links → IsItemSetting s
    → IsForest world.links → s.streams ≡ streams_from world.links (from_one world.links h)
    → IsAmong s.names h → IsWorld s.settings world → IsOfWorld s world
    → AreRight s world.links routes → Fits s h (side_state_of s world routes h) view
    → place_of (routes h) ≡ place_at s.settings world.links h
    → IsDueAtHome s world h client_event → IsToldByHome s world after routes h view client_event

pub record AreItemLaws : Type 0 where
  pub client : AreClientLaws
  pub home : AreHomeLaws
  pub tells : TellsByHome
  pub place : PlaceIsWorlds
  pub kept : ServedKeepsItsSetting
  pub steps : AreStepLaws

module _ (laws : AreItemLaws) (net : Network) (sound : IsSound net) (rest : is_at_rest net ≡ true)
    (one : IsOneRoom net)
    (holds : IsWorld (settings_of net) (world_now net)) where
  -- whatever is known of a client's item makes the network sound
  served_sound : (base : Network) (world : World) (h : Name) (client_event : ClientEvent)
      (item : Item) → IsClientStep net base (given item net).state world h client_event item
      → IsSound (given item net).state
  served_sound base world h client_event item step =
      client_sound laws.client step
      (does_as_machine laws.home s world (routes_in net) h
      (view_at net h) client_event fixed_so step.among step.holds of_so right_so
      (fits_so h step.among) step.step.holds_after place_so step.due)
      (laws.tells s world (by_machine (settings_of net) world h client_event).state
      (routes_in net) h
      (view_at net h) client_event refl fixed_so
      step.holds.sound.forest refl step.among step.holds of_so right_so
      (fits_so h step.among) place_so step.due)
    where
      s : ItemSetting
      s = home_setting net world h

      fixed_so : IsItemSetting (home_setting net world h)
      fixed_so = fixed_here laws.client.events.at_rest step

      of_so : IsOfWorld (home_setting net world h) world
      of_so = of_world laws.client.events.at_rest step

      right_so : AreRight (home_setting net world h) world.links (routes_in net)
      right_so = right_here laws.client.events.at_rest step

      fits_so : (t : Name) → IsAmong net.names t → Fits (home_setting net world h) t
          (side_state_of (home_setting net world h) world (routes_in net) t) (view_at net t)
      fits_so = fits_here laws.client.events.at_rest step

      place_so : place_of (routes_in net h) ≡ place_at (settings_of net) world.links h
      place_so = laws.place (home_setting net world h) world.links
          (routes_in net) h fixed_so step.holds.sound.forest
          (ends laws.client.events.at_rest step) right_so step.among

  -- what is known of an item that a server has served
  served_step : (base : Network) (world : World) (h : Name) (client_event : ClientEvent)
      (item : Item) → fault_at_rest net item ≡ None → IsItemWithin item → step (settings_of net)
      (world_now net) item ≡ by_machine (settings_of net) world h client_event
      → IsServedFor net base (given item net).state h client_event item → base.homes ≡ world.homes
      → net.links ≡ world.links → ((client : ℕ) → home_in world.homes client ≡ None
      → home_in net.homes client ≡ None) → IsStep net (given item net).state item world.homes
      (by_machine (settings_of net) world h client_event)
  served_step base world h client_event item taken within stepped served homes links before =
      is_step laws.steps net sound rest one holds item taken within
      (given item net).state world.homes
      (by_machine (settings_of net) world h client_event) stepped
      (subst (HasTaken net (given item net).state item world.homes) links
      (subst (λ homes. HasTaken net (given item net).state item homes net.links) homes
      served.taken))
      refl before

  -- a client that its server has is one of its part
  in_hall : (h : Name) (client : ℕ) → IsAmong net.names h
      → is_some (get (view_at net h).clients client) ≡ true
      → is_some (get ((world_now net).hall h).clients client) ≡ true
  in_hall h client among there = by (is_home_of net.homes h client) refl
    where
      kept : get (view_at net h).clients client ≡ cond (is_home_of net.homes h client)
          (get ((world_now net).hall h).clients client) None
      kept = ap (λ clients. get clients client) (one.servers h among).clients
          ∙ get-kept ((world_now net).hall h).clients (is_home_of net.homes h) client

      by : (b : Bool) → is_home_of net.homes h client ≡ b
          → is_some (get ((world_now net).hall h).clients client) ≡ true
      by true e = ap is_some (sym
          (kept ∙ ap (λ b. cond b (get ((world_now net).hall h).clients client) None) e)) ∙ there
      by false e = absurd (let no = sym there ∙ ap is_some
          (kept ∙ ap (λ b. cond b (get ((world_now net).hall h).clients client) None) e) in cc no)

  -- ---- a line is said, or the client goes

  home_now : (client : ℕ) (home : Name) → home_in net.homes client ≡ Some home
      → home_in (world_now net).homes client ≡ Some home
  home_now client home is = ap (λ homes. home_in homes client) (sym sound.homes) ∙ is

  at_home_step : (client : ℕ) (client_event : ClientEvent) (item : Item)
      (done : IsDoneAtHome net client client_event item) → fault_at_rest net item ≡ None
      → IsItemWithin item → step (settings_of net) (world_now net) item
      ≡ by_machine (settings_of net) (world_now net) done.home client_event → ((t : Name)
      → (AreJoined (world_now net).links t done.home → ⊥) → IsElsewhere (world_now net) item t)
      → IsDueAtHome (home_setting net (world_now net) done.home)
      (world_now net) done.home client_event
      → most (settings_of net) (world_now net) item ≡ most_of_client (settings_of net)
      (world_now net) (Some done.home) client_event → IsSound (given item net).state
  at_home_step client client_event item done taken within stepped elsewhere due bound =
      served_sound net (world_now net) done.home client_event item (record {
        step = served_step net (world_now net) done.home client_event item taken within stepped
            done.served sound.homes sound.links
            (λ client none. ap (λ homes. home_in homes client) sound.homes ∙ none);
        served = done.served;
        among = done.at_home.among;
        homes = sound.homes;
        old_homes = home_now;
        links = sound.links;
        hall = λ t. refl;
        holds = holds;
        elsewhere = elsewhere;
        due = due;
        few = let same = bound in omega arith;
      })

  same_some : (a b : Name) → Some a ≡ Some b → a ≡ b
  same_some a b e = cc e

  pub line_sound : (client : ℕ) (bytes : List ℕ) → fault_at_rest net (line client bytes) ≡ None
      → IsCarried bytes → IsSound (given (line client bytes) net).state
  unfolding step most
  line_sound client bytes taken carried =
      at_home_step client (says client (read_of bytes)) (line client bytes) done taken carried
      (ap (λ o. option_map_or (λ home. by_machine (settings_of net) (world_now net) home
      (says client (read_of bytes))) o (still (world_now net))) home)
      (λ t apart other is together. apart (together
      ∙ ap (part (world_now net).links) (same_some other done.home (sym is ∙ home)))) (
        home,
        in_hall done.home client done.at_home.among done.at_home.connected,
        record { bytes = bytes; carried = carried; is_read = refl },
      )
      (ap (λ o. most_of_client (settings_of net) (world_now net) o
      (says client (read_of bytes))) home)
    where
      done : IsDoneAtHome net client (says client (read_of bytes)) (line client bytes)
      done = line_is_given laws.kept net sound client bytes taken

      home : home_in (world_now net).homes client
          ≡ Some (line_is_given laws.kept net sound client bytes taken).home
      home = home_now client (line_is_given laws.kept net sound client bytes taken).home
          (line_is_given laws.kept net sound client bytes taken).at_home.is_home

  pub gone_sound : (client : ℕ) → fault_at_rest net (gone client) ≡ None
      → IsSound (given (gone client) net).state
  unfolding step most
  gone_sound client taken = at_home_step client (goes client) (gone client) done taken tt
      (ap (λ o. option_map_or (λ home. by_machine (settings_of net) (world_now net) home
      (goes client)) o (still (world_now net))) home)
      (λ t apart other is together. apart (together
      ∙ ap (part (world_now net).links) (same_some other done.home (sym is ∙ home))))
      (home, in_hall done.home client done.at_home.among done.at_home.connected)
      (ap (λ o. most_of_client (settings_of net) (world_now net) o (goes client)) home)
    where
      done : IsDoneAtHome net client (goes client) (gone client)
      done = gone_is_given laws.kept net sound client taken

      home : home_in (world_now net).homes client
          ≡ Some (gone_is_given laws.kept net sound client taken).home
      home = home_now client (gone_is_given laws.kept net sound client taken).home
          (gone_is_given laws.kept net sound client taken).at_home.is_home

  -- ---- a client connects

  module _ (server : Name) (host : List ℕ) (taken : fault_at_rest net (connect server host) ≡ None)
      (is_host : IsHost host) where
    abbrev world : World
    world = record (world_now net) { homes = (world_now net).homes ++ server ∷ [] }

    connected : IsConnected net server host
    connected = connect_is_given laws.kept net sound one server host taken

    known : is_server (settings_of net) server ≡ true
    known = listed net sound.set_up server ∙ connected.among

    old_home : (client : ℕ) (home : Name) → home_in (world_now net).homes client ≡ Some home
        → home_in world.homes client ≡ Some home
    old_home zero home is = absurd (cc is)
    old_home (suc earlier) home is = still_home (world_now net).homes server earlier home is

    no_home_before : (client : ℕ) → home_in world.homes client ≡ None
        → home_in net.homes client ≡ None
    no_home_before client none = by (home_in net.homes client) refl
      where
        by : (o : Option Name) → home_in net.homes client ≡ o → home_in net.homes client ≡ None
        by None e = e
        by (Some home) e = cc (sym none ∙ old_home client home (home_now client home e))

    holds_more : IsWorld (settings_of net) world
    holds_more = record {
      sound = more_sound (settings_of net) (world_now net) server holds.sound known;
      homes_there = holds.homes_there;
      homes_joined = holds.homes_joined;
      clients_users = λ t. record {
        registered_is_user = λ client fold is.
            let at = (holds.clients_users t).registered_is_user client fold is in
            record {
              home = at.home;
              of_client = old_home client at.home at.of_client;
              of_user = at.of_user;
            };
        user_has_one = (holds.clients_users t).user_has_one;
        user_has_client = (holds.clients_users t).user_has_client;
      };
      within = holds.within;
    }

    same_number : suc (length (world_now net).homes) ≡ next_client net
    same_number = ap (λ (homes : List Name). suc (length homes)) (sym sound.homes)
        ∙ sym (add-one (length net.homes))

    stepped : step (settings_of net) (world_now net) (connect server host)
        ≡ by_machine (settings_of net) world server (connects (next_client net) host)
    unfolding step
    stepped = ap (λ n. by_machine (settings_of net) world server (connects n host)) same_number

    new_is_home : home_in world.homes (next_client net) ≡ Some server
    new_is_home =
        ap (λ n. home_in world.homes n) (sym same_number) ∙ new_home (world_now net).homes server

    nobody_yet : get ((world_now net).hall server).clients (next_client net) ≡ None
    nobody_yet = by (get ((world_now net).hall server).clients (next_client net)) refl
      where
        by : (o : Option Client) → get ((world_now net).hall server).clients (next_client net) ≡ o
            → get ((world_now net).hall server).clients (next_client net) ≡ None
        by None e = e
        by (Some client) e =
            absurd (let there = holds.sound.clients_home server (next_client net) (ap is_some e) in
            let no = sym (next_has_none net) ∙ ap
            (λ homes. home_in homes (next_client net)) sound.homes ∙ there.is_home in cc no)

    pub connect_sound : IsSound (given (connect server host) net).state
    unfolding most
    connect_sound = served_sound (with_client server net) world server
        (connects (next_client net) host) (connect server host) (record {
          step = served_step (with_client server net) world server (connects (next_client net) host)
              (connect server host) taken is_host stepped connected.served
              (ap (λ homes. homes ++ server ∷ []) sound.homes) sound.links no_home_before;
          served = connected.served;
          among = connected.among;
          homes = ap (λ homes. homes ++ server ∷ []) sound.homes;
          old_homes = λ client home is. old_home client home (home_now client home is);
          links = sound.links;
          hall = λ t. refl;
          holds = holds_more;
          elsewhere = λ t apart together. apart together;
          due = (new_is_home, is_host, nobody_yet);
          few = none_told (part_size (settings_of net) world.links server - 1);
        })
      where
        none_told : (size : ℕ) → 0 * size ≤ 0
        none_told size = omega arith
