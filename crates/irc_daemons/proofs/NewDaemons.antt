-- Daemons that are new are as a network that was given nothing.
use Rattle.std.proofs.Common.{◌≡◌, ℕ, zero, suc, false, is_some, Option, Some, None, List, [], ◌∷◌}
use Rattle.std.proofs.Common.{◌++◌, length, replicate, refl, sym, ◌∙◌, ap, subst, map, option_map}
use Rattle.std.proofs.Common.{unwrap_or}
use Rattle.std.specs.FinMap.{empty, get, get-empty}
use Rattle.std.specs.List.{AllByRecursion, filter_map, slice_get}
use Rattle.std.specs.Option.{option_and_then}
use Rattle.std.specs.Ordering.{nat_cmp}
use Rattle.std.proofs.lemmas.Option.{slice_get-map}
use Rattle.irc_names.specs.Tables.{fold_cmp}
use Rattle.irc_routes.specs.declared.programs.Programs.{Programs}
use Rattle.irc_routes.specs.declared.server_row.ServerRow.{ServerRow}
use Rattle.irc_routes.specs.Known.{row_of}
use Rattle.irc_stage.specs.declared.clients.Client.{Client}
use Rattle.irc_stage.specs.View.{End, View}
use Rattle.irc_server.specs.Configuring.{served_view}
use Rattle.irc_server.specs.declared.config.Config.{Config}
use Rattle.irc_network.specs.Network.{Node, node_at}
use Rattle.irc_pipes.specs.Pipes.{LinkPipe, new_pipe, pipe_at}
use Rattle.irc_network.specs.ByteNetwork.{ByteNetwork}
use Rattle.irc_network.specs.Whole.{IsAsNew, NewIsWhole, has_way, no_pipes}
use Rattle.irc_items.specs.SetUp.{setting_at}
use Rattle.irc_net.specs.Calls.{standing}
use Rattle.irc_net.specs.Laws.{EveryRunIsKept}
use Rattle.irc_net.specs.Making.{config_name, made_of, new_node, setting_given}
use Rattle.irc_net.specs.Running.{HasRun, made}
use Rattle.irc_engine.specs.Hearing.{begun_at}
use Rattle.irc_engine.specs.EngineView.{EngineView}
use Rattle.irc_daemons.specs.Alike.{AreAlike, AreServersAlikeIf, AreRowsAlike, Numbers}
use Rattle.irc_daemons.specs.AsBytes.{IsAsBytes, IsServerIf, IsServerOf, numbers_at}
use Rattle.irc_relay.specs.Links.{Name}
use Rattle.irc_relay.specs.Relay.{IsFront}
use Rattle.irc_daemons.specs.AsNetwork.{AreClientsOpen, IsAsNetwork}
use Rattle.irc_daemons.specs.Daemons.{AreJoined, Daemons, IsToldOfLinks, connection_at, end_at}
use Rattle.irc_daemons.specs.Daemons.{unsent, pipe_between}
use Rattle.irc_daemons.specs.NewDaemons.{AreNew, IsNewIf, IsNewOf, names_in, settings_in}
use Rattle.irc_daemons.specs.Receiving.{bytes_received}
use Rattle.irc_daemons.proofs.Going.{IsGoing}
use Rattle.irc_daemons.proofs.Single.{has_server, have_views, same_pipe}
use Rattle.irc_daemons.proofs.Told.{begun_or_none}

-- ---- a new server

module _ (programs : Name → Programs) (config : Config) where
  abbrev view : View
  view = served_view (programs (config_name config)) config

  no_row : (name : List ℕ) → row_of view.routes name ≡ None
  no_row name = get-empty {X = ServerRow} fold_cmp name

  no_end : (conn : ℕ) → get view.ends conn ≡ None
  no_end conn = get-empty {X = End} nat_cmp conn

  no_client : (conn : ℕ) → get view.clients conn ≡ None
  no_client conn = get-empty {X = Client} nat_cmp conn

  module _ (numbers : Numbers) (no_links : (y : ℕ) → numbers.link y ≡ None)
      (no_seats : (client : ℕ) → numbers.client client ≡ None) where
    new_alike : AreAlike numbers view view
    new_alike = record {
      name = refl;
      about = refl;
      rows = λ name. subst (λ o. AreRowsAlike numbers o o) (sym (no_row name)) tt;
      peers = refl;
      ends = λ y. no_end y ∙ sym (ap (option_and_then (get view.ends)) (no_links y));
      no_other_end = λ conn is. cc (sym (ap is_some (no_end conn)) ∙ is);
      clients = λ client. no_client client
          ∙ sym (ap (option_and_then (get view.clients)) (no_seats client));
      no_other_client = λ conn is. cc (sym (ap is_some (no_client conn)) ∙ is);
      room = refl;
    }

    new_server : {W : Type 0} (engine : EngineView W)
        → IsNewOf (programs (config_name config)) config engine
        → IsServerOf numbers engine (new_node programs config)
    new_server engine new = record {
      in_order = new.is_new.in_order;
      framers = λ conn begun is. cc (sym (ap begun_at (new.is_new.no_connections conn)) ∙ is);
      servers =
          subst (λ o. AreServersAlikeIf numbers o (Some view)) (sym new.is_new.server_is) (record {
            alike = new_alike;
            ends_count = λ name link is.
                cc (sym (ap (option_map (λ (r : ServerRow). r.link)) (no_row name)) ∙ is);
          });
    }

new_servers : {W : Type 0} (programs : Name → Programs) (numbers : Numbers)
    → ((y : ℕ) → numbers.link y ≡ None) → ((client : ℕ) → numbers.client client ≡ None)
    → (config : Option Config) (engine : Option (EngineView W)) → IsNewIf programs config engine
    → IsServerIf numbers engine (option_map (new_node programs) config)
new_servers programs numbers no_links no_seats None None is = tt
new_servers programs numbers no_links no_seats (Some config) (Some engine) is =
    new_server programs config numbers no_links no_seats engine is
new_servers programs numbers no_links no_seats None (Some engine) is = absurd is
new_servers programs numbers no_links no_seats (Some config) None is = absurd is

-- ---- a new network

no_queues : (programs : Name → Programs) (configs : List Config)
    → AllByRecursion (λ (node : Node). node.queues ≡ empty) (map (new_node programs) configs)
no_queues programs [] = tt
no_queues programs (config ∷ configs) = (refl, no_queues programs configs)

no_pipe : (servers from to : ℕ) → pipe_at (replicate servers empty) from to ≡ new_pipe
no_pipe zero from to = refl
no_pipe (suc servers) zero to = ap (λ o. unwrap_or o new_pipe) (get-empty {X = LinkPipe} nat_cmp to)
no_pipe (suc servers) (suc from) to = no_pipe servers from to

no_way : (programs : Name → Programs) (configs : List Config) (from to : ℕ)
    → has_way (made_of programs configs) from to ≡ false
no_way programs configs from to =
    ap (λ o. is_some (option_and_then (λ (node : Node). get node.queues to) o))
    (slice_get-map (new_node programs) configs from) ∙ by (slice_get configs from)
  where
    by : (o : Option Config) → is_some
        (option_and_then (λ (node : Node). get node.queues to) (option_map (new_node programs) o)) ≡ false
    by None = refl
    by (Some config) = ap is_some (get-empty {X = List (List ℕ)} nat_cmp to)

module _ {W : Type 0} (whole : NewIsWhole) (configs : List Config) (daemons : Daemons W)
    (new : AreNew configs daemons) where
  abbrev pub net : ByteNetwork
  net = no_pipes (made_of new.programs new.ordered)

  is_as_new : IsAsNew net
  is_as_new = whole (made_of new.programs new.ordered) (no_queues new.programs new.ordered)

  no_end_at : (x y : ℕ) → end_at daemons x y ≡ None
  no_end_at x y = ap (option_and_then (connection_at daemons x)) (new.no_link x y)

  no_links : {X : Type 0} (x y conn : ℕ) → daemons.ends x y ≡ Some conn → X
  no_links x y conn is = cc (sym (new.no_link x y) ∙ is)

  new_joined : AreJoined daemons
  new_joined = record {
    both_ways = λ x y. new.no_way x y ∙ sym (new.no_way y x);
    not_itself = λ x. new.no_link x x;
    are_open = λ x y conn is. no_links x y conn is;
    apart = λ x y z conn is other. no_links x y conn is;
    no_client = λ x y client conn is seat. no_links x y conn is;
    one_seat = λ x client other conn is seat. cc (sym (new.no_seat x client) ∙ is);
  }

  nothing_between : (from to : ℕ) → pipe_between daemons from to ≡ new_pipe
  nothing_between from to =
      same_pipe (begun_or_none (begun_at (end_at daemons to from))) (begun_or_none None)
      (daemons.transit from to ++ unsent (end_at daemons from to)) []
      (ap (λ o. begun_or_none (begun_at o)) (no_end_at to from))
      (ap (λ bs. bs ++ unsent (end_at daemons from to)) (new.nothing_moves from to)
      ∙ ap unsent (no_end_at from to))

  new_as_bytes : IsAsBytes daemons net
  new_as_bytes = record {
    servers = λ place.
        subst (IsServerIf (numbers_at daemons place) (slice_get daemons.engines place))
        (sym (slice_get-map (new_node new.programs) new.ordered place))
        (new_servers new.programs (numbers_at daemons place) (λ y. new.no_link place y)
        (λ client. new.no_seat place client) (slice_get new.ordered place)
        (slice_get daemons.engines place) (new.engines place));
    ways = λ from to. no_way new.programs new.ordered from to ∙ sym (new.no_way from to);
    pipes = λ from to. no_pipe (length (made_of new.programs new.ordered).nodes) from to
        ∙ sym (nothing_between from to);
    tidy = is_as_new.whole.tidy;
  }

  -- ---- such a network

  pub new_run : HasRun new.programs configs [] (standing net)
  new_run = made (
    new.possible,
    refl,
    record {
      ordered = new.ordered;
      same_ones = new.same_ones;
      in_order = new.in_order;
      network_is = refl;
    },
  )

  settings_made : (programs : Name → Programs) (configs : List Config) → filter_map setting_at
      (map (new_node programs) configs) ≡ map (setting_given programs) configs
  settings_made programs [] = refl
  settings_made programs (config ∷ configs) =
      ap (λ settings. setting_given programs config ∷ settings) (settings_made programs configs)

  pub new_going : EveryRunIsKept → IsGoing (settings_in new) [] net
  new_going kept = record {
    kept = kept new.programs configs [] (standing net) new_run;
    settings_are = settings_made new.programs new.ordered;
    items_are = refl;
  }

  -- nobody has come
  nobody_sits : {X : Type 0} (place client conn : ℕ) → daemons.seats place client ≡ Some conn → X
  nobody_sits place client conn seat = cc (sym (new.no_seat place client) ∙ seat)

  no_client_there : (place : ℕ) (engine : EngineView W)
      → slice_get daemons.engines place ≡ Some engine → AreClientsOpen engine.now
  no_client_there place engine at view conn is there =
      let numbers = numbers_at daemons place in
      let found = has_server numbers engine (node_at net.network place)
      (subst (λ o. IsServerIf numbers o (node_at net.network place)) at
      (new_as_bytes.servers place)) in
      let views = have_views numbers engine.now.server found.node.server view is found.of.servers in
      let one =
      views.alike.alike.no_other_client conn there in nobody_sits place one.number conn one.is

  pub new_same : IsAsNetwork (names_in new) daemons net
  new_same = record {
    are_joined = new_joined;
    as_bytes = new_as_bytes;
    clients_open = no_client_there;
    are_seated = record {
      names_are = refl;
      came = new.nobody;
      inboxes = refl;
      home = λ place client conn seat. nobody_sits place client conn seat;
      seat = λ place client conn seat. nobody_sits place client conn seat;
    };
    are_received = record {
      there = λ place client conn seat is. nobody_sits place client conn seat;
      front = λ client. subst (λ bytes. IsFront bytes (bytes_received net.network client))
          (sym (new.nothing_written client)) (bytes_received net.network client, refl);
    };
  }

  pub new_told : (x : ℕ) → IsToldOfLinks daemons x
  new_told x y = new.no_way x y ∙ sym (ap is_some (new.no_link x y))
