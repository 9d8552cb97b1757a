-- What becomes of a network when a client connects, says a line or goes.
use Rattle.std.proofs.Common.{◌≡◌, ◌≢◌, ℕ, zero, suc, Bool, true, false, cond, Option, Some}
use Rattle.std.proofs.Common.{None, is_none, is_some, unwrap_or, List, [], ◌∷◌, ◌++◌, length, refl}
use Rattle.std.proofs.Common.{sym, ◌∙◌, ap, subst, arith, if◌then◌else◌, add-one}
use Rattle.std.specs.FinMap.{get, get-retain_keys, nat_cmp-IsAntisymmetric}
use Rattle.std.specs.List.{list_any, slice_get}
use Rattle.std.specs.Option.{option_and_then, option_map, option_map_or}
use Rattle.irc_line.specs.Reading.{read_of}
use Rattle.irc_relay.specs.Distances.{IsAmong}
use Rattle.irc_relay.specs.Links.{Name, same}
use Rattle.irc_stage.specs.Handle.{ClientEvent, connects, goes, says}
use Rattle.irc_stage.specs.View.{View}
use Rattle.irc_server.specs.Owed.{lines_to}
use Rattle.irc_server.specs.Served.{ReadEvent, Served, ServedKeepsItsSetting, of_client, served}
use Rattle.irc_world.specs.Refused.{no_such_client, no_such_server}
use Rattle.irc_world.specs.Stepping.{Item, connect, gone, line}
use Rattle.irc_world.specs.World.{home_in}
use Rattle.irc_follow.specs.SideState.{is_home_of}
use Rattle.irc_follow.specs.Says.{lines_on}
use Rattle.irc_follow.specs.Tree.{index_in}
use Rattle.irc_network.specs.Network.{Progress, Network, begun, node_asked, node_asked_if}
use Rattle.irc_network.specs.Network.{done_by, given, home_place, serves_read_event, next_client}
use Rattle.irc_network.specs.Network.{server_place, received_by, reply, node_view, with_client}
use Rattle.irc_network.specs.Refusing.{fault_at_rest, has_client, is_there}
use Rattle.irc_items.specs.OneRoom.{IsOneRoom}
use Rattle.irc_items.specs.Relayed.{way_at}
use Rattle.irc_items.specs.SetUp.{view_at, IsSetUp}
use Rattle.irc_items.specs.Sound.{IsSound, world_now}
use Rattle.irc_items.proofs.Common.Step.{HasTaken}
use Rattle.irc_items.proofs.Nodes.Asked.{asked_there, reply_taken, set_up_besides, IsAskedAt}
use Rattle.irc_items.specs.Lemmas.SetUpFacts.{placed_if, there, viewed, viewed_nowhere}

-- what a server does by something of a client
abbrev pub done_at : Network → Name → ClientEvent → Served
done_at net h client_event = served (view_at net h) (of_client client_event)

-- The client's server has served it, and nothing else has changed; `base` has one home more where
-- the client connects.
pub record IsServedFor (net base new : Network) (h : Name) (client_event : ClientEvent)
    (item : Item) : Type 0 where
  pub taken : HasTaken net new item base.homes net.links
  pub state : view_at new h ≡ (done_at net h client_event).state
  pub other_views : (u : Name) → u ≢ h → view_at new u ≡ view_at net u
  pub way : (place : ℕ) → way_at new h place ≡ option_map
      (λ lines. lines ++ lines_on place (done_at net h client_event).out) (way_at net h place)
  pub other_ways : (u : Name) (place : ℕ) → u ≢ h → way_at new u place ≡ way_at net u place
  pub received : (client : ℕ) (home : Name) → home_in base.homes client ≡ Some home
      → received_by new client ≡ received_by net client
      ++ lines_to client (done_at net h client_event).out
  pub nobody : (client : ℕ) → home_in base.homes client ≡ None → received_by new client ≡ []

-- the network with these homes, and with what clients have received
abbrev pub homed : Network → List Name → List (List (List ℕ)) → Network
homed net homes received = record net { homes = homes; received = received }

module _ (stays : ServedKeepsItsSetting) (net : Network) (homes : List Name)
    (received : List (List (List ℕ))) (set_up : IsSetUp net)
    (inboxes : length received ≡ length homes) (as_before : (client : ℕ)
    → received_by (homed net homes received) client ≡ received_by net client)
    (h : Name) (among : IsAmong net.names h) (client_event : ClientEvent)
    (taken : serves_read_event (view_at net h) (of_client client_event) ≡ true) (item : Item) where
  abbrev base : Network
  base = homed net homes received

  abbrev progress : Progress Network
  progress = node_asked (index_in net.names h) (of_client client_event) (begun base)

  answered : IsAskedAt h (reply (view_at net h) (of_client client_event)) (begun base) progress
  answered = asked_there stays (begun base) (set_up_besides net net.links homes received net.items
      net.taken set_up) inboxes h among (of_client client_event)

  abbrev is_reply : reply (view_at net h) (of_client client_event)
      ≡ record {
        state = (done_at net h client_event).state;
        out = (done_at net h client_event).out;
      }
  is_reply = reply_taken (view_at net h) (of_client client_event) taken

  served_for : IsServedFor net base
      (record progress.state { items = progress.state.items ++ item ∷ []; taken = 0 }) h
      client_event item
  served_for = record {
    taken = record {
      names = answered.names;
      links = answered.links;
      homes = answered.homes;
      items = ap (λ items. items ++ item ∷ []) answered.items;
      taken = refl;
      inboxes = answered.inboxes ∙ inboxes ∙ ap length (sym answered.homes);
      settings = answered.settings;
      set_up =
          set_up_besides progress.state progress.state.links progress.state.homes
          progress.state.received
          (progress.state.items ++ item ∷ []) 0 answered.set_up;
    };
    state = answered.state ∙ ap (λ (r : Served). r.state) is_reply;
    other_views = answered.other_views;
    way = λ place. answered.way place ∙ ap (λ (r : Served).
        option_map (λ lines. lines ++ lines_on place r.out) (way_at net h place)) is_reply;
    other_ways = answered.other_ways;
    received = λ client home is. answered.received client home is
        ∙ ap (λ (r : Served). received_by base client ++ lines_to client r.out) is_reply
        ∙ ap (λ before. before ++ lines_to client (done_at net h client_event).out)
        (as_before client);
    nobody = answered.nobody;
  }

-- the client's home is asked
given_where : (item : Item) (net base : Network) (place : Option ℕ) (k : ℕ)
    (read_event : ReadEvent) → done_by item net ≡ node_asked_if place read_event (begun base)
    → place ≡ Some k → (given item net).state
    ≡ record (node_asked k read_event (begun base)).state
    { items = (node_asked k read_event (begun base)).state.items ++ item ∷ []; taken = 0 }
unfolding given
given_where item net base place k read_event done is =
    ap (λ (c : Progress Network). record c.state { items = c.state.items ++ item ∷ []; taken = 0 })
    (done ∙ ap (λ o. node_asked_if o read_event (begun base)) is)

-- ---- a line is said, or the client goes

-- where the client is
pub record IsAtHome (net : Network) (client : ℕ) (home : Name) : Type 0 where
  pub is_home : home_in net.homes client ≡ Some home
  pub among : IsAmong net.names home
  pub connected : is_some (get (view_at net home).clients client) ≡ true

pub record HasHome (net : Network) (client : ℕ) : Type 0 where
  pub home : Name
  pub at_home : IsAtHome net client home

there_for : (net : Network) (client : ℕ) → (if is_there net client then None
    else Some no_such_client) ≡ None → is_there net client ≡ true
there_for net client = by (is_there net client)
  where
    by : (b : Bool) → (if b then None else Some no_such_client) ≡ None → b ≡ true
    by true e = refl
    by false e = cc e

pub home_there : (net : Network) → IsSetUp net → (client : ℕ) → is_there net client ≡ true
    → HasHome net client
home_there net set_up client is = by (home_in net.homes client) refl
  where
    at : (home : Name) → home_in net.homes client ≡ Some home
        → option_map_or (has_client client) (node_view net home) false ≡ true → (b : Bool)
        → list_any (same home) net.names ≡ b → HasHome net client
    at home e seen true among = record {
      home = home;
      at_home = record {
        is_home = e;
        among = among;
        connected =
            sym (ap (λ o. option_map_or (has_client client) o false) (viewed net set_up home among))
            ∙ seen;
      };
    }
    at home e seen false none = let f =
        sym (ap (λ o. option_map_or (has_client client) o false) (viewed_nowhere net home none))
        ∙ seen in absurd (cc f)

    by : (o : Option Name) → home_in net.homes client ≡ o → HasHome net client
    by (Some home) e =
        at home e (sym (ap (λ o. option_map_or (has_client client) (option_and_then
        (node_view net) o) false) e) ∙ is) (list_any (same home) net.names) refl
    by None e = let f = sym
        (ap (λ o. option_map_or (has_client client) (option_and_then (node_view net) o) false) e)
        ∙ is in absurd (cc f)

-- the client's home has served it
pub record IsDoneAtHome (net : Network) (client : ℕ) (client_event : ClientEvent)
    (item : Item) : Type 0 where
  pub home : Name
  pub at_home : IsAtHome net client home
  pub served : IsServedFor net net (given item net).state home client_event item

home_asked : (net : Network) → IsSetUp net → (client : ℕ) (home : Name) → IsAtHome net client home
    → home_place net client ≡ Some (index_in net.names home)
home_asked net set_up client home at_home =
    ap (option_and_then (server_place net)) at_home.is_home
    ∙ (there net set_up home at_home.among).place

done_at_home : ServedKeepsItsSetting → (net : Network) → IsSound net
    → (client : ℕ) (client_event : ClientEvent) (item : Item) → ((view : View) → is_some
    (get view.clients client) ≡ true → serves_read_event view (of_client client_event) ≡ true)
    → done_by item net ≡ node_asked_if (home_place net client) (of_client client_event) (begun net)
    → is_there net client ≡ true → IsDoneAtHome net client client_event item
done_at_home stays net sound client client_event item taken done is =
    let found : HasHome net client = home_there net sound.set_up client is in
    record {
      home = found.home;
      at_home = found.at_home;
      served = subst (λ new. IsServedFor net net new found.home client_event item)
          (sym (given_where item net net (home_place net client) (index_in net.names found.home)
          (of_client client_event) done
          (home_asked net sound.set_up client found.home found.at_home)))
          (served_for stays net net.homes net.received sound.set_up sound.inboxes
          (λ c. refl) found.home found.at_home.among client_event
          (taken (view_at net found.home) found.at_home.connected) item);
    }

pub line_is_given : ServedKeepsItsSetting → (net : Network) → IsSound net
    → (client : ℕ) (bytes : List ℕ) → fault_at_rest net (line client bytes) ≡ None
    → IsDoneAtHome net client (says client (read_of bytes)) (line client bytes)
line_is_given stays net sound client bytes taken =
    done_at_home stays net sound client (says client (read_of bytes)) (line client bytes)
    (λ view is. is) refl (there_for net client taken)

pub gone_is_given : ServedKeepsItsSetting → (net : Network) → IsSound net → (client : ℕ)
    → fault_at_rest net (gone client) ≡ None → IsDoneAtHome net client (goes client) (gone client)
gone_is_given stays net sound client taken =
    done_at_home stays net sound client (goes client) (gone client) (λ view is. is) refl
    (there_for net client taken)

-- ---- a client connects

past_all : {A : Type 0} (xs : List A) → slice_get xs (length xs) ≡ None
past_all [] = refl
past_all (x ∷ xs) = past_all xs

-- nobody had that number
pub next_has_none : (net : Network) → home_in net.homes (next_client net) ≡ None
next_has_none net = ap (home_in net.homes) (add-one (length net.homes)) ∙ past_all net.homes

-- an inbox more, which is empty, is read as none
empty_behind : {A : Type 0} (xs : List (List A)) (i : ℕ)
    → unwrap_or (slice_get (xs ++ [] ∷ []) i) [] ≡ unwrap_or (slice_get xs i) []
empty_behind [] zero = refl
empty_behind [] (suc i) = refl
empty_behind (x ∷ xs) zero = refl
empty_behind (x ∷ xs) (suc i) = empty_behind xs i

received_as_before : (net : Network) (server : Name) (client : ℕ)
    → received_by (with_client server net) client ≡ received_by net client
received_as_before net server zero = refl
received_as_before net server (suc earlier) = empty_behind net.received earlier

long_behind : {A B : Type 0} (xs : List A) (ys : List B) (x : A) (y : B) → length xs ≡ length ys
    → length (xs ++ x ∷ []) ≡ length (ys ++ y ∷ [])
long_behind [] [] x y e = refl
long_behind [] (first ∷ ys) x y e = absurd (cc e)
long_behind (first ∷ xs) [] x y e = absurd (cc e)
long_behind (first ∷ xs) (other ∷ ys) x y e = ap suc (long_behind xs ys x y (shorter e))
  where
    shorter : length (first ∷ xs) ≡ length (other ∷ ys) → length xs ≡ length ys
    shorter same_length = omega (arith, same_length)

-- a new client is none of this server's yet
pub next_is_new : (net : Network) → IsOneRoom net → (server : Name) → IsAmong net.names server
    → get (view_at net server).clients (next_client net) ≡ None
next_is_new net room server among =
    ap (λ clients. get clients (next_client net)) (room.servers server among).clients
    ∙ get-retain_keys ((world_now net).hall server).clients (is_home_of net.homes server)
    (next_client net)
    (λ x e. ap (is_home_of net.homes server) (sym (nat_cmp-IsAntisymmetric (next_client net) x e)))
    ∙ ap (λ o. cond (option_map_or (same server) o false)
    (get ((world_now net).hall server).clients (next_client net)) None) (next_has_none net)

-- a client has connected to a server, which has served it
pub record IsConnected (net : Network) (server : Name) (host : List ℕ) : Type 0 where
  pub among : IsAmong net.names server
  pub served : IsServedFor net (with_client server net)
      (given (connect server host) net).state server
      (connects (next_client net) host) (connect server host)

placed_for : (o : Option ℕ) → (if is_some o then None else Some no_such_server) ≡ None
    → is_some o ≡ true
placed_for (Some place) e = refl
placed_for None e = cc e

pub connect_is_given : ServedKeepsItsSetting → (net : Network) → IsSound net → IsOneRoom net
    → (server : Name) (host : List ℕ) → fault_at_rest net (connect server host) ≡ None
    → IsConnected net server host
connect_is_given stays net sound room server host taken =
    let among : IsAmong net.names server =
    sym (placed_if net.names server) ∙ placed_for (server_place net server) taken in
    record {
      among = among;
      served = subst (λ new. IsServedFor net (with_client server net) new server
          (connects (next_client net) host) (connect server host))
          (sym (given_where (connect server host) net (with_client server net)
          (server_place net server) (index_in net.names server)
          (of_client (connects (next_client net) host)) refl
          (there net sound.set_up server among).place))
          (served_for stays net (net.homes ++ server ∷ []) (net.received ++ [] ∷ []) sound.set_up
          (long_behind net.received net.homes [] server sound.inboxes)
          (received_as_before net server) server among (connects (next_client net) host)
          (ap is_none (next_is_new net room server among)) (connect server host));
    }
