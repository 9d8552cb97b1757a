-- A network of servers as it runs: each server, the lines that are on their way from one to
-- another, and what each client has received.
--
-- a.net and b.net are linked; al is client 1 at a.net, bo client 2 at b.net, both in #c. al says
-- hi:
--   given      a.net is asked for the line; `:al PRIVMSG #c :hi` waits on the way from a.net to
--              b.net; bo has received nothing yet
--   delivered  from a.net to b.net: b.net is asked for that line, the oldest that waits there, and
--              bo has received `:al!u@h PRIVMSG #c :hi`
--   at rest    no line is on its way
use Rattle.std.specs.Prelude.{◌≡◌, ℕ, zero, suc, ◌+◌, min, Bool, Option, Some, None, List, [], ◌∷◌}
use Rattle.std.specs.Prelude.{◌++◌, length, unwrap_or, nat_eq, if◌then◌else◌}
use Rattle.std.specs.List.{filter_map, list_all, slice_get, slice_set}
use Rattle.std.specs.Option.{option_and_then, option_map, option_map_or}
use Rattle.irc_batch.specs.Batches.{Sent, line_to, end_of, line_on, end_of_link}
use Rattle.irc_forest.specs.Forests.{Forest, place_in}
use Rattle.irc_line.specs.Reading.{read_of}
use Rattle.irc_relay.specs.Links.{Name, Link, links_without}
use Rattle.irc_stage.specs.Handle.{WithOutput, connects, says, goes}
use Rattle.irc_stage.specs.View.{View}
use Rattle.irc_server.specs.Served.{ReadEvent, of_client, link_up, link_says, link_down}
use Rattle.irc_world.specs.Stepping.{Item, connect, line, gone, link, cut}
use Rattle.irc_world.specs.World.{home_in}
pub use Rattle.irc_pipes.specs.Pipes.{Direction}
pub use Rattle.irc_network.specs.Node.{Served, Node, line_body, first_way, is_nothing, is_quiet}
pub use Rattle.irc_network.specs.Node.{serves_read_event, left, line_queued, reply, waiting, waits}
pub use Rattle.irc_network.specs.Node.{with_way, without_way}

-- The servers' names in order, and the servers in the order of their names; the links, the newest
-- first; the home of each client, in the order of their numbers, which begin with 1, and what it
-- has received, whole lines; what was given, in turn; how many lines were taken since.
pub record Network : Type 0 where
  pub names : List Name
  pub nodes : List Node
  pub links : List Link
  pub homes : List Name
  pub received : List (List (List ℕ))
  pub items : List Item
  pub taken : ℕ

-- these servers as they begin: no client, and nothing given yet
abbrev pub new_network : Forest → List Node → Network
new_network forest nodes =
    record {
      names = forest.names;
      nodes = nodes;
      links = forest.links;
      homes = [];
      received = [];
      items = [];
      taken = 0;
    }

-- a line that a client receives, whole
pub record Receipt : Type 0 where
  pub client : ℕ
  pub text : List ℕ

-- a network, of lines or of bytes, while something is done to it, and as its output what clients
-- have received by that so far, in order
abbrev pub Progress : Type 0 → Type 0
Progress Net = WithOutput Net (List Receipt)

-- nothing has been done to it yet, and nothing received by that
abbrev pub begun : {Net : Type 0} → Net → Progress Net
begun net = record { state = net; out = [] }

-- ---- who is where

-- the place of the server of this name, if there is one; ways are kept by places
abbrev pub server_place : Network → Name → Option ℕ
server_place net name = place_in net.names name

-- the server at this place, with the lines that wait on its ways
abbrev pub node_at : Network → ℕ → Option Node
node_at net place = slice_get net.nodes place

-- the same by its name
abbrev pub node_of : Network → Name → Option Node
node_of net name = option_and_then (node_at net) (server_place net name)

-- what the server of this name knows and holds, where one is there
abbrev pub node_view : Network → Name → Option View
node_view net name = option_and_then (λ (node : Node). node.server) (node_of net name)

-- ---- lines on their way

-- no line is on its way
abbrev pub is_at_rest : Network → Bool
is_at_rest net = list_all is_quiet net.nodes

-- a server is changed, where there is one at this place
abbrev pub with_node : ℕ → Node → Network → Network
with_node place node net = record net { nodes = slice_set net.nodes place node }

-- where no server is at the place, nothing is changed
abbrev pub node_changed_at : ℕ → (Node → Node) → Network → Network
node_changed_at place change net =
    option_map_or (λ node. with_node place (change node) net) (node_at net place) net

-- ---- what a server puts out

-- one line that came to one client
abbrev pub receipt : ℕ → List ℕ → Receipt
receipt client text = record { client = client; text = text }

abbrev pub has_received_at : ℕ → List ℕ → Progress Network → List (List ℕ) → Progress Network
has_received_at earlier text progress lines = record {
  state = record progress.state {
    received = slice_set progress.state.received earlier
        (lines ++ text ∷ []);
  };
  out = progress.out ++ receipt (suc earlier) text ∷ [];
}

-- behind all that the client has received
abbrev pub has_received : ℕ → List ℕ → Progress Network → Progress Network
has_received zero text progress = progress
has_received (suc earlier) text progress =
    option_map_or (has_received_at earlier text progress)
    (slice_get progress.state.received earlier) progress

-- a line to a client is received, one on a link waits there; of an end nothing is left to be done
abbrev pub sent_out : ℕ → Sent → Progress Network → Progress Network
sent_out place (line_to client text) progress = has_received client text progress
sent_out place (end_of client) progress = progress
sent_out place (line_on to text) progress =
    record progress { state = node_changed_at place (line_queued to text) progress.state }
sent_out place (end_of_link to reason) progress = progress

abbrev pub all_sent_out : ℕ → List Sent → Progress Network → Progress Network
all_sent_out place [] progress = progress
all_sent_out place (sent ∷ more) progress = all_sent_out place more (sent_out place sent progress)

abbrev pub with_reply : ℕ → Progress Network → Node → Served → Progress Network
with_reply place progress node r =
    all_sent_out place r.out
    (record progress {
      state = with_node place
          (record node { server = Some r.state }) progress.state;
    })

abbrev pub asked_at : ℕ → ReadEvent → Progress Network → Node → Progress Network
asked_at place read_event progress node =
    option_map_or
    (λ (view : View). with_reply place progress node (reply view read_event)) node.server progress

-- a server is asked for something that happens, and what it puts out goes its way
unfoldable pub node_asked : ℕ → ReadEvent → Progress Network → Progress Network
node_asked place read_event progress =
    option_map_or (asked_at place read_event progress) (node_at progress.state place) progress

-- ---- a line is delivered

-- a count of lines stays at 2^64 - 1 once there
abbrev pub max_count : ℕ
max_count = 18446744073709551615

-- a line more has been taken since the last item
abbrev pub line_counted : Network → Network
line_counted net = record net { taken = min (net.taken + 1) max_count }

-- a server is asked for a line that has come from another, and the line is counted
abbrev pub heard : ℕ → ℕ → Progress Network → List ℕ → Progress Network
heard from to progress bytes =
    node_asked to (link_says from (read_of bytes))
    (record progress { state = line_counted progress.state })

abbrev pub taken_of : ℕ → ℕ → Progress Network → Node → List (List ℕ) → Option (Progress Network)
taken_of from to progress node [] = None
taken_of from to progress node (first ∷ rest) =
    Some (node_asked to (link_says from (read_of first))
    (record progress { state = line_counted (with_node from (left to rest node) progress.state) }))

-- The oldest line from one server to another is taken, and the other is asked for it. None: no line
-- waits there.
unfoldable pub delivered : ℕ → ℕ → Progress Network → Option (Progress Network)
delivered from to progress = option_and_then
    (λ (node : Node). taken_of from to progress node (waiting node to))
    (node_at progress.state from)

abbrev pub direction : ℕ → ℕ → Direction
direction from to = record { from = from; to = to }

-- the first way on which a line waits, by the place that it is from and then the one where it goes
abbrev pub first_among : ℕ → List Node → Option Direction
first_among place [] = None
first_among place (node ∷ nodes) =
    option_map_or (λ to. Some (direction place to)) (first_way node) (first_among (place + 1) nodes)

abbrev pub first_direction : Network → Option Direction
first_direction net = first_among 0 net.nodes

-- the oldest line of the first direction is taken; None: no line waits
abbrev pub next_in_turn : Progress Network → Option (Progress Network)
next_in_turn progress =
    option_and_then (λ (d : Direction). delivered d.from d.to progress)
    (first_direction progress.state)

-- how many lines can be taken in turn, of a number at most
abbrev pub lines_left : ℕ → Progress Network → ℕ
lines_left zero progress = 0
lines_left (suc most) progress =
    option_map_or (λ next. suc (lines_left most next)) (next_in_turn progress) 0

-- So many lines are taken, each time the oldest of the first direction.
pub data TakesInTurn : ℕ → Progress Network → Progress Network → Type 0 where
  none_yet : {progress : Progress Network} → TakesInTurn 0 progress progress
  then_one : {count : ℕ} {progress between last : Progress Network} {direction : Direction}
      → TakesInTurn count progress between → first_direction between.state ≡ Some direction
      → delivered direction.from direction.to between ≡ Some last
      → TakesInTurn (suc count) progress last

-- ---- what is given

-- a client more; its number is the next
abbrev pub with_client : Name → Network → Network
with_client home net =
    record net { homes = net.homes ++ home ∷ []; received = net.received ++ [] ∷ [] }

-- a server is asked, if it is there
abbrev pub node_asked_if : Option ℕ → ReadEvent → Progress Network → Progress Network
node_asked_if None read_event progress = progress
node_asked_if (Some place) read_event progress = node_asked place read_event progress

-- the place of the server that a client connected to
abbrev pub home_place : Network → ℕ → Option ℕ
home_place net client = option_and_then (server_place net) (home_in net.homes client)

-- where two servers are
pub record LinkPlaces : Type 0 where
  pub near : ℕ
  pub far : ℕ

-- none unless both are servers
abbrev pub link_places : Network → Name → Name → Option LinkPlaces
link_places net near far =
    option_and_then (λ one. option_map (λ other. record { near = one; far = other })
    (server_place net far)) (server_place net near)

-- Two servers are linked, the first connecting; a link between two is lost, at the first of them
-- first.
abbrev pub servers_linked : Name → Name → Network → LinkPlaces → Progress Network
servers_linked near far net ends =
    node_asked ends.far (link_up ends.near None) (node_asked ends.near (link_up ends.far (Some far))
    (begun (node_changed_at ends.far (with_way ends.near)
    (node_changed_at ends.near (with_way ends.far)
    (record net { links = record { near = near; far = far } ∷ net.links })))))

-- The way between them is gone before they are asked, with what waits on it.
abbrev pub servers_parted : Name → Name → Network → LinkPlaces → Progress Network
servers_parted near far net ends =
    node_asked ends.far (link_down ends.near) (node_asked ends.near (link_down ends.far)
    (begun (node_changed_at ends.far (without_way ends.near)
    (node_changed_at ends.near (without_way ends.far)
    (record net { links = links_without net.links near far })))))

-- clients are numbered from 1, in the order in which they connect
abbrev pub next_client : Network → ℕ
next_client net = length net.homes + 1

-- what an item does at once; the lines that it sets on their way are delivered later
abbrev pub done_by : Item → Network → Progress Network
done_by (connect server host) net =
    node_asked_if (server_place net server) (of_client (connects (next_client net) host))
    (begun (with_client server net))
done_by (line client bytes) net =
    node_asked_if (home_place net client) (of_client (says client (read_of bytes))) (begun net)
done_by (gone client) net =
    node_asked_if (home_place net client) (of_client (goes client)) (begun net)
done_by (link near far) net =
    option_map_or (servers_linked near far net) (link_places net near far) (begun net)
done_by (cut near far) net =
    option_map_or (servers_parted near far net) (link_places net near far) (begun net)

-- it is kept, and lines are counted anew
abbrev pub item_kept : Item → Progress Network → Progress Network
item_kept item progress =
    record progress
    { state = record progress.state { items = progress.state.items ++ item ∷ []; taken = 0 } }

unfoldable pub given : Item → Network → Progress Network
given item net = item_kept item (done_by item net)

-- the number that it gives to a client
abbrev pub number_given : Network → Item → Option ℕ
number_given net (connect server host) = Some (next_client net)
number_given net (line client bytes) = None
number_given net (gone client) = None
number_given net (link near far) = None
number_given net (cut near far) = None

-- ---- what a client has received

-- nothing for a number that was never given
abbrev pub received_by : Network → ℕ → List (List ℕ)
received_by net zero = []
received_by net (suc earlier) = unwrap_or (slice_get net.received earlier) []

-- the lines among these that are for a client, in turn
abbrev pub line_received : ℕ → Receipt → Option (List ℕ)
line_received client receipt = if nat_eq receipt.client client then Some receipt.text else None

abbrev pub lines_of_client : ℕ → List Receipt → List (List ℕ)
lines_of_client client = filter_map (line_received client)

-- By something that is done to a network each client has received just its lines among the
-- receipts, behind all that it had.
abbrev pub AreReceived : Network → Progress Network → Type 0
AreReceived old new = (client : ℕ) → received_by new.state client ≡ received_by old client
    ++ lines_of_client client new.out
