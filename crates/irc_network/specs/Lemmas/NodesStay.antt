-- A network keeps its servers, whatever is given to it.
use Rattle.std.proofs.Common.{◌≡◌, ℕ, zero, suc, Option, Some, None, List, [], ◌∷◌, length, refl}
use Rattle.std.proofs.Common.{◌∙◌, ap}
use Rattle.std.specs.List.{slice_get, slice_set}
use Rattle.std.specs.Option.{option_map_or}
use Rattle.irc_batch.specs.Batches.{Sent, end_of, end_of_link, line_on, line_to}
use Rattle.irc_line.specs.Reading.{read_of}
use Rattle.irc_server.specs.Served.{ReadEvent, link_says, of_client}
use Rattle.irc_stage.specs.Handle.{connects, goes, says}
use Rattle.irc_stage.specs.View.{View}
use Rattle.irc_world.specs.Stepping.{Item, connect, line, gone, link, cut}
use Rattle.irc_network.specs.Network.{Progress, LinkPlaces, Network, Node, all_sent_out, node_asked}
use Rattle.irc_network.specs.Network.{asked_at, begun, line_counted, node_asked_if, node_changed_at}
use Rattle.irc_network.specs.Network.{done_by, link_places, given, has_received, has_received_at}
use Rattle.irc_network.specs.Network.{heard, home_place, servers_parted, servers_linked}
use Rattle.irc_network.specs.Network.{next_client, server_place, line_queued, reply, sent_out}
use Rattle.irc_network.specs.Network.{node_at, with_client, with_reply, with_node, with_way}
use Rattle.irc_network.specs.Network.{without_way}
use Rattle.irc_network.specs.ByteNetwork.{all_heard}

abbrev pub servers : Network → ℕ
servers net = length net.nodes

length_set : (nodes : List Node) (place : ℕ) (node : Node)
    → length (slice_set nodes place node) ≡ length nodes
length_set [] place node = refl
length_set (first ∷ nodes) zero node = refl
length_set (first ∷ nodes) (suc place) node = ap suc (length_set nodes place node)

pub put_stays : (place : ℕ) (node : Node) (net : Network)
    → servers (with_node place node net) ≡ servers net
put_stays place node net = length_set net.nodes place node

pub changed_stays : (place : ℕ) (change : Node → Node) (net : Network)
    → servers (node_changed_at place change net) ≡ servers net
changed_stays place change net = by (node_at net place)
  where
    by : (o : Option Node)
        → servers (option_map_or (λ node. with_node place (change node) net) o net) ≡ servers net
    by None = refl
    by (Some node) = put_stays place (change node) net

received_stays : (client : ℕ) (text : List ℕ) (progress : Progress Network)
    → servers (has_received client text progress).state ≡ servers progress.state
received_stays zero text progress = refl
received_stays (suc earlier) text progress = by (slice_get progress.state.received earlier)
  where
    by : (o : Option (List (List ℕ))) → servers
        (option_map_or (has_received_at earlier text progress) o progress).state
        ≡ servers progress.state
    by None = refl
    by (Some lines) = refl

sent_stays : (place : ℕ) (sent : Sent) (progress : Progress Network)
    → servers (sent_out place sent progress).state ≡ servers progress.state
sent_stays place (line_to client text) progress = received_stays client text progress
sent_stays place (end_of client) progress = refl
sent_stays place (line_on to text) progress =
    changed_stays place (line_queued to text) progress.state
sent_stays place (end_of_link to reason) progress = refl

pub all_stay : (place : ℕ) (out : List Sent) (progress : Progress Network)
    → servers (all_sent_out place out progress).state ≡ servers progress.state
all_stay place [] progress = refl
all_stay place (sent ∷ out) progress =
    all_stay place out (sent_out place sent progress) ∙ sent_stays place sent progress

pub asked_stays : (place : ℕ) (read_event : ReadEvent) (progress : Progress Network)
    → servers (node_asked place read_event progress).state ≡ servers progress.state
unfolding node_asked
asked_stays place read_event progress = by_node (node_at progress.state place)
  where
    by_view : (node : Node) (o : Option View) → servers (option_map_or (λ (view : View).
        with_reply place progress node (reply view read_event)) o progress).state
        ≡ servers progress.state
    by_view node None = refl
    by_view node (Some view) =
        let r = reply view read_event in
        all_stay place r.out (record progress {
          state = with_node place
              (record node { server = Some r.state }) progress.state;
        })
        ∙ put_stays place (record node { server = Some r.state }) progress.state

    by_node : (o : Option Node) → servers
        (option_map_or (asked_at place read_event progress) o progress).state
        ≡ servers progress.state
    by_node None = refl
    by_node (Some node) = by_view node node.server

pub heard_stays : (from to : ℕ) (progress : Progress Network) (bytes : List ℕ)
    → servers (heard from to progress bytes).state ≡ servers progress.state
heard_stays from to progress bytes = asked_stays to (link_says from (read_of bytes))
    (record progress { state = line_counted progress.state })

pub all_heard_stay : (from to : ℕ) (progress : Progress Network) (lines : List (List ℕ))
    → servers (all_heard from to progress lines).state ≡ servers progress.state
all_heard_stay from to progress [] = refl
all_heard_stay from to progress (bytes ∷ lines) =
    all_heard_stay from to (heard from to progress bytes) lines ∙ heard_stays from to progress bytes

asked_of_stays : (place : Option ℕ) (read_event : ReadEvent) (progress : Progress Network)
    → servers (node_asked_if place read_event progress).state ≡ servers progress.state
asked_of_stays None read_event progress = refl
asked_of_stays (Some place) read_event progress = asked_stays place read_event progress

twice_asked : (far near : ℕ) (one other : ReadEvent) (progress : Progress Network)
    → servers (node_asked far one (node_asked near other progress)).state ≡ servers progress.state
twice_asked far near one other progress = asked_stays far one (node_asked near other progress)
    ∙ asked_stays near other progress

twice_changed : (far near : ℕ) (one other : Node → Node) (net : Network)
    → servers (node_changed_at far one (node_changed_at near other net)) ≡ servers net
twice_changed far near one other net = changed_stays far one (node_changed_at near other net)
    ∙ changed_stays near other net

done_stays : (item : Item) (net : Network) → servers (done_by item net).state ≡ servers net
done_stays (connect server host) net = asked_of_stays (server_place net server)
    (of_client (connects (next_client net) host)) (begun (with_client server net))
done_stays (line client bytes) net =
    asked_of_stays (home_place net client) (of_client (says client (read_of bytes))) (begun net)
done_stays (gone client) net =
    asked_of_stays (home_place net client) (of_client (goes client)) (begun net)
done_stays (link near far) net = by (link_places net near far)
  where
    by : (o : Option LinkPlaces)
        → servers (option_map_or (servers_linked near far net) o (begun net)).state ≡ servers net
    by None = refl
    by (Some ends) = twice_asked ends.far ends.near _ _ _
        ∙ twice_changed ends.far ends.near (with_way ends.near) (with_way ends.far) _
done_stays (cut near far) net = by (link_places net near far)
  where
    by : (o : Option LinkPlaces)
        → servers (option_map_or (servers_parted near far net) o (begun net)).state ≡ servers net
    by None = refl
    by (Some ends) = twice_asked ends.far ends.near _ _ _
        ∙ twice_changed ends.far ends.near (without_way ends.near) (without_way ends.far) _

pub given_stays : (item : Item) (net : Network) → servers (given item net).state ≡ servers net
unfolding given
given_stays item net = done_stays item net
