-- What servers do leaves as it is what was given.
use Rattle.std.proofs.Common.{◌≡◌, ℕ, zero, suc, Option, Some, None, List, [], ◌∷◌, refl, ◌∙◌}
use Rattle.std.specs.List.{slice_get}
use Rattle.std.specs.Option.{option_map_or}
use Rattle.irc_batch.specs.Batches.{Sent, line_to, end_of, line_on, end_of_link}
use Rattle.irc_server.specs.Served.{ReadEvent}
use Rattle.irc_stage.specs.View.{View}
use Rattle.irc_world.specs.Stepping.{Item, connect, line, gone, link, cut}
use Rattle.irc_network.specs.Network.{Progress, LinkPlaces, Network, Node, all_sent_out, node_asked}
use Rattle.irc_network.specs.Network.{asked_at, begun, done_by, node_asked_if, node_changed_at}
use Rattle.irc_network.specs.Network.{link_places, has_received, has_received_at, home_place}
use Rattle.irc_network.specs.Network.{servers_parted, servers_linked, server_place, reply, sent_out}
use Rattle.irc_network.specs.Network.{node_at, with_reply, with_node}

abbrev pub items_of : Progress Network → List Item
items_of progress = progress.state.items

received_keeps : (client : ℕ) (text : List ℕ) (progress : Progress Network)
    → items_of (has_received client text progress) ≡ items_of progress
received_keeps zero text progress = refl
received_keeps (suc earlier) text progress = by (slice_get progress.state.received earlier)
  where
    by : (o : Option (List (List ℕ))) → items_of
        (option_map_or (has_received_at earlier text progress) o progress) ≡ items_of progress
    by None = refl
    by (Some lines) = refl

changed_keeps : (place : ℕ) (change : Node → Node) (net : Network)
    → (node_changed_at place change net).items ≡ net.items
changed_keeps place change net = by (node_at net place)
  where
    by : (o : Option Node) → (option_map_or (λ node. with_node place (change node) net) o net).items
        ≡ net.items
    by None = refl
    by (Some node) = refl

sent_keeps : (place : ℕ) (sent : Sent) (progress : Progress Network)
    → items_of (sent_out place sent progress) ≡ items_of progress
sent_keeps place (line_to client text) progress = received_keeps client text progress
sent_keeps place (end_of client) progress = refl
sent_keeps place (line_on to text) progress = changed_keeps place _ progress.state
sent_keeps place (end_of_link to reason) progress = refl

all_keep : (place : ℕ) (out : List Sent) (progress : Progress Network)
    → items_of (all_sent_out place out progress) ≡ items_of progress
all_keep place [] progress = refl
all_keep place (sent ∷ more) progress =
    all_keep place more (sent_out place sent progress) ∙ sent_keeps place sent progress

asked_keeps : (place : ℕ) (read_event : ReadEvent) (progress : Progress Network)
    → items_of (node_asked place read_event progress) ≡ items_of progress
unfolding node_asked
asked_keeps place read_event progress = by (node_at progress.state place)
  where
    by_view : (node : Node) (o : Option View) → items_of (option_map_or (λ (view : View).
        with_reply place progress node (reply view read_event)) o progress) ≡ items_of progress
    by_view node None = refl
    by_view node (Some view) = all_keep place (reply view read_event).out
        (record progress {
          state = with_node place
              (record node { server = Some (reply view read_event).state }) progress.state;
        })

    by : (o : Option Node)
        → items_of (option_map_or (asked_at place read_event progress) o progress)
        ≡ items_of progress
    by None = refl
    by (Some node) = by_view node node.server

asked_of_keeps : (place : Option ℕ) (read_event : ReadEvent) (progress : Progress Network)
    → items_of (node_asked_if place read_event progress) ≡ items_of progress
asked_of_keeps None read_event progress = refl
asked_of_keeps (Some place) read_event progress = asked_keeps place read_event progress

both_keep : (net : Network) (place other : ℕ) (change turn : Node → Node)
    → (node_changed_at other turn (node_changed_at place change net)).items ≡ net.items
both_keep net place other change turn = changed_keeps other turn (node_changed_at place change net)
    ∙ changed_keeps place change net

pub same_items : (item : Item) (net : Network) → items_of (done_by item net) ≡ net.items
same_items (connect server host) net = asked_of_keeps (server_place net server) _ _
same_items (line client bytes) net = asked_of_keeps (home_place net client) _ (begun net)
same_items (gone client) net = asked_of_keeps (home_place net client) _ (begun net)
same_items (link near far) net = by (link_places net near far)
  where
    by : (o : Option LinkPlaces)
        → items_of (option_map_or (servers_linked near far net) o (begun net)) ≡ net.items
    by None = refl
    by (Some ends) =
        asked_keeps ends.far _ _ ∙ asked_keeps ends.near _ _ ∙ both_keep _ ends.near ends.far _ _
same_items (cut near far) net = by (link_places net near far)
  where
    by : (o : Option LinkPlaces)
        → items_of (option_map_or (servers_parted near far net) o (begun net)) ≡ net.items
    by None = refl
    by (Some ends) =
        asked_keeps ends.far _ _ ∙ asked_keeps ends.near _ _ ∙ both_keep _ ends.near ends.far _ _
