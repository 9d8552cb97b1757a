-- What a server is asked for opens no way and closes none.
use Rattle.std.proofs.Common.{◌≡◌, ℕ, zero, suc, Bool, true, false, cond, is_some, Option, Some}
use Rattle.std.proofs.Common.{None, List, [], ◌∷◌, ◌++◌, refl, sym, ◌∙◌, ap}
use Rattle.std.specs.FinMap.{get, insert}
use Rattle.std.specs.List.{slice_get, slice_set}
use Rattle.std.specs.Option.{option_and_then, option_map_or}
use Rattle.irc_batch.specs.Batches.{Sent, end_of, end_of_link, line_on, line_to}
use Rattle.irc_line.specs.Reading.{read_of}
use Rattle.irc_server.specs.Served.{ReadEvent, link_says}
use Rattle.irc_stage.specs.View.{View}
use Rattle.irc_stage.specs.Lemmas.Numbers.{get-with, one_number, same_number}
use Rattle.irc_network.specs.Network.{Progress, Network, Node, all_sent_out, node_asked, asked_at}
use Rattle.irc_network.specs.Network.{line_body, node_changed_at, line_counted, has_received}
use Rattle.irc_network.specs.Network.{has_received_at, line_queued, reply, sent_out, node_at}
use Rattle.irc_network.specs.Network.{with_reply, with_node, heard}
use Rattle.irc_network.specs.Whole.{has_way}

abbrev KeepsWays : Network → Network → Type 0
KeepsWays old new = (from to : ℕ) → has_way new from to ≡ has_way old from to

abbrev node_has : ℕ → Option Node → Bool
node_has to o = is_some (option_and_then (λ (node : Node). get node.queues to) o)

-- a node is put where one was that has the same ways
put_keeps : (net : Network) (place : ℕ) (node new : Node) → node_at net place ≡ Some node →
    ((to : ℕ) → is_some (get new.queues to) ≡ is_some (get node.queues to))
    → KeepsWays net (with_node place new net)
put_keeps net place node new at alike from to = by net.nodes place from at
  where
    by : (nodes : List Node) (place from : ℕ) → slice_get nodes place ≡ Some node
        → node_has to (slice_get (slice_set nodes place new) from) ≡ node_has to
        (slice_get nodes from)
    by [] place from is = cc is
    by (first ∷ nodes) zero zero is = alike to ∙ ap (node_has to) (sym is)
    by (first ∷ nodes) zero (suc from) is = refl
    by (first ∷ nodes) (suc place) zero is = refl
    by (first ∷ nodes) (suc place) (suc from) is = by nodes place from is

queued_keeps : (to : ℕ) (text : List ℕ) (node : Node) (q : ℕ)
    → is_some (get (line_queued to text node).queues q) ≡ is_some (get node.queues q)
queued_keeps to text node q = by (get node.queues to) refl
  where
    by : (o : Option (List (List ℕ))) → get node.queues to ≡ o
        → is_some (get (option_map_or (λ lines. record node {
          queues = insert node.queues to
              (lines ++ line_body text ∷ []);
        }) o node).queues q) ≡ is_some
        (get node.queues q)
    by None is = refl
    by (Some lines) is = ap is_some (get-with node.queues to (lines ++ line_body text ∷ []) q)
        ∙ one (same_number q to) refl
      where
        one : (b : Bool) → same_number q to ≡ b
            → is_some (cond b (Some (lines ++ line_body text ∷ [])) (get node.queues q))
            ≡ is_some (get node.queues q)
        one true same =
            ap is_some (sym is) ∙ ap (λ n. is_some (get node.queues n)) (sym (one_number q to same))
        one false two = refl

changed_keeps : (place to : ℕ) (text : List ℕ) (net : Network)
    → KeepsWays net (node_changed_at place (line_queued to text) net)
changed_keeps place to text net from q = by (node_at net place) refl
  where
    by : (o : Option Node) → node_at net place ≡ o → has_way (option_map_or (λ node.
        with_node place (line_queued to text node) net) o net) from q ≡ has_way net from q
    by None is = refl
    by (Some node) is =
        put_keeps net place node (line_queued to text node) is (queued_keeps to text node) from q

received_keeps : (client : ℕ) (text : List ℕ) (progress : Progress Network)
    → KeepsWays progress.state (has_received client text progress).state
received_keeps zero text progress from to = refl
received_keeps (suc earlier) text progress from to = by (slice_get progress.state.received earlier)
  where
    by : (o : Option (List (List ℕ))) → has_way (option_map_or
        (has_received_at earlier text progress) o progress).state from to
        ≡ has_way progress.state from to
    by None = refl
    by (Some lines) = refl

pub sent_keeps : (place : ℕ) (sent : Sent) (progress : Progress Network)
    → KeepsWays progress.state (sent_out place sent progress).state
sent_keeps place (line_to client text) progress from to =
    received_keeps client text progress from to
sent_keeps place (end_of client) progress from to = refl
sent_keeps place (line_on link text) progress from to =
    changed_keeps place link text progress.state from to
sent_keeps place (end_of_link link reason) progress from to = refl

pub all_keep : (place : ℕ) (out : List Sent) (progress : Progress Network)
    → KeepsWays progress.state (all_sent_out place out progress).state
all_keep place [] progress from to = refl
all_keep place (sent ∷ out) progress from to =
    all_keep place out (sent_out place sent progress) from to
    ∙ sent_keeps place sent progress from to

pub asked_keeps : (place : ℕ) (read_event : ReadEvent) (progress : Progress Network)
    → KeepsWays progress.state (node_asked place read_event progress).state
unfolding node_asked
asked_keeps place read_event progress from to = by_node (node_at progress.state place) refl
  where
    by_view : (node : Node) → node_at progress.state place ≡ Some node → (o : Option View)
        → has_way (option_map_or (λ (view : View). with_reply place progress node
        (reply view read_event)) o progress).state from to ≡ has_way progress.state from to
    by_view node at None = refl
    by_view node at (Some view) =
        let r = reply view read_event in
        all_keep place r.out (record progress {
          state = with_node place
              (record node { server = Some r.state }) progress.state;
        }) from to
        ∙ put_keeps progress.state place node (record node { server = Some r.state }) at
        (λ q. refl) from to

    by_node : (o : Option Node) → node_at progress.state place ≡ o → has_way (option_map_or
        (asked_at place read_event progress) o progress).state from to
        ≡ has_way progress.state from to
    by_node None at = refl
    by_node (Some node) at = by_view node at node.server

pub heard_ways : (x y : ℕ) (progress : Progress Network) (line : List ℕ) (from to : ℕ)
    → has_way (heard x y progress line).state from to ≡ has_way progress.state from to
heard_ways x y progress line from to = asked_keeps y (link_says x (read_of line))
    (record progress { state = line_counted progress.state }) from to
