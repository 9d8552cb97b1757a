-- What is done to a network is done to it with lines ahead as without.
use Rattle.std.proofs.Common.{◌≡◌, ℕ, zero, suc, Option, Some, None, List, [], ◌∷◌, refl, ◌∙◌, ap}
use Rattle.std.proofs.Common.{option_map}
use Rattle.std.specs.List.{slice_get, slice_set}
use Rattle.std.specs.Option.{option_and_then, option_map_or}
use Rattle.irc_batch.specs.Batches.{Sent, end_of, end_of_link, line_on, line_to}
use Rattle.irc_relay.specs.Links.{Name}
use Rattle.irc_server.specs.Served.{ReadEvent}
use Rattle.irc_stage.specs.View.{View}
use Rattle.irc_network.specs.Network.{Progress, Network, Served, Node, all_sent_out, node_asked}
use Rattle.irc_network.specs.Network.{asked_at, node_changed_at, has_received, has_received_at}
use Rattle.irc_network.specs.Network.{server_place, line_queued, reply, sent_out, node_at}
use Rattle.irc_network.specs.Network.{node_view, with_reply, with_node}
use Rattle.irc_network.specs.Behind.{Ahead, net_behind, progress_behind, node_behind}
use Rattle.irc_network.specs.Behind.{nodes_behind}
use Rattle.irc_network.specs.Lemmas.Ways.{queued_behind}

-- ---- nodes by place

pub get-behind : (ahead : Ahead) (nodes : List Node) (place : ℕ)
    → slice_get (nodes_behind ahead nodes) place ≡ option_map (node_behind (ahead place))
    (slice_get nodes place)
get-behind ahead [] place = refl
get-behind ahead (node ∷ nodes) zero = refl
get-behind ahead (node ∷ nodes) (suc place) = get-behind (λ n. ahead (suc n)) nodes place

pub set-behind : (ahead : Ahead) (nodes : List Node) (place : ℕ) (node : Node)
    → slice_set (nodes_behind ahead nodes) place (node_behind (ahead place) node)
    ≡ nodes_behind ahead (slice_set nodes place node)
set-behind ahead [] place node = refl
set-behind ahead (first ∷ nodes) zero node = refl
set-behind ahead (first ∷ nodes) (suc place) node =
    ap (λ more. node_behind (ahead 0) first ∷ more)
    (set-behind (λ n. ahead (suc n)) nodes place node)

module _ (ahead : Ahead) where
  pub at-behind : (net : Network) (place : ℕ) → node_at (net_behind ahead net) place
      ≡ option_map (node_behind (ahead place)) (node_at net place)
  at-behind net place = get-behind ahead net.nodes place

  pub put-behind : (place : ℕ) (node : Node) (net : Network) → with_node place (node_behind
      (ahead place) node) (net_behind ahead net) ≡ net_behind ahead (with_node place node net)
  put-behind place node net =
      ap (λ nodes. record net { nodes = nodes }) (set-behind ahead net.nodes place node)

  -- a change of a node that looks at no line
  pub changed-behind : (place : ℕ) (change : Node → Node) (net : Network) → ((node : Node)
      → change (node_behind (ahead place) node) ≡ node_behind (ahead place) (change node))
      → node_changed_at place change (net_behind ahead net) ≡ net_behind ahead
      (node_changed_at place change net)
  changed-behind place change net alike =
      ap (λ o. option_map_or (λ node. with_node place (change node) (net_behind ahead net)) o
      (net_behind ahead net)) (at-behind net place)
      ∙ by (node_at net place)
    where
      by : (o : Option Node) → option_map_or (λ node. with_node place (change node)
          (net_behind ahead net)) (option_map (node_behind (ahead place)) o)
          (net_behind ahead net)
          ≡ net_behind ahead (option_map_or (λ node. with_node place (change node) net) o net)
      by None = refl
      by (Some node) = ap (λ s. with_node place s (net_behind ahead net)) (alike node)
          ∙ put-behind place (change node) net

  pub viewed-behind : (net : Network) (name : Name)
      → node_view (net_behind ahead net) name ≡ node_view net name
  viewed-behind net name = by_place (server_place net name)
    where
      by_node : (o : Option Node) (place : ℕ) → option_and_then (λ (node : Node). node.server)
          (option_map (node_behind (ahead place)) o)
          ≡ option_and_then (λ (node : Node). node.server) o
      by_node None place = refl
      by_node (Some node) place = refl

      by_place : (o : Option ℕ) → option_and_then (λ (node : Node). node.server)
          (option_and_then (node_at (net_behind ahead net)) o)
          ≡ option_and_then (λ (node : Node). node.server) (option_and_then (node_at net) o)
      by_place None = refl
      by_place (Some place) = ap (option_and_then (λ (node : Node). node.server))
          (at-behind net place) ∙ by_node (node_at net place) place

  -- ---- what is put out

  received-behind : (client : ℕ) (text : List ℕ) (progress : Progress Network)
      → has_received client text (progress_behind ahead progress) ≡ progress_behind ahead
      (has_received client text progress)
  received-behind zero text progress = refl
  received-behind (suc earlier) text progress = by (slice_get progress.state.received earlier)
    where
      by : (o : Option (List (List ℕ))) → option_map_or
          (has_received_at earlier text (progress_behind ahead progress)) o
          (progress_behind ahead progress)
          ≡ progress_behind ahead (option_map_or (has_received_at earlier text progress) o progress)
      by None = refl
      by (Some lines) = refl

  sent-behind : (place : ℕ) (sent : Sent) (progress : Progress Network)
      → sent_out place sent (progress_behind ahead progress) ≡ progress_behind ahead
      (sent_out place sent progress)
  sent-behind place (line_to client text) progress = received-behind client text progress
  sent-behind place (end_of client) progress = refl
  sent-behind place (line_on to text) progress =
      ap (λ net. record progress { state = net })
      (changed-behind place (line_queued to text) progress.state
      (queued_behind (ahead place) to text))
  sent-behind place (end_of_link to reason) progress = refl

  all-sent-behind : (place : ℕ) (out : List Sent) (progress : Progress Network)
      → all_sent_out place out
      (progress_behind ahead progress) ≡ progress_behind ahead (all_sent_out place out progress)
  all-sent-behind place [] progress = refl
  all-sent-behind place (sent ∷ out) progress =
      ap (all_sent_out place out) (sent-behind place sent progress)
      ∙ all-sent-behind place out (sent_out place sent progress)

  -- ---- a server is asked

  reply-behind : (place : ℕ) (progress : Progress Network) (node : Node) (r : Served)
      → with_reply place (progress_behind ahead progress) (node_behind (ahead place) node) r
      ≡ progress_behind ahead (with_reply place progress node r)
  reply-behind place progress node r =
      ap (λ net. all_sent_out place r.out (record progress { state = net }))
      (put-behind place (record node { server = Some r.state }) progress.state)
      ∙ all-sent-behind place r.out (record progress {
        state = with_node place
            (record node { server = Some r.state }) progress.state;
      })

  pub asked-behind : (place : ℕ) (read_event : ReadEvent) (progress : Progress Network)
      → node_asked place read_event (progress_behind ahead progress) ≡ progress_behind ahead
      (node_asked place read_event progress)
  unfolding node_asked
  asked-behind place read_event progress =
      ap (λ o. option_map_or (asked_at place read_event (progress_behind ahead progress)) o
      (progress_behind ahead progress)) (at-behind progress.state place)
      ∙ by_node (node_at progress.state place)
    where
      by_view : (node : Node) (o : Option View) → option_map_or (λ (view : View). with_reply place
          (progress_behind ahead progress) (node_behind (ahead place) node)
          (reply view read_event)) o
          (progress_behind ahead progress)
          ≡ progress_behind ahead (option_map_or
          (λ (view : View). with_reply place progress node (reply view read_event)) o progress)
      by_view node None = refl
      by_view node (Some view) = reply-behind place progress node (reply view read_event)

      by_node : (o : Option Node)
          → option_map_or (asked_at place read_event (progress_behind ahead progress))
          (option_map (node_behind (ahead place)) o) (progress_behind ahead progress)
          ≡ progress_behind ahead (option_map_or (asked_at place read_event progress) o progress)
      by_node None = refl
      by_node (Some node) = by_view node node.server
