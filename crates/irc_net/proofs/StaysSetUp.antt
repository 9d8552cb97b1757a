-- How servers are set up, and what was given: both stay, whatever servers are asked for.
use Rattle.std.proofs.Common.{◌≡◌, ℕ, zero, suc, Bool, true, false, Option, Some, None, List, []}
use Rattle.std.proofs.Common.{◌∷◌, ◌++◌, map, unwrap_or, option_map, refl, sym, ◌∙◌, ap}
use Rattle.std.proofs.Common.{if◌then◌else◌}
use Rattle.std.specs.FinMap.{get, insert}
use Rattle.std.specs.List.{cons_option, filter_map, slice_get, slice_set}
use Rattle.std.specs.Option.{option_map_or}
use Rattle.irc_batch.specs.Batches.{Sent, line_to, end_of, line_on, end_of_link}
use Rattle.irc_line.specs.Reading.{read_of}
use Rattle.irc_server.specs.Served.{IsSetAlike, ReadEvent, ServedKeepsItsSetting, link_says}
use Rattle.irc_server.specs.Served.{served}
use Rattle.irc_relay.specs.Links.{Name}
use Rattle.irc_routes.specs.declared.programs.Programs.{Programs}
use Rattle.irc_server.specs.declared.config.Config.{Config}
use Rattle.irc_stage.specs.View.{View}
use Rattle.irc_world.specs.Stepping.{Item}
use Rattle.irc_network.specs.Behind.{Ahead, emptied, emptied_node, nodes_behind}
use Rattle.irc_network.specs.ByteNetwork.{ByteNetwork, all_heard}
use Rattle.irc_network.specs.ByteNetwork.{bytes_come, completed_in, progress_without_pipes}
use Rattle.irc_network.specs.ByteNetwork.{item_given, lines_ahead, net_in_lines}
use Rattle.irc_network.specs.Turns.{TurnsGo, none_yet, turn_first, turn_in, turn_taken}
use Rattle.irc_items.specs.Laws.{GivenKeepsSettings}
use Rattle.irc_items.specs.SetUp.{setting_at, setting_now, settings_of}
use Rattle.irc_net.specs.Calls.{NetView, Settles, standing}
use Rattle.irc_net.specs.Laws.{BeginsSetUp, SettingsStay, StaysSetUp}
use Rattle.irc_net.specs.Making.{IsMadeOf, new_node, setting_given}
use Rattle.irc_network.specs.Laws.{GivenIsKept}
use Rattle.irc_network.specs.Network.{Progress, Network, Receipt, Served, Node, all_sent_out}
use Rattle.irc_network.specs.Network.{asked_at}
use Rattle.irc_network.specs.Network.{given, has_received, has_received_at, heard, line_body}
use Rattle.irc_network.specs.Network.{line_counted, line_queued, reply, sent_out, serves_read_event}
use Rattle.irc_network.specs.Network.{begun, node_asked, node_at, node_changed_at, with_reply}
use Rattle.irc_network.specs.Network.{with_node}
use Rattle.irc_pipes.specs.Pipes.{Direction, first_direction}

-- What is read of a network, where neither what clients receive nor a server that is set up as
-- before makes a difference to it.
pub record IsLeft {X : Type 0} (read : Network → X) : Type 0 where
  pub set : (place : ℕ) (node after : Node) (net : Network) → node_at net place ≡ Some node
      → setting_at after ≡ setting_at node → read (with_node place after net) ≡ read net
  pub told : (net : Network) (received : List (List (List ℕ)))
      → read (record net { received = received }) ≡ read net
  pub counted : (net : Network) → read (line_counted net) ≡ read net
  pub emptied_too : (net : Network) → read (emptied net) ≡ read net

-- ---- one of these is how servers are set up

set_there : (nodes : List Node) (place : ℕ) (node after : Node)
    → slice_get nodes place ≡ Some node → setting_at after ≡ setting_at node
    → filter_map setting_at (slice_set nodes place after) ≡ filter_map setting_at nodes
set_there [] place node after is same = refl
set_there (first ∷ nodes) zero node after is same =
    ap (λ o. cons_option o (filter_map setting_at nodes))
    (same ∙ ap (λ o. setting_at (unwrap_or o first)) (sym is))
set_there (first ∷ nodes) (suc place) node after is same =
    ap (cons_option (setting_at first)) (set_there nodes place node after is same)

emptied_alike : (nodes : List Node)
    → filter_map setting_at (map emptied_node nodes) ≡ filter_map setting_at nodes
emptied_alike [] = refl
emptied_alike (node ∷ nodes) = ap (cons_option (setting_at node)) (emptied_alike nodes)

settings_left : IsLeft settings_of
settings_left = record {
  set = λ place node after net is same. set_there net.nodes place node after is same;
  told = λ net received. refl;
  counted = λ net. refl;
  emptied_too = λ net. emptied_alike net.nodes;
}

-- another is what was given
abbrev items_now : Network → List Item
items_now net = net.items

items_left : IsLeft items_now
items_left = record {
  set = λ place node after net is same. refl;
  told = λ net received. refl;
  counted = λ net. refl;
  emptied_too = λ net. refl;
}

-- ---- where links carry lines, both are the same

behind_alike : (ahead : Ahead) (nodes : List Node)
    → filter_map setting_at (nodes_behind ahead nodes) ≡ filter_map setting_at nodes
behind_alike ahead [] = refl
behind_alike ahead (node ∷ nodes) =
    ap (cons_option (setting_at node)) (behind_alike (λ place. ahead (suc place)) nodes)

pub settings_in_lines : (net : ByteNetwork)
    → settings_of (net_in_lines net) ≡ settings_of net.network
settings_in_lines net = behind_alike (lines_ahead net.pipes) net.network.nodes

-- ---- a server is asked

queued_alike : (to : ℕ) (text : List ℕ) (node : Node)
    → setting_at (line_queued to text node) ≡ setting_at node
queued_alike to text node = by (get node.queues to)
  where
    queued : List (List ℕ) → Node
    queued lines = record node { queues = insert node.queues to (lines ++ line_body text ∷ []) }

    by : (o : Option (List (List ℕ))) → setting_at (option_map_or queued o node) ≡ setting_at node
    by None = refl
    by (Some lines) = refl

reply_alike : ServedKeepsItsSetting → (view : View) (read_event : ReadEvent)
    → setting_now (reply view read_event).state ≡ setting_now view
reply_alike kept view read_event = by (serves_read_event view read_event)
  where
    answer : Bool → Served
    answer b = if b then record {
      state = (served view read_event).state;
      out = (served view read_event).out;
    } else record { state = view; out = [] }

    alike : IsSetAlike view (served view read_event).state
        → setting_now (served view read_event).state ≡ setting_now view
    alike so i = record { name = so.name i; about = so.about i; peers = so.peers i }

    by : (b : Bool) → setting_now (answer b).state ≡ setting_now view
    by true = alike (kept view read_event)
    by false = refl

module _ {X : Type 0} (read : Network → X) (left : IsLeft read) where
  changed : (place : ℕ) (change : Node → Node)
      → ((node : Node) → setting_at (change node) ≡ setting_at node) → (net : Network)
      → read (node_changed_at place change net) ≡ read net
  changed place change same net = by (node_at net place) refl
    where
      by : (o : Option Node) → node_at net place ≡ o
          → read (option_map_or (λ node. with_node place (change node) net) o net) ≡ read net
      by None e = refl
      by (Some node) e = left.set place node (change node) net e (same node)

  received_more : (client : ℕ) (text : List ℕ) (progress : Progress Network)
      → read (has_received client text progress).state ≡ read progress.state
  received_more zero text progress = refl
  received_more (suc earlier) text progress = by (slice_get progress.state.received earlier)
    where
      by : (o : Option (List (List ℕ))) → read
          (option_map_or (has_received_at earlier text progress) o progress).state
          ≡ read progress.state
      by None = refl
      by (Some lines) =
          left.told progress.state (slice_set progress.state.received earlier (lines ++ text ∷ []))

  sent_keeps : (place : ℕ) (sent : Sent) (progress : Progress Network)
      → read (sent_out place sent progress).state ≡ read progress.state
  sent_keeps place (line_to client text) progress = received_more client text progress
  sent_keeps place (end_of client) progress = refl
  sent_keeps place (line_on to text) progress =
      changed place (line_queued to text) (queued_alike to text) progress.state
  sent_keeps place (end_of_link to reason) progress = refl

  all_sent_keep : (place : ℕ) (out : List Sent) (progress : Progress Network)
      → read (all_sent_out place out progress).state ≡ read progress.state
  all_sent_keep place [] progress = refl
  all_sent_keep place (sent ∷ out) progress = all_sent_keep place out (sent_out place sent progress)
      ∙ sent_keeps place sent progress

  module _ (kept : ServedKeepsItsSetting) where
    replied_keeps : (place : ℕ) (read_event : ReadEvent) (progress : Progress Network) (node : Node)
        (view : View) → node_at progress.state place ≡ Some node → node.server ≡ Some view
        → read (with_reply place progress node (reply view read_event)).state ≡ read progress.state
    replied_keeps place read_event progress node view is server =
        all_sent_keep place (reply view read_event).out _
        ∙ left.set place node
        (record node { server = Some (reply view read_event).state }) progress.state is
        (ap Some (reply_alike kept view read_event) ∙ sym (ap (option_map setting_now) server))

    asked_keeps : (place : ℕ) (read_event : ReadEvent) (progress : Progress Network)
        → read (node_asked place read_event progress).state ≡ read progress.state
    unfolding node_asked
    asked_keeps place read_event progress = by (node_at progress.state place) refl
      where
        at : (node : Node) → node_at progress.state place ≡ Some node → (o : Option View)
            → node.server ≡ o → read (option_map_or (λ (view : View). with_reply place progress node
            (reply view read_event)) o progress).state ≡ read progress.state
        at node is None e = refl
        at node is (Some view) e = replied_keeps place read_event progress node view is e

        by : (o : Option Node) → node_at progress.state place ≡ o → read
            (option_map_or (asked_at place read_event progress) o progress).state
            ≡ read progress.state
        by None e = refl
        by (Some node) e = at node e node.server refl

    -- ---- bytes come

    heard_keep : (from to : ℕ) (lines : List (List ℕ)) (progress : Progress Network)
        → read (all_heard from to progress lines).state ≡ read progress.state
    heard_keep from to [] progress = refl
    heard_keep from to (line ∷ lines) progress =
        heard_keep from to lines (heard from to progress line)
        ∙ asked_keeps to (link_says from (read_of line))
        (record progress { state = line_counted progress.state }) ∙ left.counted progress.state

    come_keeps : (from to count : ℕ) (progress : Progress ByteNetwork)
        → read (bytes_come from to count progress).state.network ≡ read progress.state.network
    unfolding bytes_come
    come_keeps from to count progress =
        left.emptied_too (all_heard from to (progress_without_pipes progress)
        (completed_in progress.state from to count)).state
        ∙ heard_keep from to (completed_in progress.state from to count)
        (progress_without_pipes progress)

    turn_keeps : (old new : Progress ByteNetwork) → turn_taken old ≡ Some new
        → read new.state.network ≡ read old.state.network
    turn_keeps old new turn = by (first_direction old.state.pipes) turn
      where
        same_some : (a b : Progress ByteNetwork) → Some a ≡ Some b → a ≡ b
        same_some a b is = cc is

        by : (o : Option Direction) → option_map (turn_in old) o ≡ Some new
            → read new.state.network ≡ read old.state.network
        by None none = absurd (cc none)
        by (Some d) some =
            ap (λ (c : Progress ByteNetwork). read c.state.network)
            (sym (same_some (turn_in old d) new some))
            ∙ come_keeps d.from d.to _ old

    turns_keep : {count : ℕ} {old new : Progress ByteNetwork} → TurnsGo count old new
        → read new.state.network ≡ read old.state.network
    turns_keep none_yet = refl
    turns_keep {old = old} (turn_first {between = between} turn all_is rest) = turns_keep rest
        ∙ turn_keeps old between turn

    settled_keeps : (net last : ByteNetwork) (counted : ℕ) (receipts : List Receipt)
        → Settles net counted receipts (standing last) → read last.network ≡ read net.network
    settled_keeps net last counted receipts settles =
        ap (λ (n : NetView). read n.network.network) settles.after ∙ turns_keep settles.goes

-- ---- an item

given_stays : GivenKeepsSettings → GivenIsKept → (net : ByteNetwork) (item : Item)
    → StaysSetUp net (item_given item net).state (net.network.items ++ item ∷ [])
unfolding item_given
given_stays keeps kept net item = record {
  settings = emptied_alike (given item net.network).state.nodes ∙ keeps net.network item;
  items_are = (kept item net.network).items;
}

-- ---- a new network

made_alike : (programs : Name → Programs) (configs : List Config) → filter_map setting_at
    (map (new_node programs) configs) ≡ map (setting_given programs) configs
made_alike programs [] = refl
made_alike programs (config ∷ configs) =
    ap (λ settings. setting_given programs config ∷ settings) (made_alike programs configs)

begins_set_up : (programs : Name → Programs) (configs : List Config) (net : ByteNetwork)
    → IsMadeOf programs configs net → BeginsSetUp programs configs net
begins_set_up programs configs net made = record {
  settings = record {
    ordered = made.ordered;
    same_ones = made.same_ones;
    in_order = made.in_order;
    settings_are =
        ap (λ (n : ByteNetwork). settings_of n.network) made.network_is
        ∙ made_alike programs made.ordered;
  };
  items_are = ap (λ (n : ByteNetwork). n.network.items) made.network_is;
}

pub settings_stay : ServedKeepsItsSetting → GivenKeepsSettings → GivenIsKept → SettingsStay
settings_stay kept given_keeps given_kept = record {
  made = begins_set_up;
  given = given_stays given_keeps given_kept;
  come = λ net from to count. record {
    settings = come_keeps settings_of settings_left kept from to count (begun net);
    items_are = come_keeps items_now items_left kept from to count (begun net);
  };
  settled = λ net last counted receipts settles. record {
    settings = settled_keeps settings_of settings_left kept net last counted receipts settles;
    items_are = settled_keeps items_now items_left kept net last counted receipts settles;
  };
}
