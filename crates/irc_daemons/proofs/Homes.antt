-- What a server of a network puts out changes no names and no homes, and nobody comes by it.
use Rattle.std.proofs.Common.{◌≡◌, ℕ, zero, suc, Option, Some, None, List, [], ◌∷◌, ◌++◌, length}
use Rattle.std.proofs.Common.{refl, ◌∙◌}
use Rattle.std.specs.List.{slice_get}
use Rattle.std.specs.Option.{option_map_or}
use Rattle.irc_batch.specs.Batches.{Sent, end_of, end_of_link, line_on, line_to}
use Rattle.irc_server.specs.Served.{ReadEvent}
use Rattle.irc_stage.specs.View.{View}
use Rattle.irc_network.specs.Network.{Progress, Network, Node, all_sent_out, asked_at, has_received}
use Rattle.irc_network.specs.Network.{has_received_at, line_queued, reply, sent_out, node_asked}
use Rattle.irc_network.specs.Network.{node_at, node_changed_at, with_reply, with_node}
use Rattle.irc_network.specs.Lemmas.Rows.{length_set}
use Rattle.irc_daemons.proofs.Sent.{Lines}

pub record KeepsHomes (old new : Network) : Type 0 where
  pub names : new.names ≡ old.names
  pub homes : new.homes ≡ old.homes
  pub inboxes : length new.received ≡ length old.received

pub keeps_same : (net : Network) → KeepsHomes net net
keeps_same net = record { names = refl; homes = refl; inboxes = refl }

pub keeps_both : (old mid new : Network) → KeepsHomes old mid → KeepsHomes mid new
    → KeepsHomes old new
keeps_both old mid new first second = record {
  names = second.names ∙ first.names;
  homes = second.homes ∙ first.homes;
  inboxes = second.inboxes ∙ first.inboxes;
}

keeps_received : (client : ℕ) (text : List ℕ) (progress : Progress Network)
    → KeepsHomes progress.state (has_received client text progress).state
keeps_received zero text progress = keeps_same progress.state
keeps_received (suc earlier) text progress = by (slice_get progress.state.received earlier)
  where
    by : (o : Option Lines) → KeepsHomes progress.state
        (option_map_or (has_received_at earlier text progress) o progress).state
    by None = keeps_same progress.state
    by (Some lines) = record {
      names = refl;
      homes = refl;
      inboxes = length_set progress.state.received earlier (lines ++ text ∷ []);
    }

keeps_queued : (place to : ℕ) (text : List ℕ) (net : Network)
    → KeepsHomes net (node_changed_at place (line_queued to text) net)
keeps_queued place to text net = by (node_at net place)
  where
    by : (o : Option Node) → KeepsHomes net
        (option_map_or (λ node. with_node place (line_queued to text node) net) o net)
    by None = keeps_same net
    by (Some node) = record { names = refl; homes = refl; inboxes = refl }

keeps_one : (place : ℕ) (sent : Sent) (progress : Progress Network)
    → KeepsHomes progress.state (sent_out place sent progress).state
keeps_one place (line_to client text) progress = keeps_received client text progress
keeps_one place (end_of client) progress = keeps_same progress.state
keeps_one place (line_on link text) progress = keeps_queued place link text progress.state
keeps_one place (end_of_link link reason) progress = keeps_same progress.state

keeps_all : (place : ℕ) (outs : List Sent) (progress : Progress Network)
    → KeepsHomes progress.state (all_sent_out place outs progress).state
keeps_all place [] progress = keeps_same progress.state
keeps_all place (sent ∷ outs) progress =
    keeps_both progress.state (sent_out place sent progress).state
    (all_sent_out place outs (sent_out place sent progress)).state (keeps_one place sent progress)
    (keeps_all place outs (sent_out place sent progress))

pub asked_keeps : (place : ℕ) (read_event : ReadEvent) (progress : Progress Network)
    → KeepsHomes progress.state (node_asked place read_event progress).state
unfolding node_asked
asked_keeps place read_event progress = by (node_at progress.state place)
  where
    at_node : (node : Node) (view : View)
        → KeepsHomes progress.state (with_reply place progress node (reply view read_event)).state
    at_node node view =
        let between : Progress Network = record progress {
          state = with_node place
              (record node { server = Some (reply view read_event).state }) progress.state;
        } in
        keeps_both progress.state between.state (all_sent_out place (reply view read_event).out
        between).state (record { names = refl; homes = refl; inboxes = refl })
        (keeps_all place (reply view read_event).out between)

    by_view : (node : Node) (o : Option View) → KeepsHomes progress.state (option_map_or
        (λ (v : View). with_reply place progress node (reply v read_event)) o progress).state
    by_view node None = keeps_same progress.state
    by_view node (Some view) = at_node node view

    by : (o : Option Node) → KeepsHomes progress.state
        (option_map_or (asked_at place read_event progress) o progress).state
    by None = keeps_same progress.state
    by (Some node) = by_view node node.server
