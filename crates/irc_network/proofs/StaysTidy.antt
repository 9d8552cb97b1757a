-- What is done to a tidy network leaves it tidy.
use Rattle.std.proofs.Common.{◌≡◌, ℕ, zero, suc, Bool, true, false, cond, Option, Some, None, List}
use Rattle.std.proofs.Common.{[]}
use Rattle.std.proofs.Common.{◌∷◌, length, refl, sym, ◌∙◌, ap, unwrap_or}
use Rattle.std.specs.FinMap.{get}
use Rattle.std.specs.List.{slice_get, slice_set}
use Rattle.std.specs.Option.{option_map_or}
use Rattle.irc_server.specs.Served.{ReadEvent}
use Rattle.irc_stage.specs.Lemmas.Numbers.{get-with, get-without, same_number}
use Rattle.irc_pipes.specs.Pipes.{AreLean, Pipes}
use Rattle.irc_network.specs.ByteNetwork.{ByteNetwork, progress_without_pipes}
use Rattle.irc_network.specs.ByteNetwork.{queues_written}
use Rattle.irc_network.specs.Lemmas.Emptied.{emptied_waits}
use Rattle.irc_network.specs.Lemmas.Rows.{closed_rows, length_set}
use Rattle.irc_network.specs.Lemmas.RowsWritten.{is_written, lean_along}
use Rattle.irc_network.specs.Lemmas.NodesStay.{asked_stays, changed_stays}
use Rattle.irc_network.specs.Loops.Progress.{asked_out, heard_out, byte_counted, way_closed}
use Rattle.irc_network.specs.Loops.Progress.{way_opened}
use Rattle.irc_network.specs.Network.{LinkPlaces, Network, Node, node_asked, node_at}
use Rattle.irc_network.specs.Network.{Progress, node_changed_at, waiting, with_node, with_way}
use Rattle.irc_network.specs.Network.{without_way}
use Rattle.irc_network.specs.Whole.{IsTidy}
use Rattle.irc_line.specs.Reading.{read_of}
use Rattle.irc_server.specs.Served.{link_says}

abbrev IsQuiet : List Node → Type 0
IsQuiet nodes = (place to : ℕ)
    → option_map_or (λ node. waiting node to) (slice_get nodes place) [] ≡ []

-- ---- what was written waits no more

pub tidy_written : (net : Network) (pipes : Pipes) → AreLean pipes
    → length pipes ≡ length net.nodes → IsTidy (queues_written net pipes)
tidy_written net pipes lean long =
    let written = is_written net pipes lean long in
    record { quiet = emptied_waits net; rows = written.rows; lean = written.lean }

pub asked_tidy : (place : ℕ) (read_event : ReadEvent) (progress : Progress ByteNetwork)
    → IsTidy progress.state → IsTidy (asked_out place read_event progress).state
asked_tidy place read_event progress tidy =
    tidy_written
    (node_asked place read_event (progress_without_pipes progress)).state progress.state.pipes
    tidy.lean (tidy.rows ∙ sym (asked_stays place read_event (progress_without_pipes progress)))

pub counted_tidy : (net : ByteNetwork) → IsTidy net → IsTidy (byte_counted net)
counted_tidy net tidy = record { quiet = tidy.quiet; rows = tidy.rows; lean = tidy.lean }

pub heard_tidy : (from to : ℕ) (progress : Progress ByteNetwork) (line : List ℕ)
    → IsTidy progress.state → IsTidy (heard_out from to progress line).state
heard_tidy from to progress line tidy =
    asked_tidy to (link_says from (read_of line))
    (record progress { state = byte_counted progress.state }) (counted_tidy progress.state tidy)

-- ---- a node is put where one is

set_quiet : (nodes : List Node) (place : ℕ) (new : Node) → IsQuiet nodes
    → ((to : ℕ) → waiting new to ≡ []) → IsQuiet (slice_set nodes place new)
set_quiet [] place new quiet none x to = refl
set_quiet (first ∷ nodes) zero new quiet none zero to = none to
set_quiet (first ∷ nodes) zero new quiet none (suc x) to = quiet (suc x) to
set_quiet (first ∷ nodes) (suc place) new quiet none zero to = quiet zero to
set_quiet (first ∷ nodes) (suc place) new quiet none (suc x) to =
    set_quiet nodes place new (λ y. quiet (suc y)) none x to

node_quiet : (net : ByteNetwork) (place : ℕ) (node : Node) → IsTidy net
    → node_at net.network place ≡ Some node → (to : ℕ) → waiting node to ≡ []
node_quiet net place node tidy at to =
    ap (λ o. option_map_or (λ s. waiting s to) o []) (sym at) ∙ tidy.quiet place to

-- a server's node with the ways that it had
pub put_tidy : (net : ByteNetwork) (place : ℕ) (node new : Node) → IsTidy net
    → node_at net.network place ≡ Some node → new.queues ≡ node.queues
    → IsTidy (record net { network = with_node place new net.network })
put_tidy net place node new tidy at same = record {
  quiet = set_quiet net.network.nodes place new tidy.quiet (λ to.
      ap (λ queues. unwrap_or (get queues to) []) same ∙ node_quiet net place node tidy at to);
  rows = tidy.rows ∙ sym (length_set net.network.nodes place new);
  lean = tidy.lean;
}

-- ---- ways

abbrev KeepsQuiet : (Node → Node) → Type 0
KeepsQuiet change = (node : Node) → ((to : ℕ) → waiting node to ≡ [])
    → (to : ℕ) → waiting (change node) to ≡ []

opened_quiet : (way : ℕ) → KeepsQuiet (with_way way)
opened_quiet way node none to =
    ap (λ o. unwrap_or o []) (get-with node.queues way [] to) ∙ by (same_number to way)
  where
    by : (b : Bool) → unwrap_or (cond b (Some []) (get node.queues to)) [] ≡ []
    by true = refl
    by false = none to

closed_quiet : (way : ℕ) → KeepsQuiet (without_way way)
closed_quiet way node none to =
    ap (λ o. unwrap_or o []) (get-without node.queues way to) ∙ by (same_number to way)
  where
    by : (b : Bool) → unwrap_or (cond b None (get node.queues to)) [] ≡ []
    by true = refl
    by false = none to

changed_quiet : (net : Network) (place : ℕ) (change : Node → Node) → KeepsQuiet change
    → IsQuiet net.nodes → IsQuiet (node_changed_at place change net).nodes
changed_quiet net place change keeps quiet = by (node_at net place) refl
  where
    by : (o : Option Node) → node_at net place ≡ o
        → IsQuiet (option_map_or (λ node. with_node place (change node) net) o net).nodes
    by None at = quiet
    by (Some node) at = set_quiet net.nodes place (change node) quiet (keeps node (λ to.
        ap (λ o. option_map_or (λ s. waiting s to) o []) (sym at) ∙ quiet place to))

pub opened_tidy : (from to : ℕ) (net : ByteNetwork) → IsTidy net → IsTidy (way_opened from to net)
opened_tidy from to net tidy = record {
  quiet = changed_quiet net.network from (with_way to) (opened_quiet to) tidy.quiet;
  rows = tidy.rows ∙ sym (changed_stays from (with_way to) net.network);
  lean = tidy.lean;
}

abbrev parted : LinkPlaces → ByteNetwork → ByteNetwork
parted ends net = way_closed ends.far ends.near (way_closed ends.near ends.far net)

pub closed_tidy : (ends : LinkPlaces) (net : ByteNetwork) → IsTidy net → IsTidy (parted ends net)
closed_tidy ends net tidy =
    let first = node_changed_at ends.near (without_way ends.far) net.network in
    record {
      quiet = changed_quiet first ends.far (without_way ends.near) (closed_quiet ends.near)
          (changed_quiet net.network ends.near (without_way ends.far) (closed_quiet ends.far)
          tidy.quiet);
      rows = closed_rows (Some ends) net.pipes ∙ tidy.rows
          ∙ sym (changed_stays ends.far (without_way ends.near) first
          ∙ changed_stays ends.near (without_way ends.far) net.network);
      lean = lean_along (Some ends) net.pipes tidy.lean;
    }
