-- What a server puts out is written thing by thing, and it is as if it waited first.
use Rattle.std.proofs.Common.{◌≡◌, ℕ, ◌+◌, ◌<◌, zero, suc, Bool, true, false, Option, Some, None}
use Rattle.std.proofs.Common.{List}
use Rattle.std.proofs.Common.{length, take, refl, sym, ◌∙◌, ap, if◌then◌else◌}
use Rattle.std.specs.List.{slice_get}
use Rattle.std.specs.Option.{option_map_or}
use Rattle.irc_batch.specs.Batches.{Sent, end_of, end_of_link, line_on, line_to}
use Rattle.irc_server.specs.Served.{ReadEvent}
use Rattle.irc_pipes.specs.Pipes.{AreLean, SamePipes, Pipes, written_at}
use Rattle.irc_network.specs.Behind.{emptied}
use Rattle.irc_network.specs.ByteNetwork.{ByteNetwork, progress_without_pipes}
use Rattle.irc_network.specs.ByteNetwork.{progress_written, queues_written, rows_written}
use Rattle.irc_network.specs.Lemmas.Emptied.{emptied_ways}
use Rattle.irc_network.specs.Lemmas.NodesStay.{all_stay}
use Rattle.irc_network.specs.Loops.Progress.{byte_sent, byte_sent_at, line_sent, sent_at}
use Rattle.irc_network.specs.Loops.Progress.{with_pipes}
use Rattle.irc_network.specs.Loops.Progress.{asked_out}
use Rattle.irc_network.specs.Network.{Progress, Network, Node, all_sent_out, has_received}
use Rattle.irc_network.specs.Network.{has_received_at, line_body, line_queued, sent_out}
use Rattle.irc_network.specs.Network.{node_changed_at}
use Rattle.irc_network.specs.Node.{Replies}
use Rattle.irc_network.specs.Whole.{IsTidy, has_way}
use Rattle.irc_network.proofs.AskedOut.{nowhere_queued, queued_written}
use Rattle.irc_network.proofs.NothingWritten.{nothing_written}
use Rattle.irc_network.proofs.Taking.{asked_nowhere, asked_there, one_more_sent, put_node}

-- ---- nothing waits in a tidy network, so nothing is left to be written

pub tidy_alone : (progress : Progress ByteNetwork) → IsTidy progress.state
    → progress_written (progress_without_pipes progress) progress.state.pipes ≡ progress
tidy_alone progress tidy =
    ap (λ (net : ByteNetwork). record { state = net; out = progress.out })
    (nothing_written progress.state.network progress.state.pipes tidy.quiet tidy.lean)

-- ---- one thing

received_written : (client : ℕ) (text : List ℕ) (progress : Progress Network) (pipes : Pipes)
    → with_pipes (rows_written progress.state.nodes pipes) (has_received client text
    (progress_without_pipes (progress_written progress pipes)))
    ≡ progress_written (has_received client text progress) pipes
received_written zero text progress pipes = refl
received_written (suc earlier) text progress pipes = by (slice_get progress.state.received earlier)
  where
    start : Progress Network
    start = progress_without_pipes (progress_written progress pipes)

    by : (o : Option (List (List ℕ))) → with_pipes (rows_written progress.state.nodes pipes)
        (option_map_or (has_received_at earlier text start) o start)
        ≡ progress_written (option_map_or (has_received_at earlier text progress) o progress) pipes
    by None = refl
    by (Some lines) = refl

module _ (same : SamePipes) (pipes : Pipes) (lean : AreLean pipes) where
  queued_sent : (place to : ℕ) (text : List ℕ) (net : Network) → length pipes ≡ length net.nodes
      → line_sent place to text (queues_written net pipes)
      ≡ queues_written (node_changed_at place (line_queued to text) net) pipes
  queued_sent place to text net long =
      ap choose (emptied_ways net place to) ∙ by (has_way net place to) refl
    where
      choose : Bool → ByteNetwork
      choose b = if b then record {
        network = emptied net;
        pipes = written_at place to (line_body text) (rows_written net.nodes pipes);
      }
          else queues_written net pipes

      by : (b : Bool) → has_way net place to ≡ b
          → choose b ≡ queues_written (node_changed_at place (line_queued to text) net) pipes
      by true has = sym (queued_written same net pipes lean long place to text has)
      by false none =
          ap (λ (n : Network). queues_written n pipes)
          (sym (nowhere_queued same net pipes lean long place to text none))

  sent_written : (place : ℕ) (sent : Sent) (progress : Progress Network)
      → length pipes ≡ length progress.state.nodes
      → byte_sent place sent (progress_written progress pipes)
      ≡ progress_written (sent_out place sent progress) pipes
  sent_written place (line_to client text) progress long =
      received_written client text progress pipes
  sent_written place (end_of client) progress long = refl
  sent_written place (line_on to text) progress long =
      ap (λ (net : ByteNetwork). record { state = net; out = progress.out })
      (queued_sent place to text progress.state long)
  sent_written place (end_of_link to reason) progress long = refl

  sent_at_written : (place : ℕ) (sent : Option Sent) (progress : Progress Network)
      → length pipes ≡ length progress.state.nodes
      → byte_sent_at place sent (progress_written progress pipes)
      ≡ progress_written (sent_at place sent progress) pipes
  sent_at_written place None progress long = refl
  sent_at_written place (Some sent) progress long = sent_written place sent progress long

  -- ---- one thing after another

  pub one_more_written : (place : ℕ) (out : List Sent) (i : ℕ) (start : Progress Network)
      (now : Progress ByteNetwork) → length pipes ≡ length start.state.nodes → i < length out
      → now ≡ progress_written (all_sent_out place (take i out) start) pipes
      → byte_sent_at place (slice_get out i) now
      ≡ progress_written (all_sent_out place (take (i + 1) out) start) pipes
  one_more_written place out i start now long within is =
      let so_far = all_sent_out place (take i out) start in
      ap (byte_sent_at place (slice_get out i)) is
      ∙ sent_at_written place (slice_get out i) so_far
      (long ∙ sym (all_stay place (take i out) start))
      ∙ ap (λ (progress : Progress Network). progress_written progress pipes)
      (one_more_sent place out i start within)

-- ---- a server is asked

pub nobody_asked : (place : ℕ) (read_event : ReadEvent) (progress : Progress ByteNetwork)
    → IsTidy progress.state → slice_get progress.state.network.nodes place ≡ None
    → progress ≡ asked_out place read_event progress
nobody_asked place read_event progress tidy none =
    sym (tidy_alone progress tidy)
    ∙ ap (λ (c : Progress Network). progress_written c progress.state.pipes)
    (asked_nowhere place read_event (progress_without_pipes progress) none)

pub somebody_asked : (place : ℕ) (read_event : ReadEvent) (progress : Progress ByteNetwork)
    (node new : Node)
    (out : List Sent) → slice_get progress.state.network.nodes place ≡ Some node
    → Replies node read_event new out
    → progress_written
    (all_sent_out place out (put_node place new (progress_without_pipes progress)))
    progress.state.pipes ≡ asked_out place read_event progress
somebody_asked place read_event progress node new out at replies =
    ap (λ (c : Progress Network). progress_written c progress.state.pipes)
    (asked_there place read_event (progress_without_pipes progress) node new out at replies)
