-- A network as its code has it while something is done to it.
use Rattle.std.specs.Prelude.{◌≡◌, ◌<◌, ℕ, zero, suc, Option, Some, None, List, [], ◌∷◌}
use Rattle.std.specs.Prelude.{length, if◌then◌else◌, Vec}
use Rattle.std.specs.List.{slice_get}
use Rattle.std.specs.declared.alloc.Global.{Global}
use Rattle.irc_batch.specs.Batches.{Sent, line_to, end_of, line_on, end_of_link}
use Rattle.irc_line.specs.Reading.{read_of}
use Rattle.irc_server.specs.ReadEvents.{read_event_of}
use Rattle.irc_server.specs.Served.{ReadEvent, link_says}
use Rattle.irc_server.specs.declared.event.Event.{Event}
use Rattle.irc_relay.specs.Links.{Name}
use Rattle.irc_pipes.specs.Pipes.{Pipes, without_pipe, written_at}
use Rattle.irc_world.specs.Stepping.{Item}
use Rattle.irc_forest.specs.Forests.{name_at}
use Rattle.irc_network.specs.declared.receipt.Receipt.{Receipt as KeptReceipt}
use Rattle.irc_forest.specs.declared.places.EndPlaces.{EndPlaces}
use Rattle.irc_network.specs.declared.call_output.CallOutput.{CallOutput}
use Rattle.irc_network.specs.ByteNetwork.{ByteNetwork, progress_without_pipes}
use Rattle.irc_network.specs.ByteNetwork.{progress_written, pipes_after}
use Rattle.irc_network.specs.Calls.{progress_at}
use Rattle.irc_network.specs.Network.{Progress, LinkPlaces, Network, all_sent_out, done_by}
use Rattle.irc_network.specs.Network.{has_received, home_place, line_body, line_counted, sent_out}
use Rattle.irc_network.specs.Network.{node_asked, node_asked_if, node_changed_at, with_way}
use Rattle.irc_network.specs.Network.{without_way}
use Rattle.irc_network.specs.Views.{receipts_of}
use Rattle.irc_network.specs.Whole.{has_way}

abbrev pub progress_of : {Net : Type 0} → Net → List KeptReceipt → Progress Net
progress_of net lines = record { state = net; out = receipts_of lines }

-- ---- places

abbrev pub ends_now : EndPlaces → LinkPlaces
ends_now kept = record { near = kept.near; far = kept.far }

pub record AreWithin (net : Network) (ends : EndPlaces) : Type 0 where
  pub near_within : ends.near < length net.names
  pub far_within : ends.far < length net.names

pub record AreNamed (net : Network) (ends : EndPlaces) (near far : Name) : Type 0 where
  pub near_named : name_at net.names ends.near ≡ near
  pub far_named : name_at net.names ends.far ≡ far

-- how many clients have connected before one; nobody has the number 0
abbrev pub IsEarlier : ℕ → Option ℕ → Type 0
IsEarlier client None = client ≡ 0
IsEarlier client (Some earlier) = client ≡ suc earlier

abbrev pub inbox_of : Network → ℕ → Option (List (List ℕ))
inbox_of net zero = None
inbox_of net (suc earlier) = slice_get net.received earlier

-- ---- what goes its way

-- nothing, where nothing is put out at a place
abbrev pub sent_at : ℕ → Option Sent → Progress Network → Progress Network
sent_at place None progress = progress
sent_at place (Some sent) progress = sent_out place sent progress

-- what a server puts out is written while it is put out: a line on a link where a way goes
abbrev pub line_sent : ℕ → ℕ → List ℕ → ByteNetwork → ByteNetwork
line_sent from to text net =
    if has_way net.network from to
    then record net { pipes = written_at from to (line_body text) net.pipes } else net

-- with these pipes, whatever was done beside them
abbrev pub with_pipes : Pipes → Progress Network → Progress ByteNetwork
with_pipes pipes progress =
    record { state = record { network = progress.state; pipes = pipes }; out = progress.out }

abbrev pub byte_sent : ℕ → Sent → Progress ByteNetwork → Progress ByteNetwork
byte_sent place (line_to client text) progress =
    with_pipes progress.state.pipes (has_received client text (progress_without_pipes progress))
byte_sent place (end_of client) progress = progress
byte_sent place (line_on to text) progress =
    record progress { state = line_sent place to text progress.state }
byte_sent place (end_of_link to reason) progress = progress

abbrev pub byte_sent_at : ℕ → Option Sent → Progress ByteNetwork → Progress ByteNetwork
byte_sent_at place None progress = progress
byte_sent_at place (Some sent) progress = byte_sent place sent progress

-- ---- what servers are asked for

-- what a server that is asked puts out is written at once
abbrev pub asked_out : ℕ → ReadEvent → Progress ByteNetwork → Progress ByteNetwork
asked_out place read_event progress =
    progress_written
    (node_asked place read_event (progress_without_pipes progress)) progress.state.pipes

abbrev pub byte_counted : ByteNetwork → ByteNetwork
byte_counted net = record net { network = line_counted net.network }

-- a server is asked for a line that has come from another, and the line is counted
abbrev pub heard_out : ℕ → ℕ → Progress ByteNetwork → List ℕ → Progress ByteNetwork
heard_out from to progress line =
    asked_out to (link_says from (read_of line))
    (record progress { state = byte_counted progress.state })

abbrev pub all_heard_out : ℕ → ℕ → Progress ByteNetwork → List (List ℕ) → Progress ByteNetwork
all_heard_out from to progress [] = progress
all_heard_out from to progress (line ∷ lines) =
    all_heard_out from to (heard_out from to progress line) lines

-- ---- ways

abbrev pub way_opened : ℕ → ℕ → ByteNetwork → ByteNetwork
way_opened from to net =
    record net { network = node_changed_at from (with_way to) net.network }

abbrev pub way_closed : ℕ → ℕ → ByteNetwork → ByteNetwork
way_closed from to net = record {
  network = node_changed_at from (without_way to) net.network;
  pipes = without_pipe from to net.pipes;
}

-- ---- what a network and the output of a call were, and what they became

-- a server was asked for an event, one that may be there, and the one that a client has connected
-- to
abbrev pub IsAskedOut : ℕ → Event → ByteNetwork → CallOutput → ByteNetwork → CallOutput → Type 0
IsAskedOut place event old before new after =
    progress_at new after ≡ asked_out place (read_event_of event) (progress_at old before)

abbrev pub IsAskedIf : Option ℕ → Event → ByteNetwork → CallOutput → ByteNetwork → CallOutput
    → Type 0
IsAskedIf place event old before new after =
    progress_at new after ≡ progress_written (node_asked_if place (read_event_of event)
    (progress_without_pipes (progress_at old before))) old.pipes

abbrev pub IsHomeAsked : ℕ → Event → ByteNetwork → CallOutput → ByteNetwork → CallOutput → Type 0
IsHomeAsked client event old before new after =
    IsAskedIf (home_place old.network client) event old before new after

-- all that was put out in the output went its way
abbrev pub AreSentOut : ℕ → ByteNetwork → CallOutput → ByteNetwork → CallOutput → Type 0
AreSentOut place old before new after =
    progress_at new after ≡ progress_written (all_sent_out place before.out.outs
    (progress_without_pipes (progress_at old before))) old.pipes

-- what was put out at one place there went its way
abbrev pub IsSentAt : ℕ → ℕ → ByteNetwork → CallOutput → ByteNetwork → CallOutput → Type 0
IsSentAt place at old before new after =
    progress_at new after ≡ byte_sent_at place (slice_get before.out.outs at)
    (progress_at old before)

-- a client received a line, which is among the lines of the call
abbrev pub IsReceived : ℕ → List ℕ → ByteNetwork → Vec KeptReceipt Global → ByteNetwork
    → Vec KeptReceipt Global → Type 0
IsReceived client text old before new after =
    progress_of new after.items ≡ with_pipes old.pipes
    (has_received client text (progress_of old.network before.items))

-- an item was done, and nothing was in the output before
abbrev pub IsDone : Item → ByteNetwork → ByteNetwork → CallOutput → Type 0
IsDone item old new after =
    progress_at new after ≡ progress_written (done_by item old.network)
    (pipes_after old.network item old.pipes)

-- a server was asked for a line that has come from another, and the line was counted
abbrev pub IsLineHeard : ℕ → ℕ → List ℕ → ByteNetwork → CallOutput → ByteNetwork → CallOutput
    → Type 0
IsLineHeard from to bytes old before new after =
    progress_at new after ≡ heard_out from to (progress_at old before) bytes
