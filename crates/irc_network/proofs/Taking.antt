-- A server is asked, and what it puts out goes its way.
use Rattle.std.proofs.Common.{◌≡◌, ◌+◌, ◌<◌, ℕ, Option, Some, None, List, [], ◌∷◌, ◌++◌, refl, sym}
use Rattle.std.proofs.Common.{◌∙◌, ap, zero, suc, arith, length, take}
use Rattle.std.specs.List.{slice_get}
use Rattle.std.specs.Option.{option_map_or}
use Rattle.std.proofs.Math.Numerals.{suc-eq-add-one}
use Rattle.irc_server.specs.Served.{ReadEvent}
use Rattle.irc_stage.specs.View.{View}
use Rattle.irc_network.specs.Node.{Replies}
use Rattle.irc_network.specs.Network.{Progress, Node, all_sent_out, node_asked, asked_at, reply}
use Rattle.irc_network.specs.Network.{Network, sent_out, with_reply, with_node}
use Rattle.irc_network.specs.Loops.Progress.{sent_at}
use Rattle.irc_batch.specs.Batches.{Sent}

-- ---- what is put out, one thing more

pub one_more_out : (place : ℕ) (out : List Sent) (sent : Sent) (progress : Progress Network)
    → all_sent_out
    place (out ++ sent ∷ []) progress ≡ sent_out place sent (all_sent_out place out progress)
one_more_out place [] sent progress = refl
one_more_out place (first ∷ out) sent progress =
    one_more_out place out sent (sent_out place first progress)

next_sent : (place : ℕ) (out : List Sent) (i : ℕ) (progress : Progress Network) → i < length out
    → sent_at place (slice_get out i) (all_sent_out place (take i out) progress)
    ≡ all_sent_out place (take (suc i) out) progress
next_sent place [] i progress within = absurd (omega (arith, within))
next_sent place (sent ∷ out) zero progress within = refl
next_sent place (sent ∷ out) (suc i) progress within =
    next_sent place out i (sent_out place sent progress) (omega (arith, within))

pub one_more_sent : (place : ℕ) (out : List Sent) (i : ℕ) (progress : Progress Network)
    → i < length out → sent_at place (slice_get out i) (all_sent_out place (take i out) progress)
    ≡ all_sent_out place (take (i + 1) out) progress
one_more_sent place out i progress within = next_sent place out i progress within
    ∙ ap (λ n. all_sent_out place (take n out) progress) (suc-eq-add-one i)

-- ---- a server is asked

pub asked_nowhere : (place : ℕ) (read_event : ReadEvent) (progress : Progress Network)
    → slice_get progress.state.nodes place ≡ None → progress ≡ node_asked place read_event progress
unfolding node_asked
asked_nowhere place read_event progress is =
    sym (ap (λ o. option_map_or (asked_at place read_event progress) o progress) is)

abbrev pub put_node : ℕ → Node → Progress Network → Progress Network
put_node place node progress = record progress { state = with_node place node progress.state }

pub asked_there : (place : ℕ) (read_event : ReadEvent)
    (progress : Progress Network) (node new : Node) (out : List Sent)
    → slice_get progress.state.nodes place ≡ Some node → Replies node read_event new out
    → all_sent_out place out (put_node place new progress) ≡ node_asked place read_event progress
unfolding node_asked
asked_there place read_event progress node new out is answered =
    ap (λ (n : Node). all_sent_out place out (put_node place n progress)) answered.new_is
    ∙ ap (λ (o : List Sent). all_sent_out place o (put_node place (record node {
      server = Some
          (reply answered.view read_event).state;
    }) progress)) answered.out_is
    ∙ sym (ap (λ (s : Option View). option_map_or (λ (view : View).
    with_reply place progress node (reply view read_event)) s progress) answered.is_view)
    ∙ sym (ap (λ o. option_map_or (asked_at place read_event progress) o progress) is)
