-- An item that is given at rest does what it does where links carry lines.
use Rattle.std.proofs.Common.{◌≡◌, ℕ, true, false, is_some, Option, Some, None, List, [], ◌++◌}
use Rattle.std.proofs.Common.{refl, sym, ◌∙◌, ap, subst, unwrap_or}
use Rattle.std.specs.FinMap.{get}
use Rattle.std.specs.List.{AllByRecursion}
use Rattle.std.specs.Option.{option_and_then, option_map_or}
use Rattle.irc_line.specs.Lines.{HasTaken, IsLine, nothing_begun, stream_for}
use Rattle.irc_network.specs.Network.{Progress, Network, Node, given, node_at, waiting}
use Rattle.irc_world.specs.Stepping.{Item}
use Rattle.irc_pipes.specs.Pipes.{Pipes, lines_to_come, new_pipe, pipe_at}
use Rattle.irc_network.specs.Behind.{net_behind}
use Rattle.irc_network.specs.ByteNetwork.{ByteNetwork, all_written, cut_ends, net_in_lines}
use Rattle.irc_network.specs.ByteNetwork.{is_byte_rest, item_given, lines_ahead, waiting_at}
use Rattle.irc_network.specs.ByteNetwork.{pipes_after, queues_written}
use Rattle.irc_network.specs.Loops.Writing.{IsWritten}
use Rattle.irc_network.specs.Whole.{AreLinesWaiting, GivenAsLines, IsGivenAsLines, IsTidy}
use Rattle.irc_network.specs.Whole.{IsWhole, IsWholeNet, has_way}
use Rattle.irc_network.specs.Lemmas.Rows.{rows_after_item}
use Rattle.irc_network.proofs.Refilled.{alone, refilled}
use Rattle.irc_network.specs.Lemmas.Emptied.{emptied_waits, emptied_ways}
use Rattle.irc_network.specs.Lemmas.RowsWritten.{is_written, lean_along}
use Rattle.irc_network.proofs.StillPipes.{all_new, nothing_lost}
use Rattle.irc_network.proofs.PipeLines.{IsKnownOfStreams, all_are_written, new_has_none}
use Rattle.irc_network.proofs.PipeLines.{new_is_whole}

abbrev pub with_net : Progress Network → Network → Progress Network
with_net progress net = record progress { state = net }

-- what waits at a place are lines
pub lines_there : (net : Network) → AreLinesWaiting net → (from to : ℕ)
    → AllByRecursion IsLine (waiting_at net from to)
lines_there net are from to = by (node_at net from) refl
  where
    by : (o : Option Node) → node_at net from ≡ o
        → AllByRecursion IsLine (option_map_or (λ node. waiting node to) o [])
    by None is = tt
    by (Some node) is = are from to node is

-- nothing waits where no way is
pub none_there : (net : Network) (from to : ℕ) → has_way net from to ≡ false
    → waiting_at net from to ≡ []
none_there net from to none = by_node (node_at net from) none
  where
    by_way : (o : Option (List (List ℕ))) → is_some o ≡ false → unwrap_or o [] ≡ []
    by_way None none = refl
    by_way (Some lines) none = cc none

    by_node : (o : Option Node) → is_some (option_and_then (λ (node : Node). get node.queues to) o)
        ≡ false → option_map_or (λ node. waiting node to) o [] ≡ []
    by_node None none = refl
    by_node (Some node) none = by_way (get node.queues to) none

module _ (known : IsKnownOfStreams) (real_new : HasTaken nothing_begun (stream_for nothing_begun))
    (old : ByteNetwork) (item : Item)
    (rest : is_byte_rest old ≡ true) where
  still : (from to : ℕ) → pipe_at old.pipes from to ≡ new_pipe
  still = all_new old.pipes rest

  before : net_in_lines old ≡ old.network
  before = alone (lines_ahead old.pipes) old.network (λ from to. ap lines_to_come (still from to)
      ∙ new_has_none known real_new)

  abbrev net : Network
  net = (given item old.network).state

  abbrev pipes : Pipes
  pipes = pipes_after old.network item old.pipes

  as_new : (from to : ℕ) → pipe_at pipes from to ≡ new_pipe
  as_new = nothing_lost (cut_ends old.network item) old.pipes still

  module _ (new : ByteNetwork) (written : IsWritten net pipes new) (are : AreLinesWaiting net) where
    pipe_is : (from to : ℕ)
        → pipe_at new.pipes from to ≡ all_written (waiting_at net from to) new_pipe
    pipe_is from to =
        written.pipes_are from to ∙ ap (all_written (waiting_at net from to)) (as_new from to)

    lines_are : (from to : ℕ) → lines_ahead new.pipes from to ≡ waiting_at net from to
    lines_are from to =
        ap lines_to_come (pipe_is from to)
        ∙ (all_are_written known new_pipe (waiting_at net from to) (new_is_whole known real_new)
        (lines_there net are from to)).lines_are
        ∙ ap (λ front. front ++ waiting_at net from to) (new_has_none known real_new)

    after : net_in_lines new ≡ net
    after =
        ap (net_behind (lines_ahead new.pipes)) written.network_is
        ∙ refilled (λ from to. []) (lines_ahead new.pipes) net lines_are
        ∙ alone (λ from to. []) net (λ from to. refl)

    whole_now : IsWholeNet new
    whole_now = record {
      tidy = record {
        quiet = λ from to. subst (λ n. waiting_at n from to ≡ []) (sym written.network_is)
            (emptied_waits net from to);
        rows = written.rows;
        lean = written.lean;
      };
      whole = λ from to. subst IsWhole (sym (pipe_is from to))
          (all_are_written known new_pipe (waiting_at net from to) (new_is_whole known real_new)
          (lines_there net are from to)).whole;
      ways = λ from to none. lines_are from to
          ∙ none_there net from to (sym (emptied_ways net from to)
          ∙ subst (λ n. has_way n from to ≡ false) written.network_is none);
    }

  all_is_written : IsTidy old → IsWritten net pipes (queues_written net pipes)
  all_is_written tidy =
      is_written net pipes (lean_along (cut_ends old.network item) old.pipes tidy.lean)
      (rows_after_item old item net pipes tidy.rows refl refl)

  as_lines : IsTidy old → AreLinesWaiting (given item (net_in_lines old)).state
      → IsGivenAsLines old item
  unfolding item_given
  as_lines tidy are =
      let are_now = subst (λ n. AreLinesWaiting (given item n).state) before are in
      record {
        as_lines = ap (with_net (given item old.network)) (after (queues_written net pipes)
            (all_is_written tidy) are_now) ∙ ap (given item) (sym before);
        whole = whole_now (queues_written net pipes) (all_is_written tidy) are_now;
      }

pub given_as_lines : IsKnownOfStreams → HasTaken nothing_begun (stream_for nothing_begun)
    → GivenAsLines
given_as_lines known real_new old item whole rest are =
    as_lines known real_new old item rest whole.tidy are
