-- A network along whose links nothing was written yet.
use Rattle.std.proofs.Common.{◌≡◌, ℕ, zero, suc, true, List, [], ◌∷◌, length, replicate, refl, sym}
use Rattle.std.proofs.Common.{◌∙◌, ap, subst, unwrap_or, Option}
use Rattle.std.proofs.lemmas.Bool.{and_from}
use Rattle.std.proofs.lemmas.List.{length-replicate}
use Rattle.std.specs.FinMap.{empty, from_entries, get, get-empty}
use Rattle.std.specs.List.{AllByRecursion, list_all, slice_get}
use Rattle.std.specs.Map.{keys_of}
use Rattle.std.specs.Option.{option_map_or}
use Rattle.std.specs.Ordering.{nat_cmp}
use Rattle.irc_stage.specs.Lemmas.Listed.{listed}
use Rattle.irc_network.specs.Network.{Node, waiting}
use Rattle.irc_pipes.specs.Pipes.{AreLean, IsLean, LinkPipe, Pipes, are_still, are_still_in}
use Rattle.irc_pipes.specs.Pipes.{is_still}
use Rattle.irc_pipes.specs.Pipes.{lines_to_come, new_pipe, pipe_at, pipe_in}
use Rattle.irc_network.specs.ByteNetwork.{lines_ahead}
use Rattle.irc_network.specs.Whole.{IsWhole, NewIsWhole}
use Rattle.irc_network.proofs.Refilled.{alone}
use Rattle.irc_network.proofs.StillPipes.{all_new}
use Rattle.irc_network.proofs.PipeLines.{IsKnownOfStreams, new_has_none, new_is_whole}
use Rattle.irc_network.specs.Lemmas.NewFramer.{new_is_real}

row_still : are_still_in (from_entries []) ≡ true
row_still =
    ap (λ (es : List (ℕ × LinkPipe)). list_all (λ to. is_still (pipe_in to (from_entries [])))
    (keys_of es)) (listed [] tt)

rows_still : (servers : ℕ) → are_still (replicate servers empty) ≡ true
rows_still zero = refl
rows_still (suc servers) = and_from (are_still_in empty)
    (are_still (replicate servers empty)) row_still (rows_still servers)

row_lean : IsLean empty
row_lean to pipe is = cc (sym (get-empty nat_cmp to) ∙ is)

rows_lean : (servers : ℕ) → AreLean (replicate servers empty)
rows_lean zero = tt
rows_lean (suc servers) = (row_lean, rows_lean servers)

none_waits : (nodes : List Node) → AllByRecursion (λ (node : Node). node.queues ≡ empty) nodes
    → (place to : ℕ) → option_map_or (λ node. waiting node to) (slice_get nodes place) [] ≡ []
none_waits [] none place to = refl
none_waits (node ∷ nodes) none zero to =
    ap (λ ways. unwrap_or (get ways to) []) none.0
    ∙ ap (λ (o : Option (List (List ℕ))). unwrap_or o []) (get-empty nat_cmp to)
none_waits (node ∷ nodes) none (suc place) to = none_waits nodes none.1 place to

pub is_as_new : IsKnownOfStreams → NewIsWhole
is_as_new known net none =
    let pipes : Pipes = replicate (length net.nodes) empty in
    let still : are_still pipes ≡ true = rows_still (length net.nodes) in
    let pipe_is : (from to : ℕ) → pipe_at pipes from to ≡ new_pipe = all_new pipes still in
    let no_line : (from to : ℕ) → lines_ahead pipes from to ≡ [] =
    λ from to. ap lines_to_come (pipe_is from to) ∙ new_has_none known new_is_real in
    record {
      whole = record {
        tidy = record {
          quiet = none_waits net.nodes none;
          rows = length-replicate (length net.nodes) empty;
          lean = rows_lean (length net.nodes);
        };
        whole = λ from to. subst IsWhole (sym (pipe_is from to)) (new_is_whole known new_is_real);
        ways = λ from to no_way. no_line from to;
      };
      as_lines = alone (lines_ahead pipes) net no_line;
      at_rest = still;
    }
