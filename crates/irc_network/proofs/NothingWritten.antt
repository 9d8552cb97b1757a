-- A turn that completes no line changes the pipes alone.
use Rattle.std.proofs.Common.{◌≡◌, ℕ, suc, Bool, true, false, cond, Option, Some, None, List, []}
use Rattle.std.proofs.Common.{◌∷◌, length, nat_eq, refl, sym, ◌∙◌, ap, subst, unwrap_or}
use Rattle.std.proofs.Common.{if◌then◌else◌, map}
use Rattle.std.proofs.lemmas.Bool.{and_parts, eqb-true}
use Rattle.std.specs.Cmp.{nat_cmp_total}
use Rattle.std.specs.FinMap.{FinMap, entries, entries_sorted, find, get, get-entries, is_sorted}
use Rattle.std.specs.FinMap.{nat_cmp-IsAntisymmetric, same_map}
use Rattle.std.specs.FinMap.Entries.{below_all}
use Rattle.std.specs.List.{AllByRecursion, slice_get}
use Rattle.std.specs.Option.{option_map, option_map_or}
use Rattle.std.specs.Ordering.{nat_cmp}
use Rattle.irc_names.specs.Lemmas.PlainFacts.{is_true}
use Rattle.irc_stage.specs.Lemmas.Numbers.{one_number, same_number, same_number-refl}
use Rattle.irc_tables.specs.Lemmas.OrderedEntries.{above-is, find-above}
use Rattle.irc_network.specs.Network.{Progress, Network, Node, waiting}
use Rattle.irc_pipes.specs.Pipes.{AreLean, Direction, IsLean, LinkPipe, Pipes, advanced}
use Rattle.irc_pipes.specs.Pipes.{first_direction, is_still, new_pipe, put_in, pipe_at, pipe_in}
use Rattle.irc_pipes.specs.Lemmas.PutPipes.{get-put}
use Rattle.irc_network.specs.ByteNetwork.{ByteNetwork, all_heard, all_written}
use Rattle.irc_network.specs.ByteNetwork.{bytes_come, completed_in, progress_without_pipes}
use Rattle.irc_network.specs.ByteNetwork.{progress_written, row_written, rows_written}
use Rattle.irc_network.specs.ByteNetwork.{waiting_at, pipes_come, queues_written}
use Rattle.irc_network.specs.Turns.{bytes_in_turn, lines_in, lines_in_turn, turn_in}
use Rattle.irc_network.specs.Turns.{turn_taken}
use Rattle.irc_network.specs.Whole.{IsTidy}
use Rattle.irc_network.specs.Behind.{each_way, emptied, emptied_node}
use Rattle.irc_network.specs.Lemmas.Emptied.{no_line}
use Rattle.irc_network.specs.Lemmas.RowsWritten.{lean_with}
use Rattle.irc_network.specs.Lemmas.Ways.{get-each_way, same_ways}
use Rattle.irc_network.specs.Lemmas.Rows.{rows_stay}

abbrev PipeRow : Type 0
PipeRow = FinMap nat_cmp LinkPipe

-- ---- where nothing waits, it is as if emptied

no_lines : (lines : List (List ℕ)) → lines ≡ [] → no_line lines ≡ lines
no_lines lines none = sym none

node_alone : (node : Node) → ((to : ℕ) → waiting node to ≡ []) → emptied_node node ≡ node
node_alone node none = ap (λ ways. record node { queues = ways })
    (same_ways (each_way (λ to lines. []) node.queues) node.queues (λ to.
    get-each_way (λ q lines. []) node.queues to ∙ by to (get node.queues to) refl))
  where
    by : (to : ℕ) (o : Option (List (List ℕ))) → get node.queues to ≡ o → option_map no_line o ≡ o
    by to None is = refl
    by to (Some lines) is = ap Some (no_lines lines (sym (ap (λ o. unwrap_or o []) is) ∙ none to))

nodes_alone : (nodes : List Node)
    → ((place to : ℕ) → option_map_or (λ node. waiting node to) (slice_get nodes place) [] ≡ [])
    → map emptied_node nodes ≡ nodes
nodes_alone [] none = refl
nodes_alone (node ∷ nodes) none =
    λ i. node_alone node (none 0) i ∷ nodes_alone nodes (λ place. none (suc place)) i

rest_is_emptied : (net : Network) → ((from to : ℕ) → waiting_at net from to ≡ [])
    → net ≡ emptied net
rest_is_emptied net none =
    sym (ap (λ nodes. record net { nodes = nodes }) (nodes_alone net.nodes none))

-- ---- and nothing is written

put_alone : (row : PipeRow) (to : ℕ) → IsLean row → put_in to (pipe_in to row) row ≡ row
put_alone row to lean =
    same_map nat_cmp_total nat_cmp-IsAntisymmetric (put_in to (pipe_in to row) row) row (λ q.
    get-put row to (pipe_in to row) q ∙ by_key q (nat_eq q to) refl)
  where
    kept : (o : Option LinkPipe) → get row to ≡ o
        → (if is_still (unwrap_or o new_pipe) then None else Some (unwrap_or o new_pipe)) ≡ o
    kept None is = refl
    kept (Some pipe) is = ap (λ b. if b then None else Some pipe) (lean to pipe is)

    by_key : (q : ℕ) (b : Bool) → nat_eq q to ≡ b → cond b (if is_still (pipe_in to row)
        then None else Some (pipe_in to row)) (get row q) ≡ get row q
    by_key q true one = kept (get row to) refl ∙ ap (get row) (sym (eqb-true q to one))
    by_key q false two = refl

abbrev HasNone : ℕ × List (List ℕ) → Type 0
HasNone way = way.1 ≡ []

row_alone : (ways : List (ℕ × List (List ℕ))) (row : PipeRow) → IsLean row
    → AllByRecursion HasNone ways → row_written ways row ≡ row
row_alone [] row lean none = refl
row_alone (way ∷ ways) row lean none =
    ap (row_written ways) (ap (λ lines. put_in way.0 (all_written lines (pipe_in way.0 row)) row)
    none.0 ∙ put_alone row way.0 lean)
    ∙ row_alone ways row lean none.1

-- what is listed is what is found, since the places rise
none_listed : (ways : List (ℕ × List (List ℕ))) → is_sorted nat_cmp ways ≡ true
    → ((to : ℕ) → unwrap_or (find nat_cmp to ways) [] ≡ []) → AllByRecursion HasNone ways
none_listed [] sorted none = tt
none_listed (way ∷ ways) sorted none =
    (first, none_listed ways parts.1 (λ to. rest to (same_number to way.0) refl (none to)))
  where
    parts : (below_all nat_cmp way.0 ways ≡ true) × (is_sorted nat_cmp ways ≡ true)
    parts = and_parts _ _ sorted

    first : way.1 ≡ []
    first = ap (λ b. unwrap_or (cond b (Some way.1) (find nat_cmp way.0 ways)) [])
        (sym (same_number-refl way.0)) ∙ none way.0

    rest : (to : ℕ) (b : Bool) → same_number to way.0 ≡ b
        → unwrap_or (cond b (Some way.1) (find nat_cmp to ways)) [] ≡ []
        → unwrap_or (find nat_cmp to ways) [] ≡ []
    rest to true one is =
        ap (λ n. unwrap_or (find nat_cmp n ways) []) (one_number to way.0 one)
        ∙ ap (λ o. unwrap_or o []) (find-above nat_cmp_total way.0 ways
        (sym (above-is nat_cmp_total way.0 ways) ∙ parts.0))
    rest to false two is = is

ways_none : (node : Node) → ((to : ℕ) → waiting node to ≡ [])
    → AllByRecursion HasNone (entries node.queues)
ways_none node none =
    none_listed (entries node.queues) (is_true _ (entries_sorted node.queues))
    (λ to. ap (λ o. unwrap_or o []) (sym (get-entries node.queues to)) ∙ none to)

rows_alone : (nodes : List Node) (pipes : Pipes)
    → ((place to : ℕ) → option_map_or (λ node. waiting node to) (slice_get nodes place) [] ≡ [])
    → AreLean pipes → rows_written nodes pipes ≡ pipes
rows_alone [] pipes none lean = refl
rows_alone (node ∷ nodes) [] none lean = refl
rows_alone (node ∷ nodes) (row ∷ pipes) none lean =
    λ i. row_alone (entries node.queues) row lean.0 (ways_none node (none 0)) i
    ∷ rows_alone nodes pipes (λ place. none (suc place)) lean.1 i

pub nothing_written : (net : Network) (pipes : Pipes)
    → ((from to : ℕ) → waiting_at net from to ≡ []) → AreLean pipes
    → queues_written net pipes ≡ record { network = net; pipes = pipes }
nothing_written net pipes none lean =
    ap (λ (n : Network). record { network = n; pipes = rows_written net.nodes pipes })
    (sym (rest_is_emptied net none))
    ∙ ap (λ (ws : Pipes). record { network = net; pipes = ws })
    (rows_alone net.nodes pipes none lean)

-- ---- a turn

-- the bytes through the next LF have come in the first direction, and that is all
pub record MovesAlone (old new : Progress ByteNetwork) : Type 0 where
  pub way : Direction
  pub is_first : first_direction old.state.pipes ≡ Some way
  pub new_is : new ≡ record {
    state = record {
      network = old.state.network;
      pipes = pipes_come old.state way.from way.to (bytes_in_turn old.state way);
    };
    out = old.out;
  }
  pub tidy : IsTidy new.state

none_completed : (lines : List (List ℕ)) → length lines ≡ 0 → lines ≡ []
none_completed [] none = refl
none_completed (first ∷ lines) none = cc none

module _ (old : Progress ByteNetwork) (tidy : IsTidy old.state) (way : Direction) where
  abbrev come : Pipes
  come = pipes_come old.state way.from way.to (bytes_in_turn old.state way)

  abbrev moved : Progress ByteNetwork
  moved =
      record { state = record { network = old.state.network; pipes = come }; out = old.out }

  come_lean : AreLean come
  come_lean = lean_with way.from way.to (advanced (bytes_in_turn old.state way)
      (pipe_at old.state.pipes way.from way.to)) old.state.pipes tidy.lean

  turn_moves : lines_in old.state way ≡ 0 → turn_in old way ≡ moved
  unfolding bytes_come
  turn_moves none =
      ap (λ lines. progress_written
      (all_heard way.from way.to (progress_without_pipes old) lines) come)
      (none_completed (completed_in old.state way.from way.to (bytes_in_turn old.state way)) none)
      ∙ ap (λ (net : ByteNetwork). record { state = net; out = old.out })
      (nothing_written old.state.network come tidy.quiet come_lean)

  moved_tidy : IsTidy moved.state
  moved_tidy = record {
    quiet = tidy.quiet;
    rows = rows_stay way.from way.to (advanced (bytes_in_turn old.state way)
        (pipe_at old.state.pipes way.from way.to)) old.state.pipes ∙ tidy.rows;
    lean = come_lean;
  }

  moves : (new : Progress ByteNetwork) → first_direction old.state.pipes ≡ Some way
      → turn_in old way ≡ new → lines_in old.state way ≡ 0 → MovesAlone old new
  moves new is taken none = record {
    way = way;
    is_first = is;
    new_is = sym taken ∙ turn_moves none;
    tidy = subst (λ (progress : Progress ByteNetwork). IsTidy progress.state)
        (sym (turn_moves none) ∙ taken) moved_tidy;
  }

pub moves_alone : (old new : Progress ByteNetwork) → IsTidy old.state → turn_taken old ≡ Some new
    → lines_in_turn old.state ≡ 0 → MovesAlone old new
moves_alone old new tidy taken none = by (first_direction old.state.pipes) refl taken none
  where
    by : (o : Option Direction) → first_direction old.state.pipes ≡ o → option_map (turn_in old) o
        ≡ Some new → option_map_or (lines_in old.state) o 0 ≡ 0 → MovesAlone old new
    by None is gone zero_lines = cc gone
    by (Some way) is came zero_lines =
        moves old tidy way new is (ap (λ o. unwrap_or o new) came) zero_lines
