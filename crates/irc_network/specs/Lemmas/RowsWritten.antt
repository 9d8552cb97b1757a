-- What is written out is on each pipe the lines that waited on its way, and nothing else is so.
use Rattle.std.proofs.Common.{◌≡◌, ℕ, zero, suc, Bool, true, false, cond, Option, Some, None}
use Rattle.std.proofs.Common.{List, [], ◌∷◌, length, nat_eq, refl, sym, ◌∙◌, ap, subst, map}
use Rattle.std.proofs.Common.{unwrap_or, if◌then◌else◌}
use Rattle.std.proofs.lemmas.Bool.{eqb-true}
use Rattle.std.specs.Cmp.{first_so, nat_cmp_total, second_so, unsigned_tied}
use Rattle.std.specs.FinMap.{FinMap, entries, entries_sorted, find, get, get-entries, remove}
use Rattle.std.specs.FinMap.Entries.{below_all, is_sorted}
use Rattle.std.specs.List.{slice_get, slice_set}
use Rattle.std.specs.Option.{option_map_or}
use Rattle.std.specs.Ordering.{nat_cmp}
use Rattle.std.proofs.Math.Nat.{suc_inj}
use Rattle.irc_names.specs.Lemmas.PlainFacts.{is_true}
use Rattle.irc_network.specs.Network.{LinkPlaces, Network, Node, waiting}
use Rattle.irc_tables.specs.Lemmas.OrderedEntries.{above-is, find-above}
use Rattle.irc_pipes.specs.Pipes.{AreLean, IsLean, SamePipes, LinkPipe, Pipes, is_still, put_in}
use Rattle.irc_pipes.specs.Pipes.{pipe_at, pipe_in, with_pipe, without_pipe}
use Rattle.irc_pipes.specs.Lemmas.PutPipes.{get-put, get-without, pipe_put}
use Rattle.irc_network.specs.Behind.{emptied_node}
use Rattle.irc_network.specs.ByteNetwork.{ByteNetwork, all_written, lost_along, row_written}
use Rattle.irc_network.specs.ByteNetwork.{rows_written, queues_written}
use Rattle.irc_network.specs.Loops.Writing.{IsWritten}

abbrev PipeRow : Type 0
PipeRow = FinMap nat_cmp LinkPipe

abbrev LineQueue : Type 0
LineQueue = ℕ × List (List ℕ)

-- ---- in a row

-- no way behind one goes where it goes
none_behind : (way : LineQueue) (ways : List LineQueue) → below_all nat_cmp way.0 ways ≡ true
    → find nat_cmp way.0 ways ≡ None
none_behind way ways below =
    find-above nat_cmp_total way.0 ways (sym (above-is nat_cmp_total way.0 ways) ∙ below)

row_at : (ways : List LineQueue) (row : PipeRow) (to : ℕ) → is_sorted nat_cmp ways ≡ true
    → pipe_in to
    (row_written ways row) ≡ all_written (unwrap_or (find nat_cmp to ways) []) (pipe_in to row)
row_at [] row to sorted = refl
row_at (way ∷ ways) row to sorted =
    row_at ways (put_in way.0 (all_written way.1 (pipe_in way.0 row)) row) to
    (second_so (below_all nat_cmp way.0 ways) (is_sorted nat_cmp ways) sorted)
    ∙ ap (all_written (unwrap_or (find nat_cmp to ways) []))
    (pipe_put row way.0 (all_written way.1 (pipe_in way.0 row)) to)
    ∙ by (nat_eq to way.0) refl
    ∙ sym (ap (λ b. all_written (unwrap_or (cond b (Some way.1) (find nat_cmp to ways)) [])
    (pipe_in to row)) (unsigned_tied to way.0))
  where
    by : (b : Bool) → nat_eq to way.0 ≡ b → all_written (unwrap_or (find nat_cmp to ways) [])
        (cond b (all_written way.1 (pipe_in way.0 row)) (pipe_in to row))
        ≡ all_written (unwrap_or (cond b (Some way.1) (find nat_cmp to ways)) []) (pipe_in to row)
    by true one =
        let is = eqb-true to way.0 one in
        ap (λ o. all_written (unwrap_or o []) (all_written way.1 (pipe_in way.0 row)))
        (ap (λ n. find nat_cmp n ways) is ∙ none_behind way ways
        (first_so (below_all nat_cmp way.0 ways) (is_sorted nat_cmp ways) sorted))
        ∙ ap (λ n. all_written way.1 (pipe_in n row)) (sym is)
    by false two = refl

-- ---- no pipe is kept that is still

lean_put : (row : PipeRow) (to : ℕ) (pipe : LinkPipe) → IsLean row → IsLean (put_in to pipe row)
lean_put row to pipe lean q found is =
    by (nat_eq q to) (is_still pipe) refl (sym (get-put row to pipe q) ∙ is)
  where
    by : (a b : Bool) → is_still pipe ≡ b
        → cond a (if b then None else Some pipe) (get row q) ≡ Some found → is_still found ≡ false
    by true true still one = cc one
    by true false moves one = ap (λ o. is_still (unwrap_or o found)) (sym one) ∙ moves
    by false b still other = lean q found other

lean_without : (row : PipeRow) (to : ℕ) → IsLean row → IsLean (remove row to)
lean_without row to lean q found is = by (nat_eq q to) (sym (get-without row to q) ∙ is)
  where
    by : (a : Bool) → cond a None (get row q) ≡ Some found → is_still found ≡ false
    by true one = cc one
    by false other = lean q found other

lean_row : (ways : List LineQueue) (row : PipeRow) → IsLean row → IsLean (row_written ways row)
lean_row [] row lean = lean
lean_row (way ∷ ways) row lean =
    lean_row ways (put_in way.0 (all_written way.1 (pipe_in way.0 row)) row)
    (lean_put row way.0 (all_written way.1 (pipe_in way.0 row)) lean)

lean_rows : (nodes : List Node) (pipes : Pipes) → AreLean pipes → AreLean (rows_written nodes pipes)
lean_rows [] pipes lean = lean
lean_rows (node ∷ nodes) [] lean = tt
lean_rows (node ∷ nodes) (row ∷ pipes) lean =
    (lean_row (entries node.queues) row lean.0, lean_rows nodes pipes lean.1)

lean_at : (pipes : Pipes) (place : ℕ) (row : PipeRow) → slice_get pipes place ≡ Some row
    → AreLean pipes → IsLean row
lean_at [] place row at lean = cc at
lean_at (first ∷ pipes) zero row at lean = subst IsLean (ap (λ o. unwrap_or o first) at) lean.0
lean_at (first ∷ pipes) (suc place) row at lean = lean_at pipes place row at lean.1

lean_set : (pipes : Pipes) (place : ℕ) (row : PipeRow) → IsLean row → AreLean pipes
    → AreLean (slice_set pipes place row)
lean_set [] place row one lean = tt
lean_set (first ∷ pipes) zero row one lean = (one, lean.1)
lean_set (first ∷ pipes) (suc place) row one lean = (lean.0, lean_set pipes place row one lean.1)

pub lean_with : (from to : ℕ) (pipe : LinkPipe) (pipes : Pipes) → AreLean pipes
    → AreLean (with_pipe from to pipe pipes)
lean_with from to pipe pipes lean = by (slice_get pipes from) refl
  where
    by : (o : Option PipeRow) → slice_get pipes from ≡ o
        → AreLean (option_map_or (λ row. slice_set pipes from (put_in to pipe row)) o pipes)
    by None is = lean
    by (Some row) is = lean_set pipes from (put_in to pipe row)
        (lean_put row to pipe (lean_at pipes from row is lean)) lean

one_closed : (from to : ℕ) (pipes : Pipes) → AreLean pipes → AreLean (without_pipe from to pipes)
one_closed from to pipes lean = by (slice_get pipes from) refl
  where
    by : (o : Option PipeRow) → slice_get pipes from ≡ o
        → AreLean (option_map_or (λ row. slice_set pipes from (remove row to)) o pipes)
    by None is = lean
    by (Some row) is = lean_set pipes from (remove row to)
        (lean_without row to (lean_at pipes from row is lean)) lean

pub lean_along : (lost : Option LinkPlaces) (pipes : Pipes) → AreLean pipes
    → AreLean (lost_along lost pipes)
lean_along None pipes lean = lean
lean_along (Some ends) pipes lean = one_closed ends.far ends.near
    (without_pipe ends.near ends.far pipes) (one_closed ends.near ends.far pipes lean)

-- ---- all rows

rows_at : (nodes : List Node) (pipes : Pipes) (from to : ℕ) → length pipes ≡ length nodes
    → pipe_at (rows_written nodes pipes) from to
    ≡ all_written (option_map_or (λ node. waiting node to) (slice_get nodes from) [])
    (pipe_at pipes from to)
rows_at [] pipes from to long = refl
rows_at (node ∷ nodes) [] from to long = cc long
rows_at (node ∷ nodes) (row ∷ pipes) zero to long =
    row_at (entries node.queues) row to
    (is_true (is_sorted nat_cmp (entries node.queues)) (entries_sorted node.queues))
    ∙ sym (ap (λ o. all_written (unwrap_or o []) (pipe_in to row)) (get-entries node.queues to))
rows_at (node ∷ nodes) (row ∷ pipes) (suc from) to long =
    rows_at nodes pipes from to (suc_inj long)

as_many : (nodes : List Node) (pipes : Pipes) → length pipes ≡ length nodes
    → length (rows_written nodes pipes) ≡ length (map emptied_node nodes)
as_many [] pipes long = long
as_many (node ∷ nodes) [] long = cc long
as_many (node ∷ nodes) (row ∷ pipes) long =
    ap suc (as_many nodes pipes (suc_inj long))

pub is_written : (net : Network) (pipes : Pipes) → AreLean pipes → length pipes ≡ length net.nodes
    → IsWritten net pipes (queues_written net pipes)
is_written net pipes lean long = record {
  network_is = refl;
  pipes_are = λ from to. rows_at net.nodes pipes from to long;
  rows = as_many net.nodes pipes long;
  lean = lean_rows net.nodes pipes lean;
}

-- ---- and nothing else is

pub same_written : SamePipes → (net : Network) (pipes : Pipes) (one other : ByteNetwork)
    → IsWritten net pipes one → IsWritten net pipes other → one ≡ other
same_written same net pipes one other is too =
    let networks = is.network_is ∙ sym too.network_is in
    let rows = is.rows ∙ ap (λ (n : Network). length n.nodes) networks ∙ sym too.rows in
    let alike = same one.pipes other.pipes is.lean too.lean rows
    (λ from to. is.pipes_are from to ∙ sym (too.pipes_are from to)) in
    λ i. record { network = networks i; pipes = alike i }
