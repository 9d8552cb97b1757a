-- What a server puts out is written at once: it is as if it waited, and all that waits were written
-- then.
use Rattle.std.proofs.Common.{◌≡◌, ◌≢◌, ℕ, zero, suc, Bool, true, false, cond, is_some, Option}
use Rattle.std.proofs.Common.{Some, None, List, [], ◌∷◌, ◌++◌, length, nat_eq, refl, sym, ◌∙◌, ap}
use Rattle.std.proofs.Common.{append-nil, map, option_map, unwrap_or}
use Rattle.std.proofs.lemmas.Bool.{eq-eqb, eqb-true, eqb-false}
use Rattle.std.specs.FinMap.{FinMap, get, insert}
use Rattle.std.specs.List.{slice_get, slice_set}
use Rattle.std.specs.Option.{option_and_then, option_map_or}
use Rattle.std.specs.Ordering.{nat_cmp}
use Rattle.std.proofs.Math.Nat.{suc_inj}
use Rattle.irc_server.specs.Served.{ReadEvent, link_says}
use Rattle.irc_line.specs.Reading.{read_of}
use Rattle.irc_stage.specs.Lemmas.Numbers.{get-with, one_number, same_number, same_number-refl}
use Rattle.irc_network.specs.Network.{Progress, Network, Node, heard, left, line_body, line_counted}
use Rattle.irc_network.specs.Network.{line_queued, node_asked, node_at, node_changed_at, waiting}
use Rattle.irc_network.specs.Network.{with_node}
use Rattle.irc_pipes.specs.Pipes.{AreLean, SamePipes, LinkPipe, Pipes, new_pipe, put_in, pipe_at}
use Rattle.irc_pipes.specs.Pipes.{pipe_in, with_pipe, written, written_at}
use Rattle.irc_pipes.specs.Lemmas.PutPipes.{IsSetAt, get_set, it, nowhere, other_from, other_to}
use Rattle.irc_pipes.specs.Lemmas.PutPipes.{pipe_put, pipe_set}
use Rattle.irc_network.specs.Behind.{Ahead, progress_behind, each_way, emptied, emptied_node}
use Rattle.irc_network.specs.Behind.{net_behind, node_behind, nodes_behind}
use Rattle.irc_network.specs.ByteNetwork.{ByteNetwork, all_heard, all_written}
use Rattle.irc_network.specs.ByteNetwork.{progress_without_pipes, progress_written, queues_written}
use Rattle.irc_network.specs.ByteNetwork.{rows_written, waiting_at}
use Rattle.irc_network.specs.Loops.Progress.{all_heard_out, asked_out, heard_out}
use Rattle.irc_network.specs.Loops.Writing.{IsWritten}
use Rattle.irc_network.specs.Whole.{has_way}
use Rattle.irc_network.specs.Lemmas.Emptied.{emptied_ways, no_line}
use Rattle.irc_network.specs.Lemmas.Rows.{length_set, rows_stay}
use Rattle.irc_network.specs.Lemmas.RowsWritten.{is_written, lean_with, same_written}
use Rattle.irc_network.specs.Lemmas.NodesStay.{asked_stays, heard_stays}
use Rattle.irc_network.specs.Lemmas.Ways.{each_twice, get-each_way, none_waiting}
use Rattle.irc_network.specs.Lemmas.Ways.{same_ways, waiting_behind}
use Rattle.irc_network.proofs.Behind.{asked-behind, at-behind}
use Rattle.irc_network.proofs.GivenLines.{none_there}
use Rattle.irc_network.proofs.Places.{set_again}
use Rattle.irc_network.proofs.Refilled.{alone, refilled}
use Rattle.irc_network.proofs.WaysStay.{asked_keeps}

abbrev PipeRow : Type 0
PipeRow = FinMap nat_cmp LinkPipe

-- ---- other lines are left on a way

node_emptied : (node : Node) (to : ℕ) (lines rest : List (List ℕ)) → get node.queues to ≡ Some lines
    → emptied_node (left to rest node) ≡ emptied_node node
node_emptied node to lines rest is = ap (λ ways. record node { queues = ways })
    (same_ways (each_way (λ q more. []) (insert node.queues to rest))
    (each_way (λ q more. []) node.queues) (λ q.
    get-each_way (λ p more. []) (insert node.queues to rest) q
    ∙ ap (option_map no_line) (get-with node.queues to rest q)
    ∙ by q (same_number q to) refl ∙ sym (get-each_way (λ p more. []) node.queues q)))
  where
    by : (q : ℕ) (b : Bool) → same_number q to ≡ b → option_map no_line
        (cond b (Some rest) (get node.queues q)) ≡ option_map no_line (get node.queues q)
    by q true one = ap (option_map no_line) (sym is)
        ∙ ap (λ n. option_map no_line (get node.queues n)) (sym (one_number q to one))
    by q false two = refl

map_set : (nodes : List Node) (from : ℕ) (node after : Node)
    → slice_get nodes from ≡ Some node → emptied_node after ≡ emptied_node node
    → map emptied_node (slice_set nodes from after) ≡ map emptied_node nodes
map_set [] from node after at same = refl
map_set (first ∷ nodes) zero node after at same =
    ap (λ s. s ∷ map emptied_node nodes) (same ∙ ap (λ o. emptied_node (unwrap_or o node)) (sym at))
map_set (first ∷ nodes) (suc from) node after at same =
    ap (λ ss. emptied_node first ∷ ss) (map_set nodes from node after at same)

set_at : (nodes : List Node) (place : ℕ) (node after : Node) → slice_get nodes place ≡ Some node
    → slice_get (slice_set nodes place after) place ≡ Some after
set_at [] place node after at = cc at
set_at (first ∷ nodes) zero node after at = refl
set_at (first ∷ nodes) (suc place) node after at = set_at nodes place node after at

set_elsewhere : (nodes : List Node) (place x : ℕ) (after : Node) → x ≢ place
    → slice_get (slice_set nodes place after) x ≡ slice_get nodes x
set_elsewhere [] place x after two = refl
set_elsewhere (first ∷ nodes) zero zero after two = absurd (two refl)
set_elsewhere (first ∷ nodes) zero (suc x) after two = refl
set_elsewhere (first ∷ nodes) (suc place) zero after two = refl
set_elsewhere (first ∷ nodes) (suc place) (suc x) after two =
    set_elsewhere nodes place x after (λ e. two (ap suc e))

module _ (net : Network) (place to : ℕ) (node : Node) (lines rest : List (List ℕ))
    (at : node_at net place ≡ Some node)
    (way : get node.queues to ≡ Some lines) where
  abbrev after_left : Network
  after_left = with_node place (left to rest node) net

  left_emptied : emptied after_left ≡ emptied net
  left_emptied = ap (λ nodes. record net { nodes = nodes })
      (map_set net.nodes place node (left to rest node) at (node_emptied node to lines rest way))

  left_at : node_at after_left place ≡ Some (left to rest node)
  left_at = set_at net.nodes place node (left to rest node) at

  left_waits : waiting_at after_left place to ≡ rest
  left_waits =
      ap (λ o. option_map_or (λ s. waiting s to) o []) left_at
      ∙ ap (λ o. unwrap_or o []) (get-with node.queues to rest to)
      ∙ ap (λ b. unwrap_or (cond b (Some rest) (get node.queues to)) []) (same_number-refl to)

  left_there : (y : ℕ) → y ≢ to → waiting_at after_left place y ≡ waiting_at net place y
  left_there y two =
      ap (λ o. option_map_or (λ s. waiting s y) o []) left_at
      ∙ ap (λ o. unwrap_or o []) (get-with node.queues to rest y) ∙ by (same_number y to) refl
      ∙ sym (ap (λ o. option_map_or (λ s. waiting s y) o []) at)
    where
      by : (b : Bool) → same_number y to ≡ b
          → unwrap_or (cond b (Some rest) (get node.queues y)) [] ≡ unwrap_or (get node.queues y) []
      by true one = absurd (two (one_number y to one))
      by false other = refl

  left_elsewhere : (x y : ℕ) → x ≢ place → waiting_at after_left x y ≡ waiting_at net x y
  left_elsewhere x y two = ap (λ o. option_map_or (λ s. waiting s y) o [])
      (set_elsewhere net.nodes place x (left to rest node) two)

-- ---- a line that waits and is written then, and one that is written at once

written_behind : (lines : List (List ℕ)) (line : List ℕ) (pipe : LinkPipe)
    → all_written (lines ++ line ∷ []) pipe ≡ written line (all_written lines pipe)
written_behind [] line pipe = refl
written_behind (first ∷ lines) line pipe = written_behind lines line (written first pipe)

all_behind : (front back : List (List ℕ)) (pipe : LinkPipe)
    → all_written (front ++ back) pipe ≡ all_written back (all_written front pipe)
all_behind [] back pipe = refl
all_behind (line ∷ front) back pipe = all_behind front back (written line pipe)

row_there : (pipes : Pipes) (nodes : List Node) (place : ℕ) (node : Node)
    → length pipes ≡ length nodes → slice_get nodes place ≡ Some node
    → (row : PipeRow) × (slice_get pipes place ≡ Some row)
row_there pipes [] place node same at = cc at
row_there [] (first ∷ nodes) place node same at = cc same
row_there (row ∷ pipes) (first ∷ nodes) zero node same at = (row, refl)
row_there (row ∷ pipes) (first ∷ nodes) (suc place) node same at =
    row_there pipes nodes place node (suc_inj same) at

pipe_here : (pipes : Pipes) (from to : ℕ) (pipe : LinkPipe) (row : PipeRow)
    → slice_get pipes from ≡ Some row → pipe_at (with_pipe from to pipe pipes) from to ≡ pipe
pipe_here pipes from to pipe row is =
    ap (λ o. pipe_at (option_map_or (λ r. slice_set pipes from (put_in to pipe r)) o pipes) from to)
    is
    ∙ ap (λ o. option_map_or (pipe_in to) o new_pipe)
    (get_set pipes from row (put_in to pipe row) is)
    ∙ pipe_put row to pipe to ∙ ap (λ b. cond b pipe (pipe_in to row)) (eq-eqb to to refl)

pub as_many : (nodes : List Node) (pipes : Pipes) → length pipes ≡ length nodes
    → length (rows_written nodes pipes) ≡ length nodes
as_many [] pipes long = long
as_many (node ∷ nodes) [] long = cc long
as_many (node ∷ nodes) (row ∷ pipes) long =
    ap suc (as_many nodes pipes (suc_inj long))

pub map_length : (nodes : List Node) → length (map emptied_node nodes) ≡ length nodes
map_length [] = refl
map_length (node ∷ nodes) = ap suc (map_length nodes)

module _ (net : Network) (pipes : Pipes) (lean : AreLean pipes)
    (long : length pipes ≡ length net.nodes) (place to : ℕ) (node : Node)
    (lines : List (List ℕ)) (line : List ℕ) (at : node_at net place ≡ Some node)
    (way : get node.queues to ≡ Some lines) where
  abbrev after_queued : Network
  after_queued = with_node place (left to (lines ++ line ∷ []) node) net

  abbrev out : Pipes
  out = rows_written net.nodes pipes

  abbrev now : LinkPipe
  now = written line (pipe_at out place to)

  is_out : IsWritten net pipes (queues_written net pipes)
  is_out = is_written net pipes lean long

  there : pipe_at (with_pipe place to now out) place to ≡ now
  there = let row = row_there out net.nodes place node (as_many net.nodes pipes long) at in
      pipe_here out place to now row.0 row.1

  waited : waiting_at net place to ≡ lines
  waited = ap (λ o. option_map_or (λ s. waiting s to) o []) at ∙ ap (λ o. unwrap_or o []) way

  at_it : (x y : ℕ) → x ≡ place → y ≡ to → pipe_at (with_pipe place to now out) x y
      ≡ all_written (waiting_at after_queued x y) (pipe_at pipes x y)
  at_it x y one two =
      ap (λ n. pipe_at (with_pipe place to now out) n y) one
      ∙ ap (pipe_at (with_pipe place to now out) place) two ∙ there
      ∙ ap (written line) (is_out.pipes_are place to
      ∙ ap (λ more. all_written more (pipe_at pipes place to)) waited)
      ∙ sym (written_behind lines line (pipe_at pipes place to))
      ∙ sym (ap (λ more. all_written more (pipe_at pipes place to))
      (left_waits net place to node lines (lines ++ line ∷ []) at way))
      ∙ sym (ap (λ n. all_written (waiting_at after_queued place n) (pipe_at pipes place n)) two)
      ∙ sym (ap (λ n. all_written (waiting_at after_queued n y) (pipe_at pipes n y)) one)

  apart_to : (x y : ℕ) → y ≢ to → (b : Bool) → nat_eq x place ≡ b
      → waiting_at after_queued x y ≡ waiting_at net x y
  apart_to x y two true one =
      ap (λ n. waiting_at after_queued n y) (eqb-true x place one)
      ∙ left_there net place to node lines (lines ++ line ∷ []) at way y two
      ∙ sym (ap (λ n. waiting_at net n y) (eqb-true x place one))
  apart_to x y two false other =
      left_elsewhere net place to node lines (lines ++ line ∷ []) at way x y
      (eqb-false x place other)

  pipe_is : (x y : ℕ) → pipe_at (with_pipe place to now out) x y
      ≡ all_written (waiting_at after_queued x y) (pipe_at pipes x y)
  pipe_is x y = by (pipe_set place to now out x y)
    where
      by : IsSetAt place to now out x y → pipe_at (with_pipe place to now out) x y
          ≡ all_written (waiting_at after_queued x y) (pipe_at pipes x y)
      by (it one two is) = at_it x y one two
      by (nowhere one two is was) = at_it x y one two
      by (other_from apart is) =
          is ∙ is_out.pipes_are x y
          ∙ sym (ap (λ more. all_written more (pipe_at pipes x y))
          (left_elsewhere net place to node lines (lines ++ line ∷ []) at way x y
          (eqb-false x place apart)))
      by (other_to apart is) =
          is ∙ is_out.pipes_are x y
          ∙ sym (ap (λ more. all_written more (pipe_at pipes x y))
          (apart_to x y (eqb-false y to apart) (nat_eq x place) refl))

  is_queued : IsWritten after_queued pipes
      (record { network = emptied net; pipes = with_pipe place to now out })
  is_queued = record {
    network_is = sym (left_emptied net place to node lines (lines ++ line ∷ []) at way);
    pipes_are = pipe_is;
    rows = rows_stay place to now out ∙ as_many net.nodes pipes long ∙ sym (map_length net.nodes);
    lean = lean_with place to now out is_out.lean;
  }

  long_queued : length pipes ≡ length after_queued.nodes
  long_queued = long ∙ sym (length_set net.nodes place (left to (lines ++ line ∷ []) node))

module _ (same : SamePipes) (net : Network) (pipes : Pipes) (lean : AreLean pipes)
    (long : length pipes ≡ length net.nodes)
    (place to : ℕ) (text : List ℕ) where
  abbrev at_once : ByteNetwork
  at_once = record {
    network = emptied net;
    pipes = written_at place to (line_body text) (rows_written net.nodes pipes);
  }

  -- it waits on a way, and is written then
  pub queued_written : has_way net place to ≡ true
      → queues_written (node_changed_at place (line_queued to text) net) pipes ≡ at_once
  queued_written has = by_node (node_at net place) refl has
    where
      by_way : (node : Node) → node_at net place ≡ Some node → (o : Option (List (List ℕ)))
          → get node.queues to ≡ o → is_some o ≡ true → queues_written (with_node place
          (option_map_or (λ lines. record node {
            queues = insert node.queues to
                (lines ++ line_body text ∷ []);
          }) o node) net) pipes ≡ at_once
      by_way node at None way there_is = cc there_is
      by_way node at (Some lines) way there_is =
          let after =
          after_queued net pipes lean long place to node lines (line_body text) at way in
          same_written same after pipes (queues_written after pipes) at_once
          (is_written after pipes lean
          (long_queued net pipes lean long place to node lines (line_body text) at way))
          (is_queued net pipes lean long place to node lines (line_body text) at way)

      by_node : (o : Option Node) → node_at net place ≡ o → is_some
          (option_and_then (λ (node : Node). get node.queues to) o) ≡ true → queues_written
          (option_map_or (λ node. with_node place (line_queued to text node) net) o net) pipes
          ≡ at_once
      by_node None at there_is = cc there_is
      by_node (Some node) at there_is = by_way node at (get node.queues to) refl there_is

  -- without a way it does not wait
  pub nowhere_queued : has_way net place to ≡ false
      → node_changed_at place (line_queued to text) net ≡ net
  nowhere_queued none = by_node (node_at net place) refl none
    where
      by_way : (node : Node) → node_at net place ≡ Some node → (o : Option (List (List ℕ)))
          → is_some o ≡ false → with_node place (option_map_or (λ lines. record node
          { queues = insert node.queues to (lines ++ line_body text ∷ []) }) o node) net ≡ net
      by_way node at None nothing =
          ap (λ nodes. record net { nodes = nodes }) (set_again net.nodes place node at)
      by_way node at (Some lines) nothing = cc nothing

      by_node : (o : Option Node) → node_at net place ≡ o
          → is_some (option_and_then (λ (node : Node). get node.queues to) o) ≡ false
          → option_map_or (λ node. with_node place (line_queued to text node) net) o net ≡ net
      by_node None at nothing = refl
      by_node (Some node) at nothing = by_way node at (get node.queues to) nothing

-- ---- a server that is asked while lines wait, and once they are written

emptied_behind : (ahead : ℕ → List (List ℕ)) (node : Node)
    → emptied_node (node_behind ahead node) ≡ emptied_node node
emptied_behind ahead node = ap (λ ways. record node { queues = ways })
    (each_twice (λ to lines. []) (λ to lines. ahead to ++ lines) node.queues)

all_emptied_behind : (ahead : Ahead) (nodes : List Node)
    → map emptied_node (nodes_behind ahead nodes) ≡ map emptied_node nodes
all_emptied_behind ahead [] = refl
all_emptied_behind ahead (node ∷ nodes) =
    λ i. emptied_behind (ahead 0) node i ∷ all_emptied_behind (λ place. ahead (suc place)) nodes i

nodes_counted : (ahead : Ahead) (nodes : List Node)
    → length (nodes_behind ahead nodes) ≡ length nodes
nodes_counted ahead [] = refl
nodes_counted ahead (node ∷ nodes) = ap suc (nodes_counted (λ place. ahead (suc place)) nodes)

-- on a way that is there the lines ahead are in front, and there are none where no way is
behind_waits : (ahead : Ahead) (net : Network) (from to : ℕ)
    → (has_way net from to ≡ false → ahead from to ≡ [])
    → waiting_at (net_behind ahead net) from to ≡ ahead from to ++ waiting_at net from to
behind_waits ahead net from to none =
    ap (λ o. option_map_or (λ node. waiting node to) o []) (at-behind ahead net from)
    ∙ by_node (node_at net from) none
  where
    by_way : (node : Node) (o : Option (List (List ℕ)))
        → get node.queues to ≡ o → (is_some o ≡ false → ahead from to ≡ [])
        → waiting (node_behind (ahead from) node) to ≡ ahead from to ++ waiting node to
    by_way node None way nothing =
        none_waiting (ahead from) node to way ∙ sym (nothing refl)
        ∙ sym (append-nil (ahead from to)) ∙ ap (λ o. ahead from to ++ unwrap_or o []) (sym way)
    by_way node (Some lines) way nothing =
        waiting_behind (ahead from) node to lines way
        ∙ ap (λ o. ahead from to ++ unwrap_or o []) (sym way)

    by_node : (o : Option Node) → (is_some (option_and_then (λ (node : Node). get node.queues to) o)
        ≡ false → ahead from to ≡ [])
        → option_map_or (λ node. waiting node to) (option_map (node_behind (ahead from)) o) []
        ≡ ahead from to ++ option_map_or (λ node. waiting node to) o []
    by_node None nothing = sym (append-nil (ahead from to) ∙ nothing refl)
    by_node (Some node) nothing = by_way node (get node.queues to) refl nothing

module _ (same : SamePipes) (ahead : Ahead) (net : Network) (pipes out : Pipes)
    (lean : AreLean pipes) (out_lean : AreLean out)
    (long : length pipes ≡ length net.nodes) (out_long : length out ≡ length net.nodes)
    (none : (from to : ℕ) → has_way net from to ≡ false → ahead from to ≡ [])
    (out_is : (from to : ℕ)
    → pipe_at out from to ≡ all_written (ahead from to) (pipe_at pipes from to)) where
  is_behind : IsWritten (net_behind ahead net) pipes (queues_written net out)
  is_behind =
      let written = is_written net out out_lean out_long in
      record {
        network_is =
            sym (ap (λ nodes. record net { nodes = nodes }) (all_emptied_behind ahead net.nodes));
        pipes_are = λ from to.
            written.pipes_are from to ∙ ap (all_written (waiting_at net from to)) (out_is from to)
            ∙ sym (all_behind (ahead from to) (waiting_at net from to) (pipe_at pipes from to))
            ∙ sym (ap (λ lines. all_written lines (pipe_at pipes from to))
            (behind_waits ahead net from to (none from to)));
        rows = written.rows;
        lean = written.lean;
      }

  -- what is ahead is written first, and the rest then
  written_ahead : queues_written (net_behind ahead net) pipes ≡ queues_written net out
  written_ahead =
      same_written same (net_behind ahead net) pipes (queues_written (net_behind ahead net) pipes)
      (queues_written net out)
      (is_written (net_behind ahead net) pipes lean (long ∙ sym (nodes_counted ahead net.nodes)))
      is_behind

module _ (same : SamePipes) (place : ℕ) (read_event : ReadEvent) (progress : Progress Network)
    (pipes : Pipes)
    (lean : AreLean pipes)
    (long : length pipes ≡ length progress.state.nodes) where
  abbrev waiting_now : Ahead
  waiting_now from to = waiting_at progress.state from to

  abbrev start : Progress Network
  start = progress_without_pipes (progress_written progress pipes)

  abbrev last : Progress Network
  last = node_asked place read_event start

  was_behind : progress ≡ progress_behind waiting_now start
  was_behind = ap (λ net. record progress { state = net })
      (sym (refilled (λ from to. []) waiting_now progress.state (λ from to. refl)
      ∙ alone (λ from to. []) progress.state (λ from to. refl)))

  asked_so : node_asked place read_event progress ≡ progress_behind waiting_now last
  asked_so =
      ap (node_asked place read_event) was_behind ∙ asked-behind waiting_now place read_event start

  long_now : length pipes ≡ length last.state.nodes
  long_now = long ∙ sym (map_length progress.state.nodes) ∙ sym (asked_stays place read_event start)

  -- They are written before it is asked or with what it puts out: it is one.
  pub written_between : asked_out place read_event (progress_written progress pipes)
      ≡ progress_written (node_asked place read_event progress) pipes
  written_between =
      let written = is_written progress.state pipes lean long in
      sym (ap (λ (c : Progress Network). progress_written c pipes) asked_so
      ∙ ap (λ (net : ByteNetwork). record { state = net; out = last.out })
      (written_ahead same waiting_now last.state pipes
      (rows_written progress.state.nodes pipes) lean written.lean long_now
      (as_many progress.state.nodes pipes long ∙ sym long ∙ long_now)
      (λ from to none. none_there progress.state from to
      (sym (emptied_ways progress.state from to) ∙ sym (asked_keeps place read_event start from to)
      ∙ none))
      written.pipes_are))

-- ---- lines that are heard in turn

module _ (same : SamePipes) (from to : ℕ) (pipes : Pipes) (lean : AreLean pipes) where
  one_heard : (progress : Progress Network) (line : List ℕ)
      → length pipes ≡ length progress.state.nodes
      → heard_out from to (progress_written progress pipes) line ≡ progress_written
      (heard from to progress line) pipes
  one_heard progress line long = written_between same to (link_says from (read_of line))
      (record progress { state = line_counted progress.state }) pipes lean long

  pub all_heard_written : (lines : List (List ℕ)) (progress : Progress Network)
      → length pipes ≡ length progress.state.nodes → all_heard_out from to
      (progress_written progress pipes) lines ≡ progress_written
      (all_heard from to progress lines) pipes
  all_heard_written [] progress long = refl
  all_heard_written (line ∷ lines) progress long =
      ap (λ c. all_heard_out from to c lines) (one_heard progress line long)
      ∙ all_heard_written lines (heard from to progress line)
      (long ∙ sym (heard_stays from to progress line))
