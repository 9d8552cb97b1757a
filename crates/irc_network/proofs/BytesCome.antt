-- Bytes that come deliver the lines that they complete, where links carry lines.
use Rattle.std.proofs.Common.{◌≡◌, ℕ, Bool, true, false, cond, is_some, Option, Some, None}
use Rattle.std.proofs.Common.{List, [], ◌∷◌, ◌++◌, length, nat_eq, refl, sym, ◌∙◌, ap, subst}
use Rattle.std.proofs.Common.{option_map, unwrap_or}
use Rattle.std.proofs.lemmas.Bool.{eq-eqb, eqb-true, ne_eqb}
use Rattle.std.specs.FinMap.{get}
use Rattle.std.specs.List.{AllByRecursion}
use Rattle.std.specs.Option.{option_and_then, option_map_or}
use Rattle.irc_line.specs.Lines.{IsLine}
use Rattle.irc_network.specs.Network.{Progress, Network, Receipt, Node, node_at, waiting, heard}
use Rattle.irc_pipes.specs.Pipes.{LinkPipe, Pipes, advanced, lines_to_come, pipe_at, with_pipe}
use Rattle.irc_pipes.specs.Lemmas.PutPipes.{IsSetAt, it, nowhere, other_from, other_to, pipe_set}
use Rattle.irc_network.specs.Behind.{Ahead, net_behind, progress_behind, emptied, node_behind}
use Rattle.irc_network.specs.ByteNetwork.{ByteNetwork, all_heard, all_written, bytes_come}
use Rattle.irc_network.specs.ByteNetwork.{completed_in, net_in_lines, lines_ahead, waiting_at}
use Rattle.irc_network.specs.ByteNetwork.{queues_written}
use Rattle.irc_network.specs.Loops.Writing.{IsWritten}
use Rattle.irc_network.specs.Whole.{AreLinesWaiting, BytesComeAsLines, ComeAsLines, Delivers}
use Rattle.irc_network.specs.Whole.{IsWhole, IsWholeNet, has_way, no_more, one_first}
use Rattle.irc_network.proofs.Behind.{at-behind}
use Rattle.irc_network.specs.Lemmas.Rows.{rows_after_lines}
use Rattle.irc_network.proofs.Delivered.{IsLeftOn, one_delivered, same_nodes}
use Rattle.irc_network.proofs.GivenLines.{none_there, with_net}
use Rattle.irc_network.proofs.Refilled.{refilled}
use Rattle.irc_network.specs.Lemmas.Emptied.{emptied_waits, emptied_ways}
use Rattle.irc_network.specs.Lemmas.RowsWritten.{is_written, lean_with}
use Rattle.irc_network.specs.Lemmas.Ways.{waiting_behind}
use Rattle.irc_network.proofs.WaysStay.{heard_ways}
use Rattle.irc_network.proofs.PipeLines.{AreWritten, IsKnownOfStreams, advanced_is_whole}
use Rattle.irc_network.proofs.PipeLines.{all_are_written, lines_parted, new_has_none}
use Rattle.irc_network.proofs.PipeLines.{new_is_whole}
use Rattle.irc_network.specs.Lemmas.NewFramer.{new_is_real}

-- ---- lines that are ahead on one way

abbrev pub if_both : Bool → Bool → List (List ℕ) → List (List ℕ) → List (List ℕ)
if_both a b lines other = cond a (cond b lines other) other

abbrev pub ahead_on : ℕ → ℕ → List (List ℕ) → Ahead → Ahead
ahead_on from to lines ahead x y = if_both (nat_eq x from) (nat_eq y to) lines (ahead x y)

on_it : (from to : ℕ) (lines : List (List ℕ)) (ahead : Ahead)
    → ahead_on from to lines ahead from to ≡ lines
on_it from to lines ahead =
    ap (λ a. if_both a (nat_eq to to) lines (ahead from to)) (eq-eqb from from refl)
    ∙ ap (λ b. cond b lines (ahead from to)) (eq-eqb to to refl)

not_to : (a : Bool) (lines other : List (List ℕ)) → if_both a false lines other ≡ other
not_to true lines other = refl
not_to false lines other = refl

left_on : (from to : ℕ) (some rest : List (List ℕ)) (ahead : Ahead)
    → IsLeftOn from to rest (ahead_on from to some ahead) (ahead_on from to rest ahead)
left_on from to some rest ahead = record {
  there = on_it from to rest ahead;
  same_from = λ x two.
      ap (λ b. if_both (nat_eq from from) b rest (ahead from x)) (ne_eqb x to two)
      ∙ not_to (nat_eq from from) rest (ahead from x)
      ∙ sym (ap (λ b. if_both (nat_eq from from) b some (ahead from x)) (ne_eqb x to two)
      ∙ not_to (nat_eq from from) some (ahead from x));
  others = λ place two x.
      ap (λ a. if_both a (nat_eq x to) rest (ahead place x)) (ne_eqb place from two) ∙ sym
      (ap (λ a. if_both a (nat_eq x to) some (ahead place x)) (ne_eqb place from two));
}

-- ---- all that are heard are delivered

-- a way, and the lines that wait on it
pub record HasWay (net : Network) (from to : ℕ) : Type 0 where
  pub node : Node
  pub at : node_at net from ≡ Some node
  pub lines : List (List ℕ)
  pub way : get node.queues to ≡ Some lines

way_of : (net : Network) (from to : ℕ) → has_way net from to ≡ true → HasWay net from to
way_of net from to is = by_node (node_at net from) refl is
  where
    by_way : (node : Node) → node_at net from ≡ Some node → (o : Option (List (List ℕ)))
        → get node.queues to ≡ o → is_some o ≡ true → HasWay net from to
    by_way node at None way none = cc none
    by_way node at (Some lines) way some = record { node = node; at = at; lines = lines; way = way }

    by_node : (o : Option Node) → node_at net from ≡ o → is_some
        (option_and_then (λ (node : Node). get node.queues to) o) ≡ true → HasWay net from to
    by_node None at none = cc none
    by_node (Some node) at some = by_way node at (get node.queues to) refl some

module _ (from to : ℕ) (ahead : Ahead) (rest : List (List ℕ)) where
  all_delivered : (lines : List (List ℕ)) (progress : Progress Network)
      → has_way progress.state from to ≡ true → Delivers from to (length lines)
      (progress_behind (ahead_on from to (lines ++ rest) ahead) progress)
      (progress_behind (ahead_on from to rest ahead) (all_heard from to progress lines))
  all_delivered [] progress way = no_more
  all_delivered (line ∷ lines) progress way =
      let there = way_of progress.state from to way in
      one_first
      (one_delivered from to line (lines ++ rest) (ahead_on from to (line ∷ (lines ++ rest)) ahead)
      (ahead_on from to (lines ++ rest) ahead)
      (on_it from to (line ∷ (lines ++ rest)) ahead) (left_on from to (line ∷ (lines ++ rest))
      (lines ++ rest) ahead) progress there.node there.at there.lines
      there.way)
      (all_delivered lines (heard from to progress line)
      (heard_ways from to progress line from to ∙ way))

-- ---- bytes

module _ (known : IsKnownOfStreams) (old : ByteNetwork) (from to count : ℕ) (before : List Receipt)
    (whole : IsWholeNet old) where
  abbrev pipe : LinkPipe
  pipe = pipe_at old.pipes from to

  abbrev lines : List (List ℕ)
  lines = completed_in old from to count

  abbrev rest : List (List ℕ)
  rest = lines_to_come (advanced count pipe)

  abbrev ahead : Ahead
  ahead = lines_ahead old.pipes

  abbrev start : Progress Network
  start = record { state = old.network; out = before }

  -- the pipes once they have come
  abbrev between : Pipes
  between = with_pipe from to (advanced count pipe) old.pipes

  -- what is ahead then
  abbrev now : Ahead
  now = ahead_on from to rest ahead

  abbrev last : Progress Network
  last = all_heard from to start lines

  parted : ahead from to ≡ lines ++ rest
  parted = lines_parted known pipe (whole.whole from to) count

  front_is : (x y : ℕ) → ahead_on from to (lines ++ rest) ahead x y ≡ ahead x y
  front_is x y = by (nat_eq x from) (nat_eq y to) refl refl
    where
      by : (a b : Bool) → nat_eq x from ≡ a → nat_eq y to ≡ b
          → if_both a b (lines ++ rest) (ahead x y) ≡ ahead x y
      by true true one two = sym parted ∙ ap (λ n. ahead n to) (sym (eqb-true x from one))
          ∙ ap (ahead x) (sym (eqb-true y to two))
      by true false one two = refl
      by false b one two = refl

  none_of_both : (xs ys : List (List ℕ)) → xs ++ ys ≡ [] → (xs ≡ []) × (ys ≡ [])
  none_of_both [] ys none = (refl, none)
  none_of_both (x ∷ xs) ys none = cc none

  -- ---- what is delivered

  delivers : Delivers from to (length lines) (progress_behind ahead start)
      (progress_behind now last)
  delivers =
      subst (λ net. Delivers from to (length lines) (record start { state = net })
      (progress_behind now last))
      (ap (λ nodes. record old.network { nodes = nodes })
      (same_nodes (ahead_on from to (lines ++ rest) ahead) ahead old.network.nodes front_is))
      (by (has_way old.network from to) refl)
    where
      by : (b : Bool) → has_way old.network from to ≡ b → Delivers from to (length lines)
          (progress_behind (ahead_on from to (lines ++ rest) ahead) start)
          (progress_behind now last)
      by true way = all_delivered from to ahead rest lines start way
      by false none =
          subst (λ ls. Delivers from to (length ls)
          (progress_behind (ahead_on from to (ls ++ rest) ahead) start)
          (progress_behind (ahead_on from to rest ahead) (all_heard from to start ls)))
          (sym (none_of_both lines rest (sym parted ∙ whole.ways from to none)).0) no_more

  -- ---- the pipes before what is put out is written

  pub record IsAhead (x y : ℕ) (w : LinkPipe) : Type 0 where
    pub lines_come : lines_to_come w ≡ now x y
    pub ends_lines : IsWhole w

  there_now : (x y : ℕ) → x ≡ from → y ≡ to → now x y ≡ rest
  there_now x y one two = ap (λ n. now n y) one ∙ ap (now from) two ∙ on_it from to rest ahead

  old_pipe : (x y : ℕ) (w : LinkPipe) → w ≡ pipe_at old.pipes x y → now x y ≡ ahead x y
      → IsAhead x y w
  old_pipe x y w is alike =
      subst (IsAhead x y) (sym is) (record { lines_come = sym alike; ends_lines = whole.whole x y })

  pipe_ahead : (x y : ℕ) → IsAhead x y (pipe_at between x y)
  pipe_ahead x y = by (pipe_set from to (advanced count pipe) old.pipes x y)
    where
      by : IsSetAt from to (advanced count pipe) old.pipes x y
          → IsAhead x y (pipe_at (with_pipe from to (advanced count pipe) old.pipes) x y)
      by (it one two is) = record {
        lines_come = ap lines_to_come is ∙ sym (there_now x y one two);
        ends_lines =
            subst IsWhole (sym is) (advanced_is_whole known pipe (whole.whole from to) count);
      }
      by (nowhere one two is was) = record {
        lines_come =
            let none = ap lines_to_come (ap (λ n. pipe_at old.pipes n to) (sym one)
            ∙ ap (pipe_at old.pipes x) (sym two) ∙ was)
            ∙ new_has_none known new_is_real in
            ap lines_to_come is ∙ new_has_none known new_is_real
            ∙ sym (there_now x y one two ∙ (none_of_both lines rest (sym parted ∙ none)).1);
        ends_lines = subst IsWhole (sym is) (new_is_whole known new_is_real);
      }
      by (other_from apart is) =
          old_pipe x y _ is (ap (λ a. if_both a (nat_eq y to) rest (ahead x y)) apart)
      by (other_to apart is) =
          old_pipe x y _ is (ap (λ b. if_both (nat_eq x from) b rest (ahead x y)) apart
          ∙ not_to (nat_eq x from) rest (ahead x y))

  -- ---- what is put out is lines

  all_behind : (xs ys : List (List ℕ)) → AllByRecursion IsLine (xs ++ ys) → AllByRecursion IsLine ys
  all_behind [] ys all = all
  all_behind (x ∷ xs) ys all = all_behind xs ys all.1

  put_out_are : AreLinesWaiting (net_behind now last.state) → (x y : ℕ)
      → AllByRecursion IsLine (waiting_at last.state x y)
  put_out_are are x y = by_node (node_at last.state x) refl
    where
      by_way : (node : Node) → node_at last.state x ≡ Some node → (o : Option (List (List ℕ)))
          → get node.queues y ≡ o → AllByRecursion IsLine (unwrap_or o [])
      by_way node at None way = tt
      by_way node at (Some lines) way =
          all_behind (now x y) lines
          (subst (AllByRecursion IsLine) (waiting_behind (now x) node y lines way)
          (are x y (node_behind (now x) node) (at-behind now last.state x
          ∙ ap (option_map (node_behind (now x))) at)))

      by_node : (o : Option Node) → node_at last.state x ≡ o
          → AllByRecursion IsLine (option_map_or (λ node. waiting node y) o [])
      by_node None at = tt
      by_node (Some node) at = by_way node at (get node.queues y) refl

  module _ (new : ByteNetwork) (written : IsWritten last.state between new)
      (are : AreLinesWaiting (net_behind now last.state)) where
    pipe_is : (x y : ℕ)
        → pipe_at new.pipes x y ≡ all_written (waiting_at last.state x y) (pipe_at between x y)
    pipe_is x y = written.pipes_are x y

    are_written : (x y : ℕ) → AreWritten known (pipe_at between x y) (waiting_at last.state x y)
    are_written x y = all_are_written known (pipe_at between x y) (waiting_at last.state x y)
        (pipe_ahead x y).ends_lines (put_out_are are x y)

    lines_are : (x y : ℕ) → lines_ahead new.pipes x y ≡ now x y ++ waiting_at last.state x y
    lines_are x y = ap lines_to_come (pipe_is x y) ∙ (are_written x y).lines_are
        ∙ ap (λ front. front ++ waiting_at last.state x y) (pipe_ahead x y).lines_come

    network_is : new.network ≡ emptied last.state
    network_is = written.network_is

    after_is : net_in_lines new ≡ net_behind now last.state
    after_is = ap (net_behind (lines_ahead new.pipes)) network_is
        ∙ refilled now (lines_ahead new.pipes) last.state lines_are

    all_ways : (ls : List (List ℕ)) (progress : Progress Network) (x y : ℕ)
        → has_way (all_heard from to progress ls).state x y ≡ has_way progress.state x y
    all_ways [] progress x y = refl
    all_ways (line ∷ ls) progress x y =
        all_ways ls (heard from to progress line) x y ∙ heard_ways from to progress line x y

    same_ways_now : (x y : ℕ) → has_way new.network x y ≡ has_way old.network x y
    same_ways_now x y =
        ap (λ n. has_way n x y) network_is ∙ emptied_ways last.state x y ∙ all_ways lines start x y

    none_now : (x y : ℕ) → has_way old.network x y ≡ false → now x y ≡ []
    none_now x y none = by (nat_eq x from) (nat_eq y to) refl refl
      where
        by : (a b : Bool) → nat_eq x from ≡ a → nat_eq y to ≡ b → if_both a b rest (ahead x y) ≡ []
        by true true one two =
            (none_of_both lines rest
            (sym parted ∙ whole.ways from to
            (sym (ap (λ n. has_way old.network n y) (eqb-true x from one)
            ∙ ap (has_way old.network from) (eqb-true y to two)) ∙ none))).1
        by true false one two = whole.ways x y none
        by false b one two = whole.ways x y none

    whole_now : IsWholeNet new
    whole_now = record {
      tidy = record {
        quiet =
            λ x y. subst (λ n. waiting_at n x y ≡ []) (sym network_is)
            (emptied_waits last.state x y);
        rows = written.rows;
        lean = written.lean;
      };
      whole = λ x y. subst IsWhole (sym (pipe_is x y)) (are_written x y).whole;
      ways = λ x y none.
          let before = sym (same_ways_now x y) ∙ none in
          lines_are x y ∙ ap (λ front. front ++ waiting_at last.state x y) (none_now x y before)
          ∙ none_there last.state x y (all_ways lines start x y ∙ before);
    }

  all_is_written : IsWritten last.state between (queues_written last.state between)
  all_is_written =
      is_written last.state between
      (lean_with from to (advanced count pipe) old.pipes whole.tidy.lean)
      (rows_after_lines old from to count lines before last between whole.tidy.rows refl refl)

  as_lines : ComeAsLines from to count (record { state = old; out = before })
  unfolding bytes_come
  as_lines = record {
    last = progress_behind now last;
    delivers = delivers;
    as_lines =
        λ are. ap (with_net last) (after_is (queues_written last.state between) all_is_written are);
    whole = whole_now (queues_written last.state between) all_is_written;
  }

pub bytes_come_as_lines : IsKnownOfStreams → BytesComeAsLines
bytes_come_as_lines known from to count old whole =
    as_lines known old.state from to count old.out whole
