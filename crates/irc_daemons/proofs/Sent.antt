-- What a server of a network puts out waits on its ways; the other servers stay as they were.
use Rattle.std.proofs.Common.{◌≡◌, ℕ, zero, suc, Bool, true, false, cond, is_some, Option, Some}
use Rattle.std.proofs.Common.{None, List, [], ◌∷◌, ◌++◌, append_assoc, append-nil, nat_eq, refl}
use Rattle.std.proofs.Common.{sym, ◌∙◌, ap, subst, option_map, unwrap_or, if◌then◌else◌}
use Rattle.std.proofs.lemmas.Bool.{eqb-true}
use Rattle.std.specs.Cmp.{nat_cmp_total, unsigned_tied}
use Rattle.std.specs.FinMap.{FinMap, get, get-insert, insert}
use Rattle.std.specs.List.{slice_get}
use Rattle.std.specs.Option.{option_and_then, option_map_or}
use Rattle.std.specs.Ordering.{nat_cmp}
use Rattle.irc_names.specs.Lemmas.PlainFacts.{nat_eq-turned}
use Rattle.irc_batch.specs.Batches.{Sent, end_of, end_of_link, line_on, line_to}
use Rattle.irc_line.specs.Reading.{read_of}
use Rattle.irc_server.specs.Served.{ReadEvent, link_says}
use Rattle.irc_stage.specs.View.{View}
use Rattle.irc_network.specs.Network.{Progress, Network, Served, Node, all_sent_out, asked_at}
use Rattle.irc_network.specs.Network.{has_received, has_received_at, heard, line_body, line_counted}
use Rattle.irc_network.specs.Network.{line_queued, reply, sent_out, node_asked, node_at}
use Rattle.irc_network.specs.Network.{node_changed_at, waiting, with_reply, with_node}
use Rattle.irc_network.specs.ByteNetwork.{waiting_at}
use Rattle.irc_network.specs.Whole.{has_way}
use Rattle.irc_daemons.proofs.Lists.{set_elsewhere, set_here}
use Rattle.irc_daemons.proofs.Written.{bodies, body_on}

abbrev pub Lines : Type 0
Lines = List (List ℕ)

-- the server at a place, if one is there
abbrev pub server_at : Network → ℕ → Option (Option View)
server_at net place = option_map (λ (node : Node). node.server) (node_at net place)

-- ---- one line more

get-put : (queues : FinMap nat_cmp Lines) (to : ℕ) (lines : Lines) (y : ℕ)
    → get (insert queues to lines) y ≡ cond (nat_eq y to) (Some lines) (get queues y)
get-put queues to lines y = get-insert nat_cmp_total queues to lines y
    ∙ ap (λ b. cond b (Some lines) (get queues y)) (unsigned_tied y to)

queued : (to : ℕ) (text : List ℕ) (node : Node) (y : ℕ) → is_some (get node.queues y) ≡ true
    → waiting (line_queued to text node) y ≡ waiting node y ++ body_on y (line_on to text)
queued to text node y way = by (get node.queues to) refl (nat_eq to y) refl
  where
    by : (o : Option Lines) → get node.queues to ≡ o → (b : Bool)
        → nat_eq to y ≡ b → waiting (option_map_or (λ lines.
        record node { queues = insert node.queues to (lines ++ line_body text ∷ []) }) o node) y
        ≡ waiting node y ++ (if b then line_body text ∷ [] else [])
    by None is true one = cc
        (sym way ∙ ap (λ n. is_some (get node.queues n)) (sym (eqb-true to y one)) ∙ ap is_some is)
    by None is false two = sym (append-nil (waiting node y))
    by (Some lines) is true one =
        ap (λ o. unwrap_or o []) (get-put node.queues to (lines ++ line_body text ∷ []) y)
        ∙ ap (λ b. unwrap_or (cond b (Some (lines ++ line_body text ∷ [])) (get node.queues y)) [])
        (nat_eq-turned y to ∙ one)
        ∙ ap (λ o. unwrap_or o [] ++ line_body text ∷ [])
        (sym is ∙ ap (get node.queues) (eqb-true to y one))
    by (Some lines) is false two =
        ap (λ o. unwrap_or o []) (get-put node.queues to (lines ++ line_body text ∷ []) y)
        ∙ ap (λ b. unwrap_or (cond b (Some (lines ++ line_body text ∷ [])) (get node.queues y)) [])
        (nat_eq-turned y to ∙ two)
        ∙ sym (append-nil (waiting node y))

queued_server : (to : ℕ) (text : List ℕ) (node : Node)
    → (line_queued to text node).server ≡ node.server
queued_server to text node = by (get node.queues to)
  where
    by : (o : Option Lines) → (option_map_or (λ lines. record node {
      queues = insert node.queues to
          (lines ++ line_body text ∷ []);
    }) o node).server ≡ node.server
    by None = refl
    by (Some lines) = refl

queued_way : (to : ℕ) (text : List ℕ) (node : Node) (y : ℕ)
    → is_some (get (line_queued to text node).queues y) ≡ is_some (get node.queues y)
queued_way to text node y = by (get node.queues to) refl (nat_eq to y) refl
  where
    by : (o : Option Lines) → get node.queues to ≡ o → (b : Bool) → nat_eq to y ≡ b
        → is_some (get (option_map_or (λ lines. record node {
          queues = insert node.queues to
              (lines ++ line_body text ∷ []);
        }) o node).queues y)
        ≡ is_some (get node.queues y)
    by None is b same = refl
    by (Some lines) is true one =
        ap is_some (get-put node.queues to (lines ++ line_body text ∷ []) y)
        ∙ ap (λ b. is_some (cond b (Some (lines ++ line_body text ∷ [])) (get node.queues y)))
        (nat_eq-turned y to ∙ one)
        ∙ ap is_some (sym is ∙ ap (get node.queues) (eqb-true to y one))
    by (Some lines) is false two =
        ap is_some (get-put node.queues to (lines ++ line_body text ∷ []) y)
        ∙ ap (λ b. is_some (cond b (Some (lines ++ line_body text ∷ [])) (get node.queues y)))
        (nat_eq-turned y to ∙ two)

-- ---- what one thing does that is put out

-- lines have come behind those that waited at a place
pub record PutsOut (place : ℕ) (lines : ℕ → Lines) (old new : Network) : Type 0 where
  pub servers : (x : ℕ) → server_at new x ≡ server_at old x
  pub ways : (y : ℕ) → has_way new place y ≡ has_way old place y
  pub waits : (y : ℕ) → has_way old place y ≡ true
      → waiting_at new place y ≡ waiting_at old place y ++ lines y
  pub others : (x : ℕ) → nat_eq x place ≡ false → node_at new x ≡ node_at old x

puts_none : (place : ℕ) (net : Network) → PutsOut place (λ y. []) net net
puts_none place net = record {
  servers = λ x. refl;
  ways = λ y. refl;
  waits = λ y way. sym (append-nil (waiting_at net place y));
  others = λ x two. refl;
}

puts_received : (place client : ℕ) (text : List ℕ) (progress : Progress Network)
    → PutsOut place (λ y. []) progress.state (has_received client text progress).state
puts_received place zero text progress = puts_none place progress.state
puts_received place (suc earlier) text progress = by (slice_get progress.state.received earlier)
  where
    by : (o : Option Lines) → PutsOut place (λ y. []) progress.state
        (option_map_or (has_received_at earlier text progress) o progress).state
    by None = puts_none place progress.state
    by (Some lines) = record {
      servers = λ x. refl;
      ways = λ y. refl;
      waits = λ y way. sym (append-nil (waiting_at progress.state place y));
      others = λ x two. refl;
    }

puts_queued : (place to : ℕ) (text : List ℕ) (net : Network) → PutsOut place
    (λ y. body_on y (line_on to text)) net (node_changed_at place (line_queued to text) net)
puts_queued place to text net = by (node_at net place) refl
  where
    by : (o : Option Node) → node_at net place ≡ o
        → PutsOut place (λ y. body_on y (line_on to text)) net
        (option_map_or (λ node. with_node place (line_queued to text node) net) o net)
    by None at = record {
      servers = λ x. refl;
      ways = λ y. refl;
      waits = λ y way. cc
          (sym way ∙ ap (λ o. is_some (option_and_then (λ (node : Node). get node.queues y) o)) at);
      others = λ x two. refl;
    }
    by (Some node) at =
        let now = line_queued to text node in
        let here : node_at (with_node place now net) place ≡ Some now =
        set_here net.nodes place node now at in record {
          servers = λ x. same_server x (nat_eq x place) refl;
          ways = λ y.
              ap (λ o. is_some (option_and_then (λ (s : Node). get s.queues y) o)) here
              ∙ queued_way to text node y
              ∙ ap (λ o. is_some (option_and_then (λ (s : Node). get s.queues y) o)) (sym at);
          waits = λ y way.
              ap (λ o. option_map_or (λ s. waiting s y) o []) here
              ∙ queued to text node y (sym
              (ap (λ o. is_some (option_and_then (λ (s : Node). get s.queues y) o)) at) ∙ way)
              ∙ ap (λ o. option_map_or (λ s. waiting s y) o [] ++ body_on y (line_on to text))
              (sym at);
          others = λ x two. set_elsewhere net.nodes place x now two;
        }
      where
        same_server : (x : ℕ) (b : Bool) → nat_eq x place ≡ b
            → server_at (with_node place (line_queued to text node) net) x ≡ server_at net x
        same_server x true one =
            ap (server_at (with_node place (line_queued to text node) net)) (eqb-true x place one)
            ∙ ap (option_map (λ (s : Node). s.server)) (set_here net.nodes place node
            (line_queued to text node) at) ∙ ap Some (queued_server to text node)
            ∙ ap (option_map (λ (s : Node). s.server)) (sym at)
            ∙ ap (server_at net) (sym (eqb-true x place one))
        same_server x false two = ap (option_map (λ (s : Node). s.server))
            (set_elsewhere net.nodes place x (line_queued to text node) two)

puts_one : (place : ℕ) (sent : Sent) (progress : Progress Network)
    → PutsOut place (λ y. body_on y sent) progress.state (sent_out place sent progress).state
puts_one place (line_to client text) progress = puts_received place client text progress
puts_one place (end_of client) progress = puts_none place progress.state
puts_one place (line_on link text) progress = puts_queued place link text progress.state
puts_one place (end_of_link link reason) progress = puts_none place progress.state

-- ---- all that is put out

puts_both : (place : ℕ) (one other : ℕ → Lines) (old mid new : Network) → PutsOut place one old mid
    → PutsOut place other mid new → PutsOut place (λ y. one y ++ other y) old new
puts_both place one other old mid new first second = record {
  servers = λ x. second.servers x ∙ first.servers x;
  ways = λ y. second.ways y ∙ first.ways y;
  waits = λ y way.
      second.waits y (first.ways y ∙ way) ∙ ap (λ ls. ls ++ other y) (first.waits y way)
      ∙ append_assoc (waiting_at old place y) (one y) (other y);
  others = λ x two. second.others x two ∙ first.others x two;
}

pub puts_all : (place : ℕ) (outs : List Sent) (progress : Progress Network)
    → PutsOut place (λ y. bodies y outs) progress.state (all_sent_out place outs progress).state
puts_all place [] progress = puts_none place progress.state
puts_all place (sent ∷ outs) progress =
    puts_both place (λ y. body_on y sent) (λ y. bodies y outs) progress.state
    (sent_out place sent progress).state (all_sent_out place (sent ∷ outs) progress).state
    (puts_one place sent progress) (puts_all place outs (sent_out place sent progress))

-- ---- a line is heard

-- the server at a place is this from now on, and lines have come behind those that waited there
pub record Replies (place : ℕ) (view : View) (lines : ℕ → Lines) (old new : Network) : Type 0 where
  pub server : server_at new place ≡ Some (Some view)
  pub ways : (y : ℕ) → has_way new place y ≡ has_way old place y
  pub waits : (y : ℕ) → has_way old place y ≡ true
      → waiting_at new place y ≡ waiting_at old place y ++ lines y
  pub others : (x : ℕ) → nat_eq x place ≡ false → node_at new x ≡ node_at old x

module _ (place : ℕ) (read_event : ReadEvent) (view : View) where
  abbrev it : Served
  it = reply view read_event

  replies_at : (progress : Progress Network) (node : Node)
      → node_at progress.state place ≡ Some node → Replies
      place it.state (λ y. bodies y it.out) progress.state (with_reply place progress node it).state
  replies_at progress node at =
      let now : Node = record node { server = Some it.state } in
      let between : Progress Network =
      record progress { state = with_node place now progress.state } in
      let here : node_at between.state place ≡ Some now =
      set_here progress.state.nodes place node now at in
      let puts = puts_all place it.out between in record {
        server = puts.servers place ∙ ap (option_map (λ (s : Node). s.server)) here;
        ways = λ y.
            puts.ways y ∙ ap (λ o. is_some (option_and_then (λ (s : Node). get s.queues y) o)) here
            ∙ ap (λ o. is_some (option_and_then (λ (s : Node). get s.queues y) o)) (sym at);
        waits = λ y way.
            puts.waits y
            (ap (λ o. is_some (option_and_then (λ (s : Node). get s.queues y) o)) here
            ∙ ap (λ o. is_some (option_and_then (λ (s : Node). get s.queues y) o)) (sym at) ∙ way)
            ∙ ap (λ o. option_map_or (λ s. waiting s y) o [] ++ bodies y it.out) here
            ∙ ap (λ o. option_map_or (λ s. waiting s y) o [] ++ bodies y it.out) (sym at);
        others = λ x two. puts.others x two ∙ set_elsewhere progress.state.nodes place x now two;
      }

  pub asked_replies : (progress : Progress Network)
      → server_at progress.state place ≡ Some (Some view) → Replies
      place it.state (λ y. bodies y it.out) progress.state
      (node_asked place read_event progress).state
  unfolding node_asked
  asked_replies progress is = by_node (node_at progress.state place) refl is
    where
      by_view : (node : Node) → node_at progress.state place ≡ Some node → (o : Option View)
          → o ≡ Some view → Replies place it.state (λ y. bodies y it.out) progress.state
          (option_map_or
          (λ (v : View). with_reply place progress node (reply v read_event)) o progress).state
      by_view node at None none = cc none
      by_view node at (Some v) one =
          subst (λ (w : View). Replies place it.state (λ y. bodies y it.out) progress.state
          (with_reply place progress node (reply w read_event)).state)
          (sym (ap (λ o. unwrap_or o v) one)) (replies_at progress node at)

      by_node : (o : Option Node) → node_at progress.state place ≡ o
          → option_map (λ (s : Node). s.server) o ≡ Some (Some view)
          → Replies place it.state (λ y. bodies y it.out) progress.state
          (option_map_or (asked_at place read_event progress) o progress).state
      by_node None at none = cc none
      by_node (Some node) at some = by_view node at node.server (ap (λ o. unwrap_or o None) some)

pub heard_replies : (from to : ℕ) (line : List ℕ) (view : View) (progress : Progress Network)
    → server_at progress.state to ≡ Some (Some view)
    → Replies to (reply view (link_says from (read_of line))).state
    (λ y. bodies y (reply view (link_says from (read_of line))).out) progress.state
    (heard from to progress line).state
heard_replies from to line view progress is =
    let now = asked_replies to (link_says from (read_of line)) view
    (record progress { state = line_counted progress.state }) is in record {
      server = now.server;
      ways = now.ways;
      waits = now.waits;
      others = now.others;
    }
