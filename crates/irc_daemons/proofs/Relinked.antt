-- A network in which two servers are linked, or parted, and neither has been asked about it yet.
use Rattle.std.proofs.Common.{◌≡◌, ℕ, Bool, true, false, cond, ◌&&◌, ◌||◌, is_some, Option, Some}
use Rattle.std.proofs.Common.{None, List, [], ◌∷◌, length, nat_eq, refl, sym, ◌∙◌, ap, option_map}
use Rattle.std.proofs.Common.{unwrap_or, if◌then◌else◌}
use Rattle.std.proofs.lemmas.Bool.{eqb-true}
use Rattle.std.specs.Cmp.{nat_cmp_total, unsigned_tied}
use Rattle.std.specs.FinMap.{FinMap, get, get-insert, get-remove, insert, remove}
use Rattle.std.specs.List.{slice_get, slice_set}
use Rattle.std.specs.Option.{option_and_then, option_map_or}
use Rattle.std.specs.Ordering.{nat_cmp}
use Rattle.irc_relay.specs.Links.{Link, Name, links_without}
use Rattle.irc_stage.specs.View.{View}
use Rattle.irc_server.specs.Served.{link_down, link_up}
use Rattle.irc_world.specs.Stepping.{cut, link}
use Rattle.irc_network.specs.Network.{LinkPlaces, Network, Node, begun, given, item_kept}
use Rattle.irc_network.specs.Network.{link_places, server_place, servers_linked, servers_parted}
use Rattle.irc_network.specs.Network.{node_asked, node_at, node_changed_at, waiting, with_node}
use Rattle.irc_network.specs.Network.{with_way, without_way}
use Rattle.irc_pipes.specs.Pipes.{AreLean, LinkPipe, Pipes, new_pipe, pipe_at, pipe_in}
use Rattle.irc_pipes.specs.Pipes.{without_pipe}
use Rattle.irc_pipes.specs.Lemmas.PutPipes.{get-without}
use Rattle.irc_network.specs.ByteNetwork.{ByteNetwork, item_given, lost_along, queues_written}
use Rattle.irc_network.specs.ByteNetwork.{waiting_at}
use Rattle.irc_network.specs.Whole.{IsTidy, has_way}
use Rattle.irc_network.specs.Lemmas.Rows.{length_set}
use Rattle.irc_network.specs.Lemmas.RowsWritten.{lean_along}
use Rattle.irc_daemons.proofs.Asked.{AllStill}
use Rattle.irc_daemons.proofs.LackingWords.{AreAllEnds, AreOwn}
use Rattle.irc_daemons.proofs.Lists.{set_elsewhere, set_here}
use Rattle.irc_daemons.proofs.Sent.{server_at}

abbrev Lines : Type 0
Lines = List (List ℕ)

-- ---- the networks

-- both ends of the way are there, and nothing is on it
abbrev pub linked_net : Name → Name → ℕ → ℕ → ByteNetwork → ByteNetwork
linked_net near far n f net = record {
  network = node_changed_at f (with_way n) (node_changed_at n (with_way f)
      (record net.network { links = record { near = near; far = far } ∷ net.network.links }));
  pipes = net.pipes;
}

-- the way is gone, with what was on it
abbrev pub parted_net : Name → Name → ℕ → ℕ → ByteNetwork → ByteNetwork
parted_net near far n f net = record {
  network = node_changed_at f (without_way n) (node_changed_at n (without_way f)
      (record net.network { links = links_without net.network.links near far }));
  pipes = without_pipe f n (without_pipe n f net.pipes);
}

abbrev both_places : ℕ → ℕ → LinkPlaces
both_places n f = record { near = n; far = f }

places_are : (net : Network) (near far : Name) (n f : ℕ) → server_place net near ≡ Some n
    → server_place net far ≡ Some f → link_places net near far ≡ Some (both_places n f)
places_are net near far n f near_at far_at =
    ap (λ o. option_and_then
    (λ one. option_map (λ other. both_places one other) (server_place net far)) o) near_at
    ∙ ap (option_map (λ other. both_places n other)) far_at

pub given_link : (net : ByteNetwork) (near far : Name) (n f : ℕ) → server_place net.network near
    ≡ Some n → server_place net.network far ≡ Some f → (item_given (link near far) net).state
    ≡ queues_written
    (item_kept (link near far) (node_asked f (link_up n None) (node_asked n (link_up f (Some far))
    (begun (linked_net near far n f net).network)))).state
    (linked_net near far n f net).pipes
unfolding item_given given
given_link net near far n f near_at far_at =
    ap
    (λ o. queues_written (item_kept (link near far) (option_map_or
    (servers_linked near far net.network) o (begun net.network))).state net.pipes)
    (places_are net.network near far n f near_at far_at)

pub given_cut : (net : ByteNetwork) (near far : Name) (n f : ℕ) → server_place net.network near
    ≡ Some n → server_place net.network far ≡ Some f → (item_given (cut near far) net).state
    ≡ queues_written
    (item_kept (cut near far) (node_asked f (link_down n)
    (node_asked n (link_down f) (begun (parted_net near far n f net).network)))).state
    (parted_net near far n f net).pipes
unfolding item_given given
given_cut net near far n f near_at far_at =
    ap
    (λ o. queues_written (item_kept (cut near far)
    (option_map_or (servers_parted near far net.network) o (begun net.network))).state
    (lost_along o net.pipes))
    (places_are net.network near far n f near_at far_at)

-- ---- one end of a way

-- a node's way to a place is there from now on, or is not, and no line waits on it
record ChangesWay (to : ℕ) (is : Bool) (change : Node → Node) : Type 0 where
  pub server : (node : Node) → (change node).server ≡ node.server
  pub way : (node : Node) (y : ℕ) → is_some (get (change node).queues y)
      ≡ (if nat_eq y to then is else is_some (get node.queues y))
  pub quiet : (node : Node) → ((y : ℕ) → waiting node y ≡ []) → (y : ℕ)
      → waiting (change node) y ≡ []

get-opened : (queues : FinMap nat_cmp Lines) (to y : ℕ)
    → get (insert queues to []) y ≡ cond (nat_eq y to) (Some []) (get queues y)
get-opened queues to y = get-insert nat_cmp_total queues to [] y
    ∙ ap (λ b. cond b (Some []) (get queues y)) (unsigned_tied y to)

get-closed : (queues : FinMap nat_cmp Lines) (to y : ℕ)
    → get (remove queues to) y ≡ cond (nat_eq y to) None (get queues y)
get-closed queues to y =
    get-remove nat_cmp_total queues to y ∙ ap (λ b. cond b None (get queues y)) (unsigned_tied y to)

opens_way : (to : ℕ) → ChangesWay to true (with_way to)
opens_way to = record {
  server = λ node. refl;
  way =
      λ node y. ap is_some (get-opened node.queues to y) ∙ by_way (nat_eq y to) (get node.queues y);
  quiet = λ node all y. ap (λ o. unwrap_or o []) (get-opened node.queues to y)
      ∙ by (nat_eq y to) (get node.queues y) (all y);
}
  where
    by_way : (b : Bool) (o : Option Lines)
        → is_some (cond b (Some []) o) ≡ (if b then true else is_some o)
    by_way true o = refl
    by_way false o = refl

    by : (b : Bool) (o : Option Lines) → unwrap_or o [] ≡ []
        → unwrap_or (cond b (Some []) o) [] ≡ []
    by true o none = refl
    by false o none = none

closes_way : (to : ℕ) → ChangesWay to false (without_way to)
closes_way to = record {
  server = λ node. refl;
  way =
      λ node y. ap is_some (get-closed node.queues to y) ∙ by_way (nat_eq y to) (get node.queues y);
  quiet = λ node all y. ap (λ o. unwrap_or o []) (get-closed node.queues to y)
      ∙ by (nat_eq y to) (get node.queues y) (all y);
}
  where
    by_way : (b : Bool) (o : Option Lines)
        → is_some (cond b None o) ≡ (if b then false else is_some o)
    by_way true o = refl
    by_way false o = refl

    by : (b : Bool) (o : Option Lines) → unwrap_or o [] ≡ [] → unwrap_or (cond b None o) [] ≡ []
    by true o none = refl
    by false o none = none

-- a network in which one end of a way was changed so
record IsWayChanged (from to : ℕ) (is : Bool) (old new : Network) : Type 0 where
  pub servers : (x : ℕ) → server_at new x ≡ server_at old x
  pub ways : (x y : ℕ)
      → has_way new x y ≡ (if nat_eq x from && nat_eq y to then is else has_way old x y)
  pub quiet : ((x y : ℕ) → waiting_at old x y ≡ []) → (x y : ℕ) → waiting_at new x y ≡ []
  pub rows : length new.nodes ≡ length old.nodes
  pub names : new.names ≡ old.names
  pub homes : new.homes ≡ old.homes
  pub received : new.received ≡ old.received

module _ (from to : ℕ) (is : Bool) (change : Node → Node) (changes : ChangesWay to is change)
    (net : Network) where
  module _ (node : Node) (at : node_at net from ≡ Some node) where
    abbrev now : Network
    now = with_node from (change node) net

    here : node_at now from ≡ Some (change node)
    here = set_here net.nodes from node (change node) at

    there : (x : ℕ) → nat_eq x from ≡ false → node_at now x ≡ node_at net x
    there x two = set_elsewhere net.nodes from x (change node) two

    abbrev server_in : Option Node → Option (Option View)
    server_in o = option_map (λ (s : Node). s.server) o

    abbrev way_in : ℕ → Option Node → Bool
    way_in y o = is_some (option_and_then (λ (s : Node). get s.queues y) o)

    abbrev waiting_in : ℕ → Option Node → Lines
    waiting_in y o = option_map_or (λ (s : Node). waiting s y) o []

    same_server : (x : ℕ) (b : Bool) → nat_eq x from ≡ b → server_at now x ≡ server_at net x
    same_server x true one =
        ap (server_at now) (eqb-true x from one) ∙ ap server_in here ∙ ap Some (changes.server node)
        ∙ sym (ap server_in at)
        ∙ ap (server_at net) (sym (eqb-true x from one))
    same_server x false two = ap server_in (there x two)

    way_now : (x y : ℕ) (b : Bool) → nat_eq x from ≡ b
        → has_way now x y ≡ (if b && nat_eq y to then is else has_way net x y)
    way_now x y true one =
        ap (λ v. has_way now v y) (eqb-true x from one) ∙ ap (way_in y) here ∙ changes.way node y
        ∙ ap (λ b. if nat_eq y to then is else b) (sym (ap (way_in y) at)
        ∙ ap (λ v. has_way net v y) (sym (eqb-true x from one)))
    way_now x y false two = ap (way_in y) (there x two)

    quiet_now : ((x y : ℕ) → waiting_at net x y ≡ []) → (x y : ℕ) (b : Bool) → nat_eq x from ≡ b
        → waiting_at now x y ≡ []
    quiet_now all x y true one =
        ap (λ v. waiting_at now v y) (eqb-true x from one) ∙ ap (waiting_in y) here
        ∙ changes.quiet node (λ q. sym (ap (waiting_in q) at) ∙ all from q) y
    quiet_now all x y false two = ap (waiting_in y) (there x two) ∙ all x y

    node_now : IsWayChanged from to is net now
    node_now = record {
      servers = λ x. same_server x (nat_eq x from) refl;
      ways = λ x y. way_now x y (nat_eq x from) refl;
      quiet = λ all x y. quiet_now all x y (nat_eq x from) refl;
      rows = length_set net.nodes from (change node);
      names = refl;
      homes = refl;
      received = refl;
    }

  way_changed : (view : View) → server_at net from ≡ Some (Some view)
      → IsWayChanged from to is net (node_changed_at from change net)
  way_changed view is_there = by (node_at net from) refl is_there
    where
      by : (o : Option Node) → node_at net from ≡ o
          → option_map (λ (s : Node). s.server) o ≡ Some (Some view) → IsWayChanged from to is net
          (option_map_or (λ node. with_node from (change node) net) o net)
      by None at none = cc none
      by (Some node) at some = node_now node at

-- ---- pipes that were taken away

abbrev PipeRow : Type 0
PipeRow = FinMap nat_cmp LinkPipe

row_lost : (from to : ℕ) (pipes : Pipes) → length (without_pipe from to pipes) ≡ length pipes
row_lost from to pipes = by (slice_get pipes from)
  where
    by : (o : Option PipeRow) → length
        (option_map_or (λ row. slice_set pipes from (remove row to)) o pipes) ≡ length pipes
    by None = refl
    by (Some row) = length_set pipes from (remove row to)

still_lost : (from to : ℕ) (pipes : Pipes) → ((x y : ℕ) → pipe_at pipes x y ≡ new_pipe) → (x y : ℕ)
    → pipe_at (without_pipe from to pipes) x y ≡ new_pipe
still_lost from to pipes all x y = by (slice_get pipes from) refl
  where
    by_to : (row : PipeRow) (b : Bool) → pipe_in y row ≡ new_pipe
        → unwrap_or (cond b None (get row y)) new_pipe ≡ new_pipe
    by_to row true still = refl
    by_to row false still = still

    by_from : (row : PipeRow) → slice_get pipes from ≡ Some row → (b : Bool) → nat_eq x from ≡ b
        → pipe_at (slice_set pipes from (remove row to)) x y ≡ new_pipe
    by_from row at true one =
        ap (λ v. pipe_at (slice_set pipes from (remove row to)) v y) (eqb-true x from one)
        ∙ ap (λ o. option_map_or (pipe_in y) o new_pipe)
        (set_here pipes from row (remove row to) at)
        ∙ ap (λ o. unwrap_or o new_pipe) (get-without row to y)
        ∙ by_to row (nat_eq y to) (sym (ap (λ o. option_map_or (pipe_in y) o new_pipe) at)
        ∙ all from y)
    by_from row at false two = ap (λ o. option_map_or (pipe_in y) o new_pipe)
        (set_elsewhere pipes from x (remove row to) two) ∙ all x y

    by : (o : Option PipeRow) → slice_get pipes from ≡ o → pipe_at
        (option_map_or (λ row. slice_set pipes from (remove row to)) o pipes) x y ≡ new_pipe
    by None at = all x y
    by (Some row) at = by_from row at (nat_eq x from) refl

-- ---- both ends

-- The two servers have a way to each other, or none; all else is the same.
pub record IsRelinked (n f : ℕ) (is : Bool) (old new : ByteNetwork) : Type 0 where
  pub servers : (x : ℕ) → server_at new.network x ≡ server_at old.network x
  pub ways : (x y : ℕ) → has_way new.network x y ≡ (if (nat_eq x n && nat_eq y f)
      || (nat_eq x f && nat_eq y n) then is else has_way old.network x y)
  pub pipes : (x y : ℕ) → pipe_at new.pipes x y ≡ pipe_at old.pipes x y
  pub names : new.network.names ≡ old.network.names
  pub homes : new.network.homes ≡ old.network.homes
  pub received : new.network.received ≡ old.network.received
  pub tidy : IsTidy new

either_end : (one other is was : Bool)
    → (if other then is else (if one then is else was)) ≡ (if one || other then is else was)
either_end true true is was = refl
either_end true false is was = refl
either_end false true is was = refl
either_end false false is was = refl

-- who is linked plays no part in it
of_links : (from to : ℕ) (is : Bool) (net new : Network) (links : List Link)
    → IsWayChanged from to is (record net { links = links }) new → IsWayChanged from to is net new
of_links from to is net new links changed = record {
  servers = λ x. changed.servers x;
  ways = λ x y. changed.ways x y;
  quiet = λ all x y. changed.quiet all x y;
  rows = changed.rows;
  names = changed.names;
  homes = changed.homes;
  received = changed.received;
}

both_changed : (n f : ℕ) (is : Bool) (old new : ByteNetwork) (mid : Network) → IsTidy old
    → IsWayChanged n f is old.network mid → IsWayChanged f n is mid new.network
    → ((x y : ℕ) → pipe_at new.pipes x y ≡ pipe_at old.pipes x y)
    → length new.pipes ≡ length old.pipes → AreLean new.pipes → IsRelinked n f is old new
both_changed n f is old new mid tidy first second pipes rows lean = record {
  servers = λ x. second.servers x ∙ first.servers x;
  ways = λ x y.
      second.ways x y ∙ ap (λ b. if nat_eq x f && nat_eq y n then is else b) (first.ways x y)
      ∙ either_end (nat_eq x n && nat_eq y f) (nat_eq x f && nat_eq y n) is
      (has_way old.network x y);
  pipes = pipes;
  names = second.names ∙ first.names;
  homes = second.homes ∙ first.homes;
  received = second.received ∙ first.received;
  tidy = record {
    quiet = second.quiet (first.quiet tidy.quiet);
    rows = rows ∙ tidy.rows
        ∙ sym (second.rows ∙ first.rows);
    lean = lean;
  };
}

module _ (near far : Name) (n f : ℕ) (net : ByteNetwork) (tidy : IsTidy net) (one other : View)
    (near_there : server_at net.network n ≡ Some (Some one))
    (far_there : server_at net.network f ≡ Some (Some other))
  where
    pub is_linked : IsRelinked n f true net (linked_net near far n f net)
    is_linked =
        let links : List Link = record { near = near; far = far } ∷ net.network.links in
        let told : Network = record net.network { links = links } in
        let first = way_changed n f true (with_way f) (opens_way f) told one near_there in
        let mid : Network = node_changed_at n (with_way f) told in
        let second = way_changed f n true (with_way n) (opens_way n) mid other
        (first.servers f ∙ far_there) in
        both_changed n f true net (linked_net near far n f net) mid tidy
        (of_links n f true net.network mid links first) second
        (λ x y. refl) refl tidy.lean

    pub is_parted : AllStill net → IsRelinked n f false net (parted_net near far n f net)
    is_parted still =
        let links : List Link = links_without net.network.links near far in
        let told : Network = record net.network { links = links } in
        let first = way_changed n f false (without_way f) (closes_way f) told one near_there in
        let mid : Network = node_changed_at n (without_way f) told in
        let second = way_changed f n false (without_way n) (closes_way n) mid other
        (first.servers f ∙ far_there) in
        both_changed n f false net (parted_net near far n f net) mid tidy
        (of_links n f false net.network mid links first) second
        (λ x y. still_lost f n (without_pipe n f net.pipes) (still_lost n f net.pipes still) x y
        ∙ sym (still x y))
        (row_lost f n (without_pipe n f net.pipes) ∙ row_lost n f net.pipes)
        (lean_along (Some (both_places n f)) net.pipes tidy.lean)

-- what is so of its servers is so then, too
pub own_then : (old new : Network) → ((x : ℕ) → server_at new x ≡ server_at old x) → AreOwn old
    → AreOwn new
own_then old new same own x y client one other at too =
    own x y client one other (sym (same x) ∙ at) (sym (same y) ∙ too)

pub ends_then : (old new : Network) → ((x : ℕ) → server_at new x ≡ server_at old x) → AreAllEnds old
    → AreAllEnds new
ends_then old new same ends x view at = ends x view (sym (same x) ∙ at)
