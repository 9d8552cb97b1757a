-- Where a network whose links carry bytes comes to, pointwise, as one of its servers is asked for
-- something, or hears the lines that bytes complete.
use Rattle.std.proofs.Common.{◌≡◌, ℕ, Bool, true, false, ◌&&◌, is_some, Some, List, [], ◌∷◌, ◌++◌}
use Rattle.std.proofs.Common.{append_assoc, append-nil, length, take, nat_eq, refl, sym, ◌∙◌, ap}
use Rattle.std.proofs.Common.{subst, option_map, if◌then◌else◌}
use Rattle.std.proofs.lemmas.Bool.{eq-eqb, eqb-true}
use Rattle.std.proofs.lemmas.Grind.{flat_map-append}
use Rattle.std.proofs.Math.Seq.{drop-nil, take-nil}
use Rattle.std.specs.FinMap.{get}
use Rattle.std.specs.Option.{option_and_then, option_map_or}
use Rattle.std.proofs.Math.Bool.{and-false}
use Rattle.irc_line.specs.Lines.{begun_behind, nothing_begun}
use Rattle.irc_line.specs.Reading.{read_of}
use Rattle.irc_server.specs.Served.{ReadEvent, link_says}
use Rattle.irc_network.specs.Node.{Served, reply}
use Rattle.irc_stage.specs.View.{View}
use Rattle.irc_network.specs.Network.{Progress, Network, Node, begun, heard, line_counted}
use Rattle.irc_network.specs.Network.{node_asked}
use Rattle.irc_network.specs.Network.{waiting}
use Rattle.irc_pipes.specs.Pipes.{AreLean, LinkPipe, Pipes, advanced, new_pipe, pipe_at}
use Rattle.irc_pipes.specs.Lemmas.PutPipes.{IsSetAt, it, nowhere, other_from, other_to, pipe_set}
use Rattle.irc_network.specs.ByteNetwork.{ByteNetwork, all_heard, all_written}
use Rattle.irc_network.specs.ByteNetwork.{bytes_come, completed_in, queues_written, waiting_at}
use Rattle.irc_network.specs.ByteNetwork.{pipes_come}
use Rattle.irc_network.specs.Loops.Writing.{IsWritten}
use Rattle.irc_network.specs.Whole.{IsTidy, has_way}
use Rattle.irc_network.specs.Lemmas.Emptied.{emptied_waits, emptied_ways}
use Rattle.irc_network.specs.Lemmas.NewFramer.{new_is_real}
use Rattle.irc_network.specs.Lemmas.Rows.{rows_after_lines}
use Rattle.irc_network.specs.Lemmas.RowsWritten.{is_written, lean_with}
use Rattle.irc_network.specs.Lemmas.NodesStay.{asked_stays}
use Rattle.irc_daemons.specs.Alike.{bytes_to, client_bytes}
use Rattle.irc_daemons.specs.Receiving.{bytes_received}
use Rattle.irc_daemons.proofs.Given.{bytes_of_nodes, come_of_nodes, emptied_server, pipe_behind}
use Rattle.irc_daemons.proofs.Homes.{KeepsHomes, asked_keeps, keeps_both, keeps_same}
use Rattle.irc_daemons.proofs.OwnClients.{all_replies, then_reply}
use Rattle.irc_daemons.proofs.Single.{no_way_waits}
use Rattle.irc_daemons.proofs.Received.{Gets, asked_gets, heard_gets}
use Rattle.irc_daemons.proofs.Sent.{Replies, asked_replies, heard_replies, server_at}
use Rattle.irc_daemons.proofs.Written.{bodies, body_on, with_ends, written_all}

-- ---- before what was put out is written

-- the server at a place is as this reply has it, and what it put out waits, or has come to clients
pub record HasReplied (place : ℕ) (next : Served) (old new : Network) : Type 0 where
  pub replies : Replies place next.state (λ y. bodies y next.out) old new
  pub gets : Gets (λ q. client_bytes q next.out) old new
  pub keeps : KeepsHomes old new

nothing_replied : (place : ℕ) (view : View) (net : Network) → server_at net place ≡ Some (Some view)
    → HasReplied place (record { state = view; out = [] }) net net
nothing_replied place view net at = record {
  replies = record {
    server = at;
    ways = λ y. refl;
    waits = λ y way. sym (append-nil (waiting_at net place y));
    others = λ x two. refl;
  };
  gets = record { come = λ q. refl; more = λ q has. sym (append-nil (bytes_received net q)) };
  keeps = keeps_same net;
}

both_replied : (place : ℕ) (first rest : Served) (old mid new : Network)
    → HasReplied place first old mid → HasReplied place rest mid new
    → HasReplied place (then_reply first rest) old new
both_replied place first rest old mid new one two = record {
  replies = record {
    server = two.replies.server;
    ways = λ y. two.replies.ways y ∙ one.replies.ways y;
    waits = λ y way.
        two.replies.waits y (one.replies.ways y ∙ way)
        ∙ ap (λ ls. ls ++ bodies y rest.out) (one.replies.waits y way)
        ∙ append_assoc (waiting_at old place y) (bodies y first.out) (bodies y rest.out)
        ∙ ap (λ ls. waiting_at old place y ++ ls)
        (sym (flat_map-append (body_on y) first.out rest.out));
    others = λ x other. two.replies.others x other ∙ one.replies.others x other;
  };
  gets = record {
    come = λ q. two.gets.come q ∙ one.gets.come q;
    more = λ q has.
        two.gets.more q (one.gets.come q ∙ has)
        ∙ ap (λ bs. bs ++ client_bytes q rest.out) (one.gets.more q has)
        ∙ append_assoc (bytes_received old q) (client_bytes q first.out) (client_bytes q rest.out)
        ∙ ap (λ bs. bytes_received old q ++ bs)
        (sym (flat_map-append (bytes_to q) first.out rest.out));
  };
  keeps = keeps_both old mid new one.keeps two.keeps;
}

asked_replied : (place : ℕ) (read_event : ReadEvent) (view : View) (progress : Progress Network)
    → server_at progress.state place ≡ Some (Some view) → HasReplied place
    (reply view read_event) progress.state (node_asked place read_event progress).state
asked_replied place read_event view progress at = record {
  replies = asked_replies place read_event view progress at;
  gets = asked_gets place read_event view progress at;
  keeps = asked_keeps place read_event progress;
}

line_replied : (from to : ℕ) (line : List ℕ) (view : View) (progress : Progress Network)
    → server_at progress.state to ≡ Some (Some view) → HasReplied to
    (reply view (link_says from (read_of line))) progress.state (heard from to progress line).state
line_replied from to line view progress at =
    let keeps = asked_keeps to (link_says from (read_of line))
    (record progress { state = line_counted progress.state }) in record {
      replies = heard_replies from to line view progress at;
      gets = heard_gets from to line view progress at;
      keeps = record { names = keeps.names; homes = keeps.homes; inboxes = keeps.inboxes };
    }

lines_replied : (from to : ℕ) (lines : List (List ℕ)) (view : View) (progress : Progress Network)
    → server_at progress.state to ≡ Some (Some view) → HasReplied to
    (all_replies from view lines) progress.state (all_heard from to progress lines).state
lines_replied from to [] view progress at = nothing_replied to view progress.state at
lines_replied from to (line ∷ lines) view progress at =
    let first : Served = reply view (link_says from (read_of line)) in
    let one = line_replied from to line view progress at in
    both_replied to first (all_replies from first.state lines) progress.state
    (heard from to progress line).state
    (all_heard from to (heard from to progress line) lines).state one
    (lines_replied from to lines first.state (heard from to progress line) one.replies.server)

-- ---- once it is written

-- The server at a place is as this reply has it, and what it put out is on these pipes, or has come
-- to clients; all else is as it was.
pub record GoesOn (place : ℕ) (next : Served) (along : Pipes) (old new : ByteNetwork) : Type 0 where
  pub server : server_at new.network place ≡ Some (Some next.state)
  pub others : (x : ℕ) → nat_eq x place ≡ false → server_at new.network x ≡ server_at old.network x
  pub ways : (x y : ℕ) → has_way new.network x y ≡ has_way old.network x y
  pub pipes_there : (x y : ℕ) → nat_eq x place ≡ false → pipe_at new.pipes x y ≡ pipe_at along x y
  pub pipes_here : (y : ℕ) → has_way old.network place y ≡ true → pipe_at new.pipes place y
      ≡ pipe_behind (with_ends (bodies y next.out)) (pipe_at along place y)
  pub no_way : (y : ℕ) → has_way old.network place y ≡ false
      → pipe_at new.pipes place y ≡ pipe_at along place y
  pub keeps : KeepsHomes old.network new.network
  pub gets : Gets (λ q. client_bytes q next.out) old.network new.network
  pub tidy : IsTidy new

module _ (place : ℕ) (next : Served) (along : Pipes) (old : ByteNetwork) (mid : Network)
    (tidy : IsTidy old) (lean : AreLean along)
    (rows : length along ≡ length mid.nodes) (done : HasReplied place next old.network mid)
  where
    abbrev now : ByteNetwork
    now = queues_written mid along

    is_so : IsWritten mid along now
    is_so = is_written mid along lean rows

    waits_there : (x y : ℕ) → nat_eq x place ≡ false → waiting_at mid x y ≡ []
    waits_there x y two = ap (λ o. option_map_or (λ (node : Node). waiting node y) o [])
        (done.replies.others x two) ∙ tidy.quiet x y

    waits_here : (y : ℕ) → has_way old.network place y ≡ true
        → waiting_at mid place y ≡ bodies y next.out
    waits_here y way =
        done.replies.waits y way ∙ ap (λ ls. ls ++ bodies y next.out) (tidy.quiet place y)

    ways_at : (x y : ℕ) (b : Bool) → nat_eq x place ≡ b → has_way mid x y ≡ has_way old.network x y
    ways_at x y true one =
        ap (λ n. has_way mid n y) (eqb-true x place one) ∙ done.replies.ways y
        ∙ ap (λ n. has_way old.network n y) (sym (eqb-true x place one))
    ways_at x y false two =
        ap (λ o. is_some (option_and_then (λ (node : Node). get node.queues y) o))
        (done.replies.others x two)

    goes_on : GoesOn place next along old now
    goes_on = record {
      server = emptied_server mid place ∙ done.replies.server;
      others = λ x two. emptied_server mid x
          ∙ ap (option_map (λ (s : Node). s.server)) (done.replies.others x two);
      ways = λ x y. emptied_ways mid x y ∙ ways_at x y (nat_eq x place) refl;
      pipes_there = λ x y two. is_so.pipes_are x y
          ∙ ap (λ ls. all_written ls (pipe_at along x y)) (waits_there x y two);
      pipes_here = λ y way.
          is_so.pipes_are place y
          ∙ ap (λ ls. all_written ls (pipe_at along place y)) (waits_here y way)
          ∙ written_all (bodies y next.out) (pipe_at along place y);
      no_way = λ y none.
          is_so.pipes_are place y ∙ ap (λ ls. all_written ls (pipe_at along place y))
          (no_way_waits mid place y (done.replies.ways y ∙ none));
      keeps = record {
        names = done.keeps.names;
        homes = done.keeps.homes;
        inboxes = done.keeps.inboxes;
      };
      gets = record {
        come = λ q. come_of_nodes mid now.network refl q ∙ done.gets.come q;
        more = λ q has. bytes_of_nodes mid now.network refl q ∙ done.gets.more q has;
      };
      tidy = record { quiet = emptied_waits mid; rows = is_so.rows; lean = is_so.lean };
    }

-- ---- a server is asked

pub asked_goes_on : (place : ℕ) (read_event : ReadEvent) (view : View) (net : ByteNetwork)
    → IsTidy net → server_at net.network place ≡ Some (Some view)
    → GoesOn place (reply view read_event) net.pipes net
    (queues_written (node_asked place read_event (begun net.network)).state net.pipes)
asked_goes_on place read_event view net tidy at =
    goes_on place (reply view read_event) net.pipes net
    (node_asked place read_event (begun net.network)).state tidy tidy.lean
    (tidy.rows ∙ sym (asked_stays place read_event (begun net.network)))
    (asked_replied place read_event view (begun net.network) at)

-- ---- bytes come

abbrev pub come_if : ℕ → Bool → LinkPipe → LinkPipe
come_if count b pipe = if b then advanced count pipe else pipe

no_byte_comes : (count : ℕ) → new_pipe ≡ advanced count new_pipe
no_byte_comes count = λ i. record { begun = begun_is i; bytes = sym (drop-nil count) i }
  where
    begun_is : nothing_begun ≡ begun_behind nothing_begun (take count [])
    begun_is = new_is_real ∙ ap (begun_behind nothing_begun) (sym (take-nil count))

module _ (from to count : ℕ) (net : ByteNetwork) where
  -- on the way on which they come, and on no other
  pub come_at : (x y : ℕ) → pipe_at (pipes_come net from to count) x y
      ≡ come_if count (nat_eq x from && nat_eq y to) (pipe_at net.pipes x y)
  come_at x y = by (pipe_set from to (advanced count (pipe_at net.pipes from to)) net.pipes x y)
    where
      both : x ≡ from → y ≡ to → (nat_eq x from && nat_eq y to) ≡ true
      both one two = ap (λ b. b && nat_eq y to) (eq-eqb x from one) ∙ eq-eqb y to two

      comes : x ≡ from → y ≡ to → advanced count (pipe_at net.pipes x y)
          ≡ come_if count (nat_eq x from && nat_eq y to) (pipe_at net.pipes x y)
      comes one two = ap (λ b. come_if count b (pipe_at net.pipes x y)) (sym (both one two))

      by : IsSetAt from to (advanced count (pipe_at net.pipes from to)) net.pipes x y
          → pipe_at (pipes_come net from to count) x y ≡ come_if count
          (nat_eq x from && nat_eq y to) (pipe_at net.pipes x y)
      by (it one two is) = is ∙ (λ i. advanced count (pipe_at net.pipes (sym one i) (sym two i)))
          ∙ comes one two
      by (nowhere one two is was) = is ∙ no_byte_comes count ∙ ap (advanced count) (sym was)
          ∙ comes one two
      by (other_from two is) =
          is ∙ ap (λ b. come_if count (b && nat_eq y to) (pipe_at net.pipes x y)) (sym two)
      by (other_to two is) =
          is ∙ ap (λ b. come_if count b (pipe_at net.pipes x y))
          (sym (and-false (nat_eq x from)) ∙ ap (λ b. nat_eq x from && b) (sym two))

  come_is : (bytes_come from to count (begun net)).state
      ≡ queues_written
      (all_heard from to (begun net.network) (completed_in net from to count)).state
      (pipes_come net from to count)
  unfolding bytes_come
  come_is = refl

  pub bytes_go_on : (view : View) → IsTidy net → server_at net.network to ≡ Some (Some view)
      → GoesOn to (all_replies from view (completed_in net from to count))
      (pipes_come net from to count) net (bytes_come from to count (begun net)).state
  bytes_go_on view tidy at =
      let lines : List (List ℕ) = completed_in net from to count in
      let last : Progress Network = all_heard from to (begun net.network) lines in
      subst (GoesOn to (all_replies from view lines) (pipes_come net from to count) net)
      (sym come_is)
      (goes_on to (all_replies from view lines) (pipes_come net from to count) net last.state tidy
      (lean_with from to (advanced count (pipe_at net.pipes from to)) net.pipes tidy.lean)
      (rows_after_lines net from to count lines [] last
      (pipes_come net from to count) tidy.rows refl refl)
      (lines_replied from to lines view (begun net.network) at))
