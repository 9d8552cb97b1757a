-- What a server of a network whose links carry bytes is asked for when an item is given, beside an
-- engine's server that is alike.
use Rattle.std.proofs.Common.{◌≡◌, ℕ, zero, suc, Bool, true, false, not, is_some, Option, Some}
use Rattle.std.proofs.Common.{None, List, [], ◌++◌, append_assoc, append-nil, nat_eq, refl, sym}
use Rattle.std.proofs.Common.{◌∙◌, ap, option_map}
use Rattle.std.proofs.lemmas.Bool.{eqb-true, or_parts}
use Rattle.std.specs.FinMap.{get}
use Rattle.std.specs.List.{slice_get}
use Rattle.std.specs.Option.{option_and_then, option_map_or}
use Rattle.std.proofs.lemmas.Option.{slice_get-map}
use Rattle.irc_batch.specs.Batches.{Sent}
use Rattle.irc_world.specs.Stepping.{Item}
use Rattle.irc_stage.specs.View.{View}
use Rattle.irc_server.specs.Served.{ReadEvent}
use Rattle.irc_server.specs.LineEnds.{ServedLinesEnd}
use Rattle.irc_server.specs.Own.{ServedGoesToItsOwn}
use Rattle.irc_network.specs.Network.{Progress, Network, Served, Node, begun, item_kept, reply}
use Rattle.irc_network.specs.Network.{node_asked, waiting}
use Rattle.irc_pipes.specs.Pipes.{LinkPipe, pipe_at}
use Rattle.irc_network.specs.Behind.{emptied, emptied_node}
use Rattle.irc_network.specs.ByteNetwork.{ByteNetwork, all_written, queues_written, waiting_at}
use Rattle.irc_network.specs.Loops.Writing.{IsWritten}
use Rattle.irc_network.specs.Whole.{IsTidy, has_way}
use Rattle.irc_network.specs.Lemmas.Emptied.{emptied_waits, emptied_ways}
use Rattle.irc_network.specs.Lemmas.RowsWritten.{is_written}
use Rattle.irc_network.specs.Lemmas.NodesStay.{asked_stays}
use Rattle.irc_engine.specs.Carrying.{answers, bytes_owed, is_closed_by}
use Rattle.irc_engine.specs.Lemmas.CarryingLaws.{is_closed_by-append, owed-append}
use Rattle.irc_daemons.specs.Alike.{AreServersAlike, AreApart, Numbers, ServeAlike, ServedAlike}
use Rattle.irc_daemons.specs.Alike.{client_bytes, happens_at, renumbered}
use Rattle.irc_daemons.specs.Receiving.{bytes_received, has_come}
use Rattle.irc_daemons.proofs.Heard.{reply_ends}
use Rattle.irc_daemons.proofs.Homes.{KeepsHomes, asked_keeps, keeps_both}
use Rattle.irc_daemons.proofs.Single.{no_way_waits}
use Rattle.irc_daemons.proofs.Received.{Gets, asked_gets}
use Rattle.irc_daemons.proofs.Sent.{Replies, asked_replies, server_at}
use Rattle.irc_daemons.proofs.Silence.{nobody_gets, other_ends}
use Rattle.irc_daemons.proofs.Written.{bodies, bodies_are, written_all}

-- ---- what was emptied

pub emptied_server : (net : Network) (x : ℕ) → server_at (emptied net) x ≡ server_at net x
emptied_server net x =
    ap (option_map (λ (s : Node). s.server)) (slice_get-map emptied_node net.nodes x)
    ∙ by (slice_get net.nodes x)
  where
    by : (o : Option Node) → option_map (λ (s : Node). s.server) (option_map emptied_node o)
        ≡ option_map (λ (s : Node). s.server) o
    by None = refl
    by (Some node) = refl

pub come_of_nodes : (old new : Network) → new.received ≡ old.received → (client : ℕ)
    → has_come new client ≡ has_come old client
come_of_nodes old new same zero = refl
come_of_nodes old new same (suc earlier) =
    ap (λ (lines : List (List (List ℕ))). is_some (slice_get lines earlier)) same

pub bytes_of_nodes : (old new : Network) → new.received ≡ old.received → (client : ℕ)
    → bytes_received new client ≡ bytes_received old client
bytes_of_nodes old new same zero = refl
bytes_of_nodes old new same (suc earlier) = ap (λ (lines : List (List (List ℕ))). bytes_received
    (record old { received = lines }) (suc earlier)) same

-- ---- where a network has come to by what one server put out

-- bytes behind those that are on their way
abbrev pub pipe_behind : List ℕ → LinkPipe → LinkPipe
pipe_behind bytes pipe = record { begun = pipe.begun; bytes = pipe.bytes ++ bytes }

pub record Went (place : ℕ) (numbers : Numbers) (last : View) (outs : List Sent)
    (old new : ByteNetwork) : Type 0 where
  pub state : View
  pub alike : AreServersAlike numbers last state
  pub server : server_at new.network place ≡ Some (Some state)
  pub others : (x : ℕ) → nat_eq x place ≡ false → server_at new.network x ≡ server_at old.network x
  pub ways : (x y : ℕ) → has_way new.network x y ≡ has_way old.network x y
  pub pipes_there : (x y : ℕ) → nat_eq x place ≡ false
      → pipe_at new.pipes x y ≡ pipe_at old.pipes x y
  pub no_way : (y : ℕ) → numbers.link y ≡ None
      → pipe_at new.pipes place y ≡ pipe_at old.pipes place y
  pub pipes_here : (y q : ℕ) → numbers.link y ≡ Some q → is_closed_by q outs ≡ false
      → pipe_at new.pipes place y ≡ pipe_behind (answers q outs) (pipe_at old.pipes place y)
  pub tidy : IsTidy new
  pub keeps : KeepsHomes old.network new.network
  pub come : (client : ℕ) → has_come new.network client ≡ has_come old.network client
  pub gets : (client q : ℕ) → numbers.client client ≡ Some q → has_come old.network client ≡ true
      → bytes_received new.network client ≡ bytes_received old.network client ++ answers q outs
  pub gets_nothing : (client : ℕ) → numbers.client client ≡ None → has_come old.network client
      ≡ true → bytes_received new.network client ≡ bytes_received old.network client

-- ---- nothing was put out

pub went_nowhere : (place : ℕ) (numbers : Numbers) (own other : View) (net : ByteNetwork)
    → AreServersAlike numbers own other → server_at net.network place ≡ Some (Some other)
    → IsTidy net → Went place numbers own [] net net
went_nowhere place numbers own other net alike at tidy = record {
  state = other;
  alike = alike;
  server = at;
  others = λ x two. refl;
  ways = λ x y. refl;
  pipes_there = λ x y two. refl;
  no_way = λ y none. refl;
  pipes_here = λ y q link opened. λ i. record {
    begun = (pipe_at net.pipes place y).begun;
    bytes = sym (append-nil (pipe_at net.pipes place y).bytes) i;
  };
  tidy = tidy;
  keeps = record { names = refl; homes = refl; inboxes = refl };
  come = λ client. refl;
  gets = λ client q seat has. sym (append-nil (bytes_received net.network client));
  gets_nothing = λ client none has. refl;
}

-- ---- one after another

pub same_answers : (q : ℕ) (a b : List Sent) → (is_closed_by q a ≡ true → answers q b ≡ [])
    → answers q a ++ answers q b ≡ answers q (a ++ b)
same_answers q a b quiet = by (is_closed_by q a) refl ∙ sym (owed-append true q a b)
  where
    by : (c : Bool) → is_closed_by q a ≡ c
        → answers q a ++ answers q b ≡ answers q a ++ bytes_owed (not (is_closed_by q a)) q b
    by true is = ap (λ bs. answers q a ++ bs) (quiet is ∙ ap (λ t. bytes_owed (not t) q b) (sym is))
    by false is = ap (λ t. answers q a ++ bytes_owed (not t) q b) (sym is)

pub went_both : (place : ℕ) (numbers : Numbers) (between last : View) (a b : List Sent)
    (old mid new : ByteNetwork) → Went place numbers between a old mid
    → Went place numbers last b mid new → ((client q : ℕ) → numbers.client client ≡ Some q
    → is_closed_by q a ≡ true → answers q b ≡ []) → Went place numbers last (a ++ b) old new
went_both place numbers between last a b old mid new one two quiet = record {
  state = two.state;
  alike = two.alike;
  server = two.server;
  others = λ x other. two.others x other ∙ one.others x other;
  ways = λ x y. two.ways x y ∙ one.ways x y;
  pipes_there = λ x y other. two.pipes_there x y other ∙ one.pipes_there x y other;
  no_way = λ y none. two.no_way y none ∙ one.no_way y none;
  pipes_here = λ y q link opened.
      let parts = or_parts (is_closed_by q a) (is_closed_by q b)
      (sym (is_closed_by-append q a b) ∙ opened) in
      two.pipes_here y q link parts.1
      ∙ ap (pipe_behind (answers q b)) (one.pipes_here y q link parts.0)
      ∙ (λ i. record {
        begun = (pipe_at old.pipes place y).begun;
        bytes = (append_assoc (pipe_at old.pipes place y).bytes (answers q a) (answers q b)
            ∙ ap (λ bs. (pipe_at old.pipes place y).bytes ++ bs)
            (same_answers q a b (λ closed. cc (sym parts.0 ∙ closed)))) i;
      });
  tidy = two.tidy;
  keeps = keeps_both old.network mid.network new.network one.keeps two.keeps;
  come = λ client. two.come client ∙ one.come client;
  gets = λ client q seat has.
      two.gets client q seat (one.come client ∙ has)
      ∙ ap (λ bs. bs ++ answers q b) (one.gets client q seat has)
      ∙ append_assoc (bytes_received old.network client) (answers q a) (answers q b)
      ∙ ap (λ bs. bytes_received old.network client ++ bs)
      (same_answers q a b (quiet client q seat));
  gets_nothing = λ client none has. two.gets_nothing client none (one.come client ∙ has)
      ∙ one.gets_nothing client none has;
}

-- ---- one server is asked

-- Numbers are these; and then these of links, each of which was one before, and is that of a way.
pub record AreThen (place : ℕ) (before : Numbers) (own other : View) (old : ByteNetwork)
    (numbers : Numbers) : Type 0 where
  pub links : (y q : ℕ) → numbers.link y ≡ Some q → before.link y ≡ Some q
  pub clients : (client : ℕ) → numbers.client client ≡ before.client client
  pub alike : AreServersAlike before own other → AreServersAlike numbers own other
  pub ways : (y : ℕ) → has_way old.network place y ≡ is_some (numbers.link y)

module _ (lines_end : ServedLinesEnd) (own_law : ServedGoesToItsOwn) (alike_law : ServedAlike)
    (place : ℕ) (before : Numbers) (apart : AreApart before)
    (own other : View) (read_event : ReadEvent) (conn : ℕ) (happens : happens_at before read_event
    ≡ Some conn) (alike : AreServersAlike before own other)
    (old : ByteNetwork) (tidy : IsTidy old) (at : server_at old.network place ≡ Some (Some other))
    (numbers : Numbers)
    (then_are : AreThen place before (reply own (renumbered conn read_event)).state
    (reply other read_event).state old numbers) (item : Item)
  where
    abbrev mine : Served
    mine = reply own (renumbered conn read_event)

    abbrev theirs : Served
    theirs = reply other read_event

    abbrev asked : Progress Network
    asked = node_asked place read_event (begun old.network)

    abbrev kept : Network
    kept = (item_kept item asked).state

    abbrev now : ByteNetwork
    now = queues_written kept old.pipes

    said : ServeAlike before own (renumbered conn read_event) other read_event
    said = alike_law before own other read_event conn apart alike happens

    here : Replies place theirs.state (λ y. bodies y theirs.out) old.network asked.state
    here = asked_replies place read_event other (begun old.network) at

    gets : Gets (λ q. client_bytes q theirs.out) old.network asked.state
    gets = asked_gets place read_event other (begun old.network) at

    is_so : IsWritten kept old.pipes now
    is_so = is_written kept old.pipes tidy.lean
        (tidy.rows ∙ sym (asked_stays place read_event (begun old.network)))

    waits_there : (x y : ℕ) → nat_eq x place ≡ false → waiting_at kept x y ≡ []
    waits_there x y two = ap (λ o. option_map_or (λ (node : Node). waiting node y) o [])
        (here.others x two) ∙ tidy.quiet x y

    waits_here : (y q : ℕ) → numbers.link y ≡ Some q → waiting_at kept place y ≡ bodies y theirs.out
    waits_here y q link =
        here.waits y (then_are.ways y ∙ ap is_some link)
        ∙ ap (λ ls. ls ++ bodies y theirs.out) (tidy.quiet place y)

    ways_at : (x y : ℕ) (b : Bool) → nat_eq x place ≡ b → has_way kept x y ≡ has_way old.network x y
    ways_at x y true one =
        ap (λ n. has_way kept n y) (eqb-true x place one) ∙ here.ways y
        ∙ ap (λ n. has_way old.network n y) (sym (eqb-true x place one))
    ways_at x y false two = ap
        (λ o. is_some (option_and_then (λ (node : Node). get node.queues y) o)) (here.others x two)

    pipe_now : (y q : ℕ) → numbers.link y ≡ Some q → is_closed_by q mine.out ≡ false
        → pipe_at now.pipes place y ≡ pipe_behind (answers q mine.out) (pipe_at old.pipes place y)
    pipe_now y q link opened =
        is_so.pipes_are place y
        ∙ ap (λ ls. all_written ls (pipe_at old.pipes place y)) (waits_here y q link)
        ∙ written_all (bodies y theirs.out) (pipe_at old.pipes place y)
        ∙ ap (λ bs. pipe_behind bs (pipe_at old.pipes place y))
        (bodies_are y theirs.out (reply_ends lines_end other read_event)
        ∙ sym (said.say.on_links y q (then_are.links y q link) opened))

    come_now : (client : ℕ) → has_come now.network client ≡ has_come old.network client
    come_now client = come_of_nodes asked.state now.network refl client ∙ gets.come client

    bytes_now : (client : ℕ) → has_come old.network client ≡ true
        → bytes_received now.network client ≡ bytes_received old.network client
        ++ client_bytes client theirs.out
    bytes_now client has = bytes_of_nodes asked.state now.network refl client ∙ gets.more client has

    keeps_now : KeepsHomes old.network now.network
    keeps_now =
        let keeps = asked_keeps place read_event (begun old.network) in record {
          names = keeps.names;
          homes = keeps.homes;
          inboxes = keeps.inboxes;
        }

    no_client : (client : ℕ) → numbers.client client ≡ None
        → is_some (get other.clients client) ≡ false
    no_client client none =
        ap is_some (alike.alike.clients client
        ∙ ap (option_and_then (get own.clients)) (sym (then_are.clients client) ∙ none))

    pub asked_went : Went place numbers mine.state mine.out old now
    asked_went = record {
      state = theirs.state;
      alike = then_are.alike said.views;
      server = emptied_server kept place ∙ here.server;
      others = λ x two. emptied_server kept x
          ∙ ap (option_map (λ (s : Node). s.server)) (here.others x two);
      ways = λ x y. emptied_ways kept x y ∙ ways_at x y (nat_eq x place) refl;
      pipes_there = λ x y two. is_so.pipes_are x y
          ∙ ap (λ ls. all_written ls (pipe_at old.pipes x y)) (waits_there x y two);
      no_way = λ y none.
          is_so.pipes_are place y
          ∙ ap (λ ls. all_written ls (pipe_at old.pipes place y))
          (no_way_waits kept place y (here.ways y ∙ then_are.ways y ∙ ap is_some none));
      pipes_here = pipe_now;
      tidy = record { quiet = emptied_waits kept; rows = is_so.rows; lean = is_so.lean };
      keeps = keeps_now;
      come = come_now;
      gets = λ client q seat has.
          bytes_now client has ∙ ap (λ bs. bytes_received old.network client ++ bs)
          (sym (said.say.to_clients client q (sym (then_are.clients client) ∙ seat)));
      gets_nothing = λ client none has.
          bytes_now client has
          ∙ ap (λ bs. bytes_received old.network client ++ bs)
          (nobody_gets own_law other read_event (other_ends before own other alike) client
          (no_client client none))
          ∙ append-nil (bytes_received old.network client);
    }

-- ---- one item

module _ (lines_end : ServedLinesEnd) (own_law : ServedGoesToItsOwn) (alike_law : ServedAlike)
    (place : ℕ) (numbers : Numbers) (apart : AreApart numbers)
    (own other : View) (read_event : ReadEvent) (conn : ℕ) (happens : happens_at numbers read_event
    ≡ Some conn) (alike : AreServersAlike numbers own other)
    (old : ByteNetwork) (tidy : IsTidy old) (at : server_at old.network place ≡ Some (Some other))
    (ways_are : (y : ℕ) → has_way old.network place y ≡ is_some (numbers.link y)) (item : Item)
  where
    same_then : AreThen place numbers (reply own (renumbered conn read_event)).state
        (reply other read_event).state old numbers
    same_then = record {
      links = λ y q link. link;
      clients = λ client. refl;
      alike = λ is. is;
      ways = ways_are;
    }

    pub item_went : Went place numbers (reply own (renumbered conn read_event)).state
        (reply own (renumbered conn read_event)).out old
        (queues_written
        (item_kept item (node_asked place read_event (begun old.network))).state old.pipes)
    item_went =
        asked_went lines_end own_law alike_law place numbers apart own other read_event conn happens
        alike old tidy at numbers same_then item
