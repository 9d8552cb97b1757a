-- Two networks whose links carry bytes, the same but that in one a server has been asked for
-- something more. They stay so as bytes come to other servers, and are the same once the server is
-- asked in both.
--
-- a.net is linked to b.net and d.net, and its link to c.net comes up: in `more` a.net knows of that
-- already, in `less` not yet
--   bytes come from d.net to b.net   b.net does the same in both
--   bytes come from a.net to b.net   the same bytes, for in `more` those that a.net put out on
--                                    account of c.net are behind them
--   the link comes up in `less` too  now they are the same
use Rattle.std.proofs.Common.{◌≡◌, ◌≤◌, ℕ, Bool, true, false, ◌&&◌, is_some, Some, List, [], ◌++◌}
use Rattle.std.proofs.Common.{append_assoc, append-nil, length, nat_eq, refl, sym, ◌∙◌, ap, subst}
use Rattle.std.proofs.lemmas.Bool.{eq-eqb, eqb-true}
use Rattle.std.proofs.lemmas.List.{drop-append-le, take-append-le}
use Rattle.std.specs.FinMap.{get}
use Rattle.std.specs.Option.{option_and_then}
use Rattle.irc_names.specs.Lemmas.PlainFacts.{nat_eq-turned}
use Rattle.irc_batch.specs.Batches.{Sent}
use Rattle.irc_forest.specs.Forests.{place_in}
use Rattle.irc_line.specs.Lines.{begun_behind, completed}
use Rattle.irc_relay.specs.Links.{Name}
use Rattle.irc_relay.specs.Relay.{IsFront}
use Rattle.irc_server.specs.Served.{ReadEvent}
use Rattle.irc_server.specs.Own.{ServedGoesToItsOwn, ServedKeepsEnds}
use Rattle.irc_network.specs.Node.{Served, reply}
use Rattle.irc_stage.specs.View.{View}
use Rattle.irc_world.specs.World.{home_in}
use Rattle.irc_network.specs.Network.{Network, begun, home_place, node_asked, server_place}
use Rattle.irc_pipes.specs.Pipes.{LinkPipe, Pipes, advanced, lines_by, pipe_at}
use Rattle.irc_network.specs.ByteNetwork.{ByteNetwork, bytes_come, completed_in}
use Rattle.irc_network.specs.ByteNetwork.{queues_written, pipes_come}
use Rattle.irc_network.specs.Whole.{has_way}
use Rattle.irc_daemons.specs.Alike.{client_bytes}
use Rattle.irc_daemons.specs.Clients.{ClientsStay}
use Rattle.irc_daemons.specs.Receiving.{bytes_received, has_come}
use Rattle.irc_daemons.proofs.Given.{pipe_behind}
use Rattle.irc_daemons.proofs.GoesOn.{GoesOn, asked_goes_on, bytes_go_on, come_at, come_if}
use Rattle.irc_daemons.proofs.LackingWords.{AreAllEnds, AreOwn, LacksOne}
use Rattle.irc_daemons.proofs.OwnClients.{all_replies, all_to_own}
use Rattle.irc_daemons.proofs.Silence.{nobody_gets}
use Rattle.irc_daemons.proofs.SameAs.{IsSameAs, none_received}
use Rattle.irc_daemons.proofs.Sent.{server_at}
use Rattle.irc_daemons.proofs.Written.{bodies, with_ends}

-- names, homes and clients are the same in both, and so are the places where servers are, and the
-- ways between them
pub record ArePlacedAlike (less more : Network) : Type 0 where
  pub names : more.names ≡ less.names
  pub homes : more.homes ≡ less.homes
  pub inboxes : length more.received ≡ length less.received
  pub come : (client : ℕ) → has_come more client ≡ has_come less client
  pub ways : (x y : ℕ) → has_way more x y ≡ has_way less x y
  pub there : (x : ℕ) → is_some (server_at more x) ≡ is_some (server_at less x)
  pub server_places : (name : Name) → server_place more name ≡ server_place less name
  pub home_places : (client : ℕ) → home_place more client ≡ home_place less client

-- ---- pipes

-- on these pipes bytes of the server at a place are behind what is on those, and else they carry
-- the same
record AreBehind (net : Network) (place : ℕ) (outs : List Sent) (one other : Pipes) : Type 0 where
  there : (x y : ℕ) → nat_eq x place ≡ false → pipe_at other x y ≡ pipe_at one x y
  here : (y : ℕ) → has_way net place y ≡ true
      → pipe_at other place y ≡ pipe_behind (with_ends (bodies y outs)) (pipe_at one place y)
  no_way : (y : ℕ) → has_way net place y ≡ false → pipe_at other place y ≡ pipe_at one place y

-- bytes that come are not those behind
front_advances : (count : ℕ) (pipe : LinkPipe) (bytes : List ℕ) → count ≤ length pipe.bytes
    → advanced count (pipe_behind bytes pipe) ≡ pipe_behind bytes (advanced count pipe)
front_advances count pipe bytes enough = λ i. record {
  begun = begun_behind pipe.begun (take-append-le count pipe.bytes bytes enough i);
  bytes = drop-append-le count pipe.bytes bytes enough i;
}

front_completes : (count : ℕ) (pipe : LinkPipe) (bytes : List ℕ) → count ≤ length pipe.bytes
    → lines_by count (pipe_behind bytes pipe) ≡ lines_by count pipe
front_completes count pipe bytes enough =
    ap (completed pipe.begun) (take-append-le count pipe.bytes bytes enough)

both_are : (x from y to : ℕ) → (nat_eq x from && nat_eq y to) ≡ true → (x ≡ from) × (y ≡ to)
both_are x from y to is = by (nat_eq x from) refl is
  where
    by : (b : Bool) → nat_eq x from ≡ b → (b && nat_eq y to) ≡ true → (x ≡ from) × (y ≡ to)
    by true one two = (eqb-true x from one, eqb-true y to two)
    by false one two = cc two

module _ (place : ℕ) (read_event : ReadEvent) (less more : ByteNetwork)
    (lacks : LacksOne place read_event less more) (from to count : ℕ)
    (enough : count ≤ length (pipe_at less.pipes from to).bytes)
  where
    abbrev asked : Served
    asked = reply lacks.state read_event

    same_lines : completed_in more from to count ≡ completed_in less from to count
    same_lines = by (nat_eq from place) refl (has_way less.network place to) refl
      where
        by : (b : Bool) → nat_eq from place ≡ b → (c : Bool) → has_way less.network place to ≡ c
            → lines_by count (pipe_at more.pipes from to) ≡ lines_by count
            (pipe_at less.pipes from to)
        by false two c way = ap (lines_by count) (lacks.pipes_there from to two)
        by true one false none =
            ap (λ n. lines_by count (pipe_at more.pipes n to)) (eqb-true from place one)
            ∙ ap (lines_by count) (lacks.no_way to none)
            ∙ ap (λ n. lines_by count (pipe_at less.pipes n to)) (sym (eqb-true from place one))
        by true one true way =
            ap (λ n. lines_by count (pipe_at more.pipes n to)) (eqb-true from place one)
            ∙ ap (lines_by count) (lacks.pipes_here to way)
            ∙ ap (λ n. lines_by count (pipe_behind (with_ends (bodies to asked.out))
            (pipe_at less.pipes n to))) (sym (eqb-true from place one))
            ∙ front_completes count (pipe_at less.pipes from to)
            (with_ends (bodies to asked.out)) enough

    comes_behind : (y : ℕ) (bytes : List ℕ) (b : Bool) → (nat_eq place from && nat_eq y to) ≡ b
        → come_if count b (pipe_behind bytes (pipe_at less.pipes place y))
        ≡ pipe_behind bytes (come_if count b (pipe_at less.pipes place y))
    comes_behind y bytes true is =
        let there = both_are place from y to is in
        front_advances count (pipe_at less.pipes place y) bytes
        (subst (λ (w : LinkPipe). count ≤ length w.bytes)
        (λ i. pipe_at less.pipes (sym there.0 i) (sym there.1 i)) enough)
    comes_behind y bytes false is = refl

    still_behind : AreBehind less.network place asked.out (pipes_come less from to count)
        (pipes_come more from to count)
    still_behind = record {
      there = λ x y two.
          come_at from to count more x y
          ∙ ap (come_if count (nat_eq x from && nat_eq y to)) (lacks.pipes_there x y two)
          ∙ sym (come_at from to count less x y);
      here = λ y way.
          come_at from to count more place y
          ∙ ap (come_if count (nat_eq place from && nat_eq y to)) (lacks.pipes_here y way)
          ∙ comes_behind y (with_ends (bodies y asked.out)) (nat_eq place from && nat_eq y to) refl
          ∙ ap (pipe_behind (with_ends (bodies y asked.out)))
          (sym (come_at from to count less place y));
      no_way = λ y none.
          come_at from to count more place y
          ∙ ap (come_if count (nat_eq place from && nat_eq y to)) (lacks.no_way y none)
          ∙ sym (come_at from to count less place y);
    }

-- ---- another server does something in both

module _ (place to : ℕ) (read_event : ReadEvent) (less more : ByteNetwork)
    (lacks : LacksOne place read_event less more)
    (away : nat_eq to place ≡ false) (next : Served) (one other : Pipes)
    (behind : AreBehind less.network place (reply lacks.state read_event).out one other)
    (less_then more_then : ByteNetwork)
    (goes_less : GoesOn to next one less less_then)
    (goes_more : GoesOn to next other more more_then)
    (turns : (client : ℕ) → client_bytes client (reply lacks.state read_event).out
    ++ client_bytes client next.out
    ≡ client_bytes client next.out ++ client_bytes client (reply lacks.state read_event).out)
  where
    abbrev out : List Sent
    out = (reply lacks.state read_event).out

    apart : nat_eq place to ≡ false
    apart = nat_eq-turned place to ∙ away

    servers_then : (x : ℕ) → nat_eq x place ≡ false → (b : Bool) → nat_eq x to ≡ b
        → server_at more_then.network x ≡ server_at less_then.network x
    servers_then x two true same =
        ap (server_at more_then.network) (eqb-true x to same) ∙ goes_more.server
        ∙ sym goes_less.server
        ∙ ap (server_at less_then.network) (sym (eqb-true x to same))
    servers_then x two false there =
        goes_more.others x there ∙ lacks.others x two ∙ sym (goes_less.others x there)

    pipes_to : (y : ℕ) (b : Bool) → has_way less.network to y ≡ b
        → pipe_at more_then.pipes to y ≡ pipe_at less_then.pipes to y
    pipes_to y true way =
        goes_more.pipes_here y (lacks.ways to y ∙ way)
        ∙ ap (pipe_behind (with_ends (bodies y next.out))) (behind.there to y away)
        ∙ sym (goes_less.pipes_here y way)
    pipes_to y false none = goes_more.no_way y (lacks.ways to y ∙ none) ∙ behind.there to y away
        ∙ sym (goes_less.no_way y none)

    pipes_then : (x y : ℕ) → nat_eq x place ≡ false → (b : Bool) → nat_eq x to ≡ b
        → pipe_at more_then.pipes x y ≡ pipe_at less_then.pipes x y
    pipes_then x y two true same =
        ap (λ n. pipe_at more_then.pipes n y) (eqb-true x to same)
        ∙ pipes_to y (has_way less.network to y) refl
        ∙ ap (λ n. pipe_at less_then.pipes n y) (sym (eqb-true x to same))
    pipes_then x y two false there = goes_more.pipes_there x y there ∙ behind.there x y two
        ∙ sym (goes_less.pipes_there x y there)

    received_then : (client : ℕ) → has_come less.network client ≡ true
        → bytes_received more_then.network client ≡ bytes_received less_then.network client
        ++ client_bytes client out
    received_then client has =
        goes_more.gets.more client (lacks.come client ∙ has)
        ∙ ap (λ bs. bs ++ client_bytes client next.out) (lacks.received client has)
        ∙ append_assoc (bytes_received less.network client) (client_bytes client out)
        (client_bytes client next.out)
        ∙ ap (λ bs. bytes_received less.network client ++ bs) (turns client)
        ∙ sym (append_assoc (bytes_received less.network client) (client_bytes client next.out)
        (client_bytes client out))
        ∙ ap (λ bs. bs ++ client_bytes client out) (sym (goes_less.gets.more client has))

    lacks_then : LacksOne place read_event less_then more_then
    lacks_then = record {
      state = lacks.state;
      here = goes_less.others place apart ∙ lacks.here;
      here_then = goes_more.others place apart ∙ lacks.here_then;
      others = λ x two. servers_then x two (nat_eq x to) refl;
      ways = λ x y. goes_more.ways x y ∙ lacks.ways x y ∙ sym (goes_less.ways x y);
      pipes_there = λ x y two. pipes_then x y two (nat_eq x to) refl;
      pipes_here = λ y way.
          goes_more.pipes_there place y apart ∙ behind.here y (sym (goes_less.ways place y) ∙ way)
          ∙ ap (pipe_behind (with_ends (bodies y out))) (sym (goes_less.pipes_there place y apart));
      no_way = λ y none.
          goes_more.pipes_there place y apart ∙ behind.no_way y
          (sym (goes_less.ways place y) ∙ none) ∙ sym (goes_less.pipes_there place y apart);
      names = goes_more.keeps.names ∙ lacks.names ∙ sym goes_less.keeps.names;
      homes = goes_more.keeps.homes ∙ lacks.homes ∙ sym goes_less.keeps.homes;
      come = λ client. goes_more.gets.come client ∙ lacks.come client
          ∙ sym (goes_less.gets.come client);
      inboxes = goes_more.keeps.inboxes ∙ lacks.inboxes ∙ sym goes_less.keeps.inboxes;
      received = λ client has. received_then client (sym (goes_less.gets.come client) ∙ has);
      tidy_less = goes_less.tidy;
      tidy_more = goes_more.tidy;
    }

-- ---- bytes come to another server

module _ (own_law : ServedGoesToItsOwn) (stay : ClientsStay) (keeps : ServedKeepsEnds) where
  module _ (place from to count : ℕ) (read_event : ReadEvent) (less more : ByteNetwork)
      (lacks : LacksOne place read_event less more)
      (away : nat_eq to place ≡ false) (own : AreOwn less.network) (ends : AreAllEnds less.network)
      (other : View)
      (at : server_at less.network to ≡ Some (Some other))
      (enough : count ≤ length (pipe_at less.pipes from to).bytes)
    where
      abbrev lines : List (List ℕ)
      lines = completed_in less from to count

      abbrev next : Served
      next = all_replies from other lines

      -- who is a client there is none here
      not_here : (client : ℕ) → is_some (get other.clients client) ≡ true → (b : Bool)
          → is_some (get lacks.state.clients client) ≡ b → b ≡ false
      not_here client there true is =
          cc (sym (eq-eqb to place
          (sym (own place to client lacks.state other lacks.here at is there))) ∙ away)
      not_here client there false is = refl

      turns : (client : ℕ) (b : Bool) → is_some (get other.clients client) ≡ b
          → client_bytes client (reply lacks.state read_event).out ++ client_bytes client next.out
          ≡ client_bytes client next.out ++ client_bytes client (reply lacks.state read_event).out
      turns client true there =
          let none =
          nobody_gets own_law lacks.state read_event (ends place lacks.state lacks.here) client
          (not_here client there (is_some (get lacks.state.clients client)) refl) in
          ap (λ bs. bs ++ client_bytes client next.out) none
          ∙ sym (append-nil (client_bytes client next.out))
          ∙ ap (λ bs. client_bytes client next.out ++ bs) (sym none)
      turns client false not_there =
          let none =
          all_to_own own_law stay keeps from other lines client (ends to other at) not_there in
          ap (λ bs. client_bytes client (reply lacks.state read_event).out ++ bs) none
          ∙ append-nil (client_bytes client (reply lacks.state read_event).out)
          ∙ ap (λ bs. bs ++ client_bytes client (reply lacks.state read_event).out) (sym none)

      goes_more : GoesOn to next (pipes_come more from to count) more
          (bytes_come from to count (begun more)).state
      goes_more =
          subst
          (λ ls. GoesOn to (all_replies from other ls) (pipes_come more from to count) more
          (bytes_come from to count (begun more)).state)
          (same_lines place read_event less more lacks from to count enough)
          (bytes_go_on from to count more other lacks.tidy_more (lacks.others to away ∙ at))

      pub lacks_still : LacksOne place read_event (bytes_come from to count (begun less)).state
          (bytes_come from to count (begun more)).state
      lacks_still =
          lacks_then place to read_event less more lacks away next (pipes_come less from to count)
          (pipes_come more from to count)
          (still_behind place read_event less more lacks from to count enough)
          (bytes_come from to count (begun less)).state
          (bytes_come from to count (begun more)).state
          (bytes_go_on from to count less other lacks.tidy_less at) goes_more
          (λ client. turns client (is_some (get other.clients client)) refl)

-- ---- the server is asked in both

module _ (place : ℕ) (read_event : ReadEvent) (less more : ByteNetwork)
    (lacks : LacksOne place read_event less more) where
  abbrev asked_too : ByteNetwork
  asked_too = queues_written (node_asked place read_event (begun less.network)).state less.pipes

  goes : GoesOn place (reply lacks.state read_event) less.pipes less asked_too
  goes = asked_goes_on place read_event lacks.state less lacks.tidy_less lacks.here

  pub lacks_nothing : IsSameAs
      (queues_written (node_asked place read_event (begun less.network)).state less.pipes) more
  lacks_nothing = record {
    servers = λ x. same_server x (nat_eq x place) refl;
    ways = λ x y. lacks.ways x y ∙ sym (goes.ways x y);
    pipes = λ x y. same_pipe x y (nat_eq x place) refl;
    names = lacks.names ∙ sym goes.keeps.names;
    homes = lacks.homes ∙ sym goes.keeps.homes;
    come = λ client. lacks.come client ∙ sym (goes.gets.come client);
    inboxes = lacks.inboxes ∙ sym goes.keeps.inboxes;
    bytes = λ client. same_bytes client (has_come less.network client) refl;
    tidy = lacks.tidy_more;
  }
    where
      same_server : (x : ℕ) (b : Bool) → nat_eq x place ≡ b
          → server_at more.network x ≡ server_at asked_too.network x
      same_server x true same =
          ap (server_at more.network) (eqb-true x place same) ∙ lacks.here_then ∙ sym goes.server
          ∙ ap (server_at asked_too.network) (sym (eqb-true x place same))
      same_server x false two = lacks.others x two ∙ sym (goes.others x two)

      pipe_here : (y : ℕ) (b : Bool) → has_way less.network place y ≡ b
          → pipe_at more.pipes place y ≡ pipe_at asked_too.pipes place y
      pipe_here y true way = lacks.pipes_here y way ∙ sym (goes.pipes_here y way)
      pipe_here y false none = lacks.no_way y none ∙ sym (goes.no_way y none)

      same_pipe : (x y : ℕ) (b : Bool) → nat_eq x place ≡ b
          → pipe_at more.pipes x y ≡ pipe_at asked_too.pipes x y
      same_pipe x y true same =
          ap (λ n. pipe_at more.pipes n y) (eqb-true x place same)
          ∙ pipe_here y (has_way less.network place y) refl
          ∙ ap (λ n. pipe_at asked_too.pipes n y) (sym (eqb-true x place same))
      same_pipe x y false two = lacks.pipes_there x y two ∙ sym (goes.pipes_there x y two)

      same_bytes : (client : ℕ) (b : Bool) → has_come less.network client ≡ b
          → bytes_received more.network client ≡ bytes_received asked_too.network client
      same_bytes client true has = lacks.received client has ∙ sym (goes.gets.more client has)
      same_bytes client false none =
          none_received more.network client (lacks.come client ∙ none)
          ∙ sym (none_received asked_too.network client (goes.gets.come client ∙ none))

  -- ---- what clients have received

  pub front_of_more : (client : ℕ)
      → IsFront (bytes_received less.network client) (bytes_received more.network client)
  front_of_more client = by (has_come less.network client) refl
    where
      by : (b : Bool) → has_come less.network client ≡ b
          → IsFront (bytes_received less.network client) (bytes_received more.network client)
      by true has =
          (client_bytes client (reply lacks.state read_event).out, sym (lacks.received client has))
      by false none = (
        [],
        append-nil (bytes_received less.network client) ∙ none_received less.network client none
            ∙ sym (none_received more.network client (lacks.come client ∙ none)),
      )

  -- ---- who is where

  pub lacks_placed : ArePlacedAlike less.network more.network
  lacks_placed = record {
    names = lacks.names;
    homes = lacks.homes;
    inboxes = lacks.inboxes;
    come = lacks.come;
    ways = lacks.ways;
    there = λ x. is_there x (nat_eq x place) refl;
    server_places = λ name. ap (λ names. place_in names name) lacks.names;
    home_places =
        λ client. λ i. option_and_then (place_in (lacks.names i)) (home_in (lacks.homes i) client);
  }
    where
      is_there : (x : ℕ) (b : Bool) → nat_eq x place ≡ b
          → is_some (server_at more.network x) ≡ is_some (server_at less.network x)
      is_there x true same =
          ap (λ n. is_some (server_at more.network n)) (eqb-true x place same)
          ∙ ap is_some lacks.here_then ∙ ap is_some (sym lacks.here)
          ∙ ap (λ n. is_some (server_at less.network n)) (sym (eqb-true x place same))
      is_there x false two = ap is_some (lacks.others x two)
