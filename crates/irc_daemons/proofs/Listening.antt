-- A server hears lines of a link, and a server of a network that is alike hears them too: where the
-- network has come to then.
use Rattle.std.proofs.Common.{◌≡◌, ℕ, Bool, true, false, not, ◌||◌, is_some, Some, None, List, []}
use Rattle.std.proofs.Common.{◌∷◌, ◌++◌, append_assoc, append-nil, nat_eq, refl, sym, ◌∙◌, ap}
use Rattle.std.proofs.Common.{subst, option_map, if◌then◌else◌}
use Rattle.std.proofs.lemmas.Bool.{eq-eqb, eqb-true, or_parts}
use Rattle.std.specs.FinMap.{get}
use Rattle.std.specs.List.{AllByRecursion}
use Rattle.std.specs.Option.{option_and_then, option_map_or}
use Rattle.std.proofs.lemmas.Option.{same_Some}
use Rattle.irc_names.specs.Lemmas.PlainFacts.{or_first}
use Rattle.arrayvec.specs.ArrayVec.{ArrayVec}
use Rattle.irc_line.specs.Reading.{read_of}
use Rattle.irc_batch.specs.Batches.{Sent}
use Rattle.irc_server.specs.declared.event.Event.{Event}
use Rattle.irc_server.specs.declared.event.Event.TheVariants.{LinkLine}
use Rattle.irc_server.specs.ReadEvents.{read_event_of}
use Rattle.irc_server.specs.Served.{ReadEvent, link_says}
use Rattle.irc_server.specs.Connected.{client_comes}
use Rattle.irc_server.specs.LineEnds.{ServedLinesEnd}
use Rattle.irc_server.specs.Own.{ServedGoesToItsOwn}
use Rattle.irc_stage.specs.View.{View}
use Rattle.irc_network.specs.Node.{Served, reply}
use Rattle.irc_network.specs.Network.{Progress, Network, Node, heard, line_counted, node_at}
use Rattle.irc_network.specs.Network.{waiting}
use Rattle.irc_pipes.specs.Pipes.{pipe_at}
use Rattle.irc_network.specs.ByteNetwork.{ByteNetwork, all_heard, all_written, queues_written}
use Rattle.irc_network.specs.ByteNetwork.{waiting_at}
use Rattle.irc_network.specs.Loops.Writing.{IsWritten}
use Rattle.irc_network.specs.Whole.{IsTidy, has_way}
use Rattle.irc_network.specs.Lemmas.Emptied.{emptied_waits, emptied_ways}
use Rattle.irc_engine.specs.Carrying.{answers, is_closed_by}
use Rattle.irc_engine.specs.Hearing.{line_by, lines_by}
use Rattle.irc_engine.specs.Lemmas.CarryingLaws.{is_closed_by-append}
use Rattle.irc_engine.specs.Running.{AreAsked, ServerAsked}
use Rattle.irc_daemons.specs.Alike.{AreServersAlike, AreApart, Numbers, ServeAlike, ServedAlike}
use Rattle.irc_daemons.specs.Alike.{client_bytes}
use Rattle.irc_daemons.specs.Clients.{ClientsStay}
use Rattle.irc_daemons.specs.Items.{has_item, is_link_line}
use Rattle.irc_daemons.specs.Receiving.{bytes_received, has_come}
use Rattle.irc_daemons.proofs.Given.{Went, bytes_of_nodes, come_of_nodes, emptied_server}
use Rattle.irc_daemons.proofs.Given.{same_answers, pipe_behind}
use Rattle.irc_daemons.proofs.Heard.{answers_both, reply_ends}
use Rattle.irc_daemons.proofs.Homes.{KeepsHomes, asked_keeps, keeps_both, keeps_same}
use Rattle.irc_daemons.proofs.Single.{no_way_waits}
use Rattle.irc_daemons.proofs.Received.{Gets, heard_gets}
use Rattle.irc_daemons.proofs.Sent.{Lines, Replies, heard_replies, server_at}
use Rattle.irc_daemons.proofs.Asked.{ServesClients, no_client_end, quiet_then, serves_both}
use Rattle.irc_daemons.proofs.Asked.{serves_none, took}
use Rattle.irc_daemons.proofs.Silence.{nobody_gets, nothing_answered, other_ends, still_there}
use Rattle.irc_daemons.proofs.Written.{bodies, bodies_are, ends_both, with_ends, written_all}

-- ---- where a network has come to, before what was put out is written

pub record Listens (to : ℕ) (numbers : Numbers) (own last : View) (events : List Event)
    (outs : List Sent) (old new : Network) : Type 0 where
  pub state : View
  pub alike : AreServersAlike numbers last state
  pub server : server_at new to ≡ Some (Some state)
  pub lines : ℕ → Lines
  pub ways : (y : ℕ) → has_way new to y ≡ has_way old to y
  pub waits : (y : ℕ) → has_way old to y ≡ true
      → waiting_at new to y ≡ waiting_at old to y ++ lines y
  pub bytes : (y q : ℕ) → numbers.link y ≡ Some q → is_closed_by q outs ≡ false
      → with_ends (lines y) ≡ answers q outs
  pub others : (x : ℕ) → nat_eq x to ≡ false → node_at new x ≡ node_at old x
  pub keeps : KeepsHomes old new
  pub come : (client : ℕ) → has_come new client ≡ has_come old client
  pub gets : (client q : ℕ) → numbers.client client ≡ Some q → has_come old client ≡ true
      → bytes_received new client ≡ bytes_received old client ++ answers q outs
  pub gets_nothing : (client : ℕ) → numbers.client client ≡ None → has_come old client ≡ true
      → bytes_received new client ≡ bytes_received old client
  pub clients : ServesClients numbers own last events outs

listens_none : (to : ℕ) (numbers : Numbers) (own other : View) (net : Network)
    → AreServersAlike numbers own other → server_at net to ≡ Some (Some other)
    → Listens to numbers own own [] [] net net
listens_none to numbers own other net alike at = record {
  state = other;
  alike = alike;
  server = at;
  lines = λ y. [];
  ways = λ y. refl;
  waits = λ y way. sym (append-nil (waiting_at net to y));
  bytes = λ y q link opened. refl;
  others = λ x two. refl;
  keeps = keeps_same net;
  come = λ client. refl;
  gets = λ client q seat has. sym (append-nil (bytes_received net client));
  gets_nothing = λ client none has. refl;
  clients = serves_none numbers own;
}

pub listens_both : (to : ℕ) (numbers : Numbers) (own between last : View) (events more : List Event)
    (a b : List Sent) (old mid new : Network) → Listens to numbers own between events a old mid
    → Listens to numbers between last more b mid new
    → Listens to numbers own last (events ++ more) (a ++ b) old new
listens_both to numbers own between last events more a b old mid new one two = record {
  state = two.state;
  alike = two.alike;
  server = two.server;
  lines = λ y. one.lines y ++ two.lines y;
  ways = λ y. two.ways y ∙ one.ways y;
  waits = λ y way.
      two.waits y (one.ways y ∙ way) ∙ ap (λ ls. ls ++ two.lines y) (one.waits y way)
      ∙ append_assoc (waiting_at old to y) (one.lines y) (two.lines y);
  bytes = λ y q link opened.
      let parts = or_parts (is_closed_by q a) (is_closed_by q b)
      (sym (is_closed_by-append q a b) ∙ opened) in
      ends_both (one.lines y) (two.lines y)
      ∙ ap (λ bs. bs ++ with_ends (two.lines y)) (one.bytes y q link parts.0)
      ∙ ap (λ bs. answers q a ++ bs) (two.bytes y q link parts.1)
      ∙ sym (answers_both q a b parts.0);
  others = λ x other. two.others x other ∙ one.others x other;
  keeps = keeps_both old mid new one.keeps two.keeps;
  come = λ client. two.come client ∙ one.come client;
  gets = λ client q seat has.
      two.gets client q seat (one.come client ∙ has)
      ∙ ap (λ bs. bs ++ answers q b) (one.gets client q seat has)
      ∙ append_assoc (bytes_received old client) (answers q a) (answers q b)
      ∙ ap (λ bs. bytes_received old client ++ bs)
      (same_answers q a b (quiet_then numbers own between last events more a b one.clients
      two.clients client q seat));
  gets_nothing = λ client none has. two.gets_nothing client none (one.come client ∙ has)
      ∙ one.gets_nothing client none has;
  clients = serves_both numbers own between last events more a b one.clients two.clients;
}

-- a line of the link, or no line at all
pub data IsToldOf (conn : ℕ) (event : Event) : Type 0 where
  its_line : (line : ArrayVec ℕ) → event ≡ LinkLine conn line → IsToldOf conn event
  no_line : is_link_line event ≡ false → line_by conn event ≡ [] → IsToldOf conn event

-- ---- one line

module _ (lines_end : ServedLinesEnd) (own_law : ServedGoesToItsOwn) (stay : ClientsStay)
    (alike_law : ServedAlike) (numbers : Numbers) (apart : AreApart numbers)
    (from to conn : ℕ) (is_link : numbers.link from ≡ Some conn)
  where
    module _ (line : ArrayVec ℕ) (own other : View)
        (progress : Progress Network) (alike : AreServersAlike numbers own other)
        (at : server_at progress.state to ≡ Some (Some other)) where
      abbrev it : ReadEvent
      it = link_says conn (read_of line.items)

      abbrev there : ReadEvent
      there = link_says from (read_of line.items)

      abbrev mine : Served
      mine = reply own it

      abbrev theirs : Served
      theirs = reply other there

      said : ServeAlike numbers own it other there
      said = alike_law numbers own other there conn apart alike is_link

      here : Replies to theirs.state (λ y. bodies y theirs.out) progress.state
          (heard from to progress line.items).state
      here = heard_replies from to line.items other progress at

      gets_it : Gets (λ q. client_bytes q theirs.out) progress.state
          (heard from to progress line.items).state
      gets_it = heard_gets from to line.items other progress at

      no_client : (client : ℕ) → numbers.client client ≡ None
          → is_some (get other.clients client) ≡ false
      no_client client none =
          ap is_some (alike.alike.clients client ∙ ap (option_and_then (get own.clients)) none)

      serves_it : ServesClients numbers own mine.state (LinkLine conn line ∷ []) mine.out
      serves_it = record {
        silent = λ client q seat none.
            nothing_answered own_law own it alike.ends_count q refl none
            (no_client_end numbers own other apart alike client q seat);
        still = λ client q seat is.
            let known = still_there own_law own it alike.ends_count stay q refl
            (no_client_end numbers own other apart alike client q seat) is in record {
              was = or_first (is_some (get own.clients q)) (client_comes q it) refl known.was;
              not_closed = known.not_closed;
              not_gone = refl;
            };
      }

      keeps_it : KeepsHomes progress.state (heard from to progress line.items).state
      keeps_it =
          let keeps =
          asked_keeps to there (record progress { state = line_counted progress.state }) in
          record {
            names = keeps.names;
            homes = keeps.homes;
            inboxes = keeps.inboxes;
          }

      listens_one : Listens to numbers own mine.state
          (LinkLine conn line ∷ []) mine.out progress.state
          (heard from to progress line.items).state
      listens_one = record {
        state = theirs.state;
        alike = said.views;
        server = here.server;
        lines = λ y. bodies y theirs.out;
        ways = here.ways;
        waits = here.waits;
        bytes = λ y q link opened. bodies_are y theirs.out (reply_ends lines_end other there)
            ∙ sym (said.say.on_links y q link opened);
        others = here.others;
        keeps = keeps_it;
        come = gets_it.come;
        gets = λ client q seat has.
            gets_it.more client has ∙ ap (λ bs. bytes_received progress.state client ++ bs)
            (sym (said.say.to_clients client q seat));
        gets_nothing = λ client none has.
            gets_it.more client has
            ∙ ap (λ bs. bytes_received progress.state client ++ bs)
            (nobody_gets own_law other there (other_ends numbers own other alike) client
            (no_client client none))
            ∙ append-nil (bytes_received progress.state client);
        clients = serves_it;
      }

    -- ---- events one after another: lines of the link

    abbrev pub Listening : List Event → Type 0
    Listening events = (old new : ServerAsked) (outs : List Sent) (own last other : View)
        (progress : Progress Network) (asked : AreAsked old events outs new)
        → old.server ≡ Some own → new.server ≡ Some last → has_item events ≡ false
        → AllByRecursion (IsToldOf conn) events
        → AreServersAlike numbers own other → server_at progress.state to ≡ Some (Some other)
        → Listens to numbers own last events outs progress.state
        (all_heard from to progress (lines_by conn events)).state

    hears_none : Listening []
    hears_none old new outs own last other progress asked was is no_item told alike at =
        let same : own ≡ last =
        same_Some own last (sym was ∙ ap (λ (a : ServerAsked). a.server) (sym asked.1) ∙ is) in
        subst (λ os. Listens to numbers own last [] os progress.state progress.state) (sym asked.0)
        (subst (λ v. Listens to numbers own v [] [] progress.state progress.state) same
        (listens_none to numbers own other progress.state alike at))

    module _ (event : Event) (events : List Event) (later : Listening events)
        (old new : ServerAsked)
        (outs : List Sent) (own last other : View) (progress : Progress Network)
        (asked : AreAsked old (event ∷ events) outs new) (was : old.server ≡ Some own)
        (is : new.server ≡ Some last)
        (no_item : has_item (event ∷ events) ≡ false)
        (told : AllByRecursion (IsToldOf conn) (event ∷ events))
        (alike : AreServersAlike numbers own other)
        (at : server_at progress.state to ≡ Some (Some other))
      where
        -- what the others make of a network
        abbrev heard_then : Progress Network → Network
        heard_then c = (all_heard from to c (lines_by conn events)).state

        no_item_then : has_item events ≡ false
        no_item_then = (or_parts (not (is_link_line event)) (has_item events) no_item).1

        as_outs : (net : Network) → Listens to numbers own last
            (event ∷ events) (asked.first ++ asked.more) progress.state net
            → Listens to numbers own last (event ∷ events) outs progress.state net
        as_outs net listens = subst (λ os. Listens to numbers own last
            (event ∷ events) os progress.state net) (sym asked.outs_are) listens

        -- it is a line of the link
        heard_line : (line : ArrayVec ℕ) → event ≡ LinkLine conn line → Listens to numbers own last
            (event ∷ events) (asked.first ++ asked.more) progress.state
            (heard_then (heard from to progress line.items))
        heard_line line event_is =
            let took_it =
            took own event old.server asked.between.server asked.first was asked.is_handled in
            let server_is =
            took_it.server_is ∙ ap (λ e. Some (reply own (read_event_of e)).state) event_is in
            let first_is =
            took_it.first_is ∙ ap (λ e. (reply own (read_event_of e)).out) event_is in
            let one = listens_one line own other progress alike at in
            let mine : Served = reply own (link_says conn (read_of line.items)) in
            let two = later asked.between new asked.more mine.state last one.state
            (heard from to progress line.items) asked.rest_is server_is is no_item_then told.1
            one.alike one.server in
            subst (λ e. Listens to numbers own last (e ∷ events) (asked.first
            ++ asked.more) progress.state (heard_then (heard from to progress line.items)))
            (sym event_is)
            (subst
            (λ os. Listens to numbers own last (LinkLine conn line ∷ events)
            (os ++ asked.more) progress.state (heard_then (heard from to progress line.items)))
            (sym first_is)
            (listens_both to numbers own mine.state last (LinkLine conn line ∷ []) events mine.out
            asked.more progress.state (heard from to progress line.items).state
            (heard_then (heard from to progress line.items)) one two))

        hears_more : Listens to numbers own last (event ∷ events) outs progress.state
            (all_heard from to progress (lines_by conn (event ∷ events))).state
        hears_more = by told.0
          where
            first_line : (line : ArrayVec ℕ) → event ≡ LinkLine conn line
                → lines_by conn (event ∷ events) ≡ line.items ∷ lines_by conn events
            first_line line event_is =
                ap (λ e. line_by conn e ++ lines_by conn events) event_is
                ∙ ap (λ b. (if b then line.items ∷ [] else []) ++ lines_by conn events)
                (eq-eqb conn conn refl)

            by : IsToldOf conn event
                → Listens to numbers own last (event ∷ events) outs progress.state
                (all_heard from to progress (lines_by conn (event ∷ events))).state
            by (its_line line event_is) =
                subst (λ lines. Listens to numbers own last (event ∷ events) outs progress.state
                (all_heard from to progress lines).state) (sym (first_line line event_is))
                (as_outs (heard_then (heard from to progress line.items))
                (heard_line line event_is))
            by (no_line not_line none) =
                cc (sym (ap (λ b. not b || has_item events) not_line) ∙ no_item)

    pub listening : (events : List Event) → Listening events
    listening [] = hears_none
    listening (event ∷ events) =
        λ old new outs own last other progress asked was is no_item told alike at.
        hears_more event events
        (listening events) old new outs own last other progress asked was is no_item told alike at

-- ---- what was put out is written

module _ (to : ℕ) (numbers : Numbers) (own last : View) (events : List Event) (outs : List Sent)
    (mid : ByteNetwork) (heard_net : Network) (tidy : IsTidy mid)
    (ways_are : (y : ℕ) → has_way mid.network to y ≡ is_some (numbers.link y))
    (listens : Listens to numbers own last events outs mid.network heard_net)
    (is_so : IsWritten heard_net mid.pipes (queues_written heard_net mid.pipes))
  where
    abbrev now : ByteNetwork
    now = queues_written heard_net mid.pipes

    waits_there : (x y : ℕ) → nat_eq x to ≡ false → waiting_at heard_net x y ≡ []
    waits_there x y two = ap (λ o. option_map_or (λ (node : Node). waiting node y) o [])
        (listens.others x two) ∙ tidy.quiet x y

    waits_here : (y q : ℕ) → numbers.link y ≡ Some q → waiting_at heard_net to y ≡ listens.lines y
    waits_here y q link = listens.waits y (ways_are y ∙ ap is_some link)
        ∙ ap (λ ls. ls ++ listens.lines y) (tidy.quiet to y)

    ways_at : (x y : ℕ) (b : Bool) → nat_eq x to ≡ b
        → has_way heard_net x y ≡ has_way mid.network x y
    ways_at x y true one =
        ap (λ n. has_way heard_net n y) (eqb-true x to one) ∙ listens.ways y
        ∙ ap (λ n. has_way mid.network n y) (sym (eqb-true x to one))
    ways_at x y false two =
        ap (λ o. is_some (option_and_then (λ (node : Node). get node.queues y) o))
        (listens.others x two)

    pub listened : Went to numbers last outs mid now
    listened = record {
      state = listens.state;
      alike = listens.alike;
      server = emptied_server heard_net to ∙ listens.server;
      others = λ x two. emptied_server heard_net x
          ∙ ap (option_map (λ (s : Node). s.server)) (listens.others x two);
      ways = λ x y. emptied_ways heard_net x y ∙ ways_at x y (nat_eq x to) refl;
      pipes_there = λ x y two. is_so.pipes_are x y
          ∙ ap (λ ls. all_written ls (pipe_at mid.pipes x y)) (waits_there x y two);
      no_way = λ y none.
          is_so.pipes_are to y
          ∙ ap (λ ls. all_written ls (pipe_at mid.pipes to y))
          (no_way_waits heard_net to y (listens.ways y ∙ ways_are y ∙ ap is_some none));
      pipes_here = λ y q link opened.
          is_so.pipes_are to y
          ∙ ap (λ ls. all_written ls (pipe_at mid.pipes to y)) (waits_here y q link)
          ∙ written_all (listens.lines y) (pipe_at mid.pipes to y)
          ∙ ap (λ bs. pipe_behind bs (pipe_at mid.pipes to y)) (listens.bytes y q link opened);
      tidy = record { quiet = emptied_waits heard_net; rows = is_so.rows; lean = is_so.lean };
      keeps = record {
        names = listens.keeps.names;
        homes = listens.keeps.homes;
        inboxes = listens.keeps.inboxes;
      };
      come = λ client. come_of_nodes heard_net now.network refl client ∙ listens.come client;
      gets = λ client q seat has. bytes_of_nodes heard_net now.network refl client
          ∙ listens.gets client q seat has;
      gets_nothing = λ client none has. bytes_of_nodes heard_net now.network refl client
          ∙ listens.gets_nothing client none has;
    }
