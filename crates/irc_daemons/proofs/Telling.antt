-- A server is told of one of its links, and of nothing else in a turn: a network of which one is
-- asked the same is as these daemons.
use Rattle.std.proofs.Common.{◌≡◌, ℕ, Bool, true, false, not, ◌||◌, ◌&&◌, nat_eq, is_some, Option}
use Rattle.std.proofs.Common.{Some, None, List, [], ◌∷◌, ◌++◌, append-nil, refl, sym, ◌∙◌, ap}
use Rattle.std.proofs.Common.{subst, option_map, length, if◌then◌else◌}
use Rattle.std.proofs.Math.Path.{fun_ext}
use Rattle.std.proofs.lemmas.Bool.{eq-eqb, eqb-true}
use Rattle.std.specs.FinMap.{get}
use Rattle.std.specs.List.{AllByRecursion, slice_get}
use Rattle.std.specs.Option.{option_and_then}
use Rattle.std.proofs.lemmas.Option.{same_Some}
use Rattle.irc_names.specs.Lemmas.PlainFacts.{or_first, nat_eq-turned}
use Rattle.irc_line.specs.Laws.{PiecesCompleteTheSame}
use Rattle.irc_outbox.specs.Calls.{Call}
use Rattle.irc_batch.specs.Batches.{Sent}
use Rattle.irc_relay.specs.Links.{Name}
use Rattle.irc_server.specs.declared.event.Event.{Event}
use Rattle.irc_server.specs.declared.event.Event.TheVariants.{Connect, LinkDown, LinkUp}
use Rattle.irc_server.specs.ReadEvents.{read_event_of}
use Rattle.irc_server.specs.Served.{ReadEvent, fault_of, link_down, link_there, served}
use Rattle.irc_server.specs.Connected.{WhoIsConnected, client_comes, is_link_ended, link_comes}
use Rattle.irc_server.specs.LineEnds.{ServedLinesEnd}
use Rattle.irc_server.specs.Own.{ServedGoesToItsOwn}
use Rattle.irc_stage.specs.Ways.{AreEnds}
use Rattle.irc_stage.specs.View.{End, View}
use Rattle.irc_network.specs.Node.{Served, reply, serves_read_event}
use Rattle.irc_world.specs.Stepping.{Item}
use Rattle.irc_world.specs.World.{home_in}
use Rattle.irc_network.specs.Network.{Node, begun, item_kept, node_asked, node_at}
use Rattle.irc_pipes.specs.Pipes.{LinkPipe, new_pipe, pipe_at}
use Rattle.irc_network.specs.ByteNetwork.{ByteNetwork, queues_written}
use Rattle.irc_network.specs.Whole.{IsTidy, has_way}
use Rattle.irc_engine.specs.declared.connection_table.Connection.{Connection}
use Rattle.irc_engine.specs.declared.kind.ConnectionKind.TheVariants as kinds
use Rattle.irc_engine.specs.Carrying.{fresh_connection, is_open_at, open_kind_at}
use Rattle.irc_engine.specs.Hearing.{begun_at}
use Rattle.irc_engine.specs.Running.{AreAsked, ServerAsked, IsNews, Moment, a_line, an_end}
use Rattle.irc_engine.specs.Running.{asked_at}
use Rattle.irc_daemons.specs.Alike.{AreApart, AreServersAlike, AreServersAlikeIf, Numbers}
use Rattle.irc_daemons.specs.Alike.{ServedAlike, happens_at, renumbered}
use Rattle.irc_engine.specs.EngineView.{EngineView}
use Rattle.irc_daemons.specs.AsBytes.{IsServerIf, numbers_at}
use Rattle.irc_daemons.specs.AsNetwork.{AreReceived, AreSeated, IsAsNetwork}
use Rattle.irc_daemons.specs.Clients.{ClientsStay}
use Rattle.irc_daemons.specs.Daemons.{AreJoined, Daemons, connection_at, connection_in, end_at}
use Rattle.irc_daemons.specs.Daemons.{unsent, pipe_between}
use Rattle.irc_daemons.specs.Doings.{Doings, taken_at}
use Rattle.irc_daemons.specs.Receiving.{bytes_received}
use Rattle.irc_daemons.specs.Steps.{came_after, seats_after}
use Rattle.irc_daemons.specs.Tellings.{TellsEnd, LinkTidings, end_before, end_by, end_set, event_of}
use Rattle.irc_daemons.specs.Tellings.{is_lost, is_up, is_way_by, linked_by, read_event_by}
use Rattle.irc_daemons.proofs.Asked.{ServesClients, is_left, took}
use Rattle.irc_daemons.proofs.Assembly.{IsEndBegun, assembled, begin, begins_same, begun_before}
use Rattle.irc_daemons.proofs.Assembly.{did_all, first, incoming_stays, mid_moment, newcomer, outs}
use Rattle.irc_daemons.proofs.Assembly.{part, second, start, taken_is}
use Rattle.irc_daemons.proofs.Given.{AreThen, Went, asked_went, bytes_of_nodes}
use Rattle.irc_daemons.proofs.Heard.{none_stays}
use Rattle.irc_daemons.proofs.Linking.{IsFree, SeatBefore, alike_lost, alike_up, end_elsewhere}
use Rattle.irc_daemons.proofs.Linking.{end_then, end_told, end_to_others, EndThen, is_old, is_told}
use Rattle.irc_daemons.proofs.Linking.{joined_by, numbers_by, seat_before, seat_elsewhere}
use Rattle.irc_daemons.proofs.Lists.{front_none, rest_none}
use Rattle.irc_daemons.proofs.Open.{IsOpenOf, open_of}
use Rattle.irc_daemons.proofs.ReadParts.{part_reads}
use Rattle.irc_daemons.proofs.Sent.{server_at}
use Rattle.irc_daemons.proofs.Silence.{nothing_answered, still_there}
use Rattle.irc_daemons.proofs.Single.{HasServer, HasView, HaveViews, has_server, has_view}
use Rattle.irc_daemons.proofs.Single.{have_views, same_pipe}
use Rattle.irc_daemons.proofs.Told.{begun_or_none}
use Rattle.irc_daemons.proofs.Turn.{BeginsWith, IsMade, came_of, client_comes as newcomer_comes}
use Rattle.irc_daemons.proofs.Turn.{link_comes as link_begins, nobody_comes}

-- ---- one event

pub asked_both : (events more : List Event) (old mid new : ServerAsked) (a b : List Sent)
    → AreAsked old events a mid → AreAsked mid more b new
    → AreAsked old (events ++ more) (a ++ b) new
asked_both [] more old mid new a b one two =
    subst (λ (o : ServerAsked). AreAsked o more (a ++ b) new) one.1
    (subst (λ (os : List Sent). AreAsked mid more (os ++ b) new) (sym one.0) two)
asked_both (event ∷ events) more old mid new a b one two = record {
  between = one.between;
  first = one.first;
  more = one.more ++ b;
  is_handled = one.is_handled;
  is_noted = one.is_noted;
  outs_are = ap (λ os. os ++ b) one.outs_are ∙ append_three one.first one.more b;
  rest_is = asked_both events more one.between mid new one.more b one.rest_is two;
}
  where
    append_three : (xs ys zs : List Sent) → (xs ++ ys) ++ zs ≡ xs ++ (ys ++ zs)
    append_three [] ys zs = refl
    append_three (x ∷ xs) ys zs = ap (λ l. x ∷ l) (append_three xs ys zs)

-- the server has served it, and nothing else
pub record TookOne (own : View) (event : Event) (new : ServerAsked)
    (outs : List Sent) : Type 0 where
  pub none : fault_of own event ≡ None
  pub server_is : new.server ≡ Some (reply own (read_event_of event)).state
  pub outs_are : outs ≡ (reply own (read_event_of event)).out

pub took_one : (own : View) (event : Event) (old new : ServerAsked) (sent : List Sent)
    → old.server ≡ Some own → AreAsked old (event ∷ []) sent new → TookOne own event new sent
took_one own event old new sent was asked =
    let it = took own event old.server asked.between.server asked.first was asked.is_handled in
    record {
      none = it.none;
      server_is = ap (λ (a : ServerAsked). a.server) asked.rest_is.1 ∙ it.server_is;
      outs_are =
          asked.outs_are ∙ ap (λ os. asked.first ++ os) asked.rest_is.0 ∙ append-nil asked.first
          ∙ it.first_is;
    }

-- ---- a server that is the same at both

server_of : {W : Type 0} (numbers : Numbers) (engine : Option (EngineView W))
    (was now : Option Node) → option_map (λ (s : Node). s.server) now ≡ option_map
    (λ (s : Node). s.server) was → IsServerIf numbers engine was → IsServerIf numbers engine now
server_of numbers None None None same is = is
server_of numbers None None (Some node) same is = cc same
server_of numbers None (Some node) now same is = absurd is
server_of numbers (Some engine) None now same is = absurd is
server_of numbers (Some engine) (Some node) None same is = cc same
server_of numbers (Some engine) (Some node) (Some now) same is = record {
  in_order = is.in_order;
  framers = is.framers;
  servers = subst (λ o. AreServersAlikeIf numbers engine.now.server o)
      (sym (same_Some now.server node.server same)) is.servers;
}

-- ---- no line, and no end of a connection, tells that a link is up

abbrev is_up_event : Event → Bool
is_up_event (LinkUp link called) = true
is_up_event other = false

news_is_not_up : {W : Type 0} (now : Moment W) (event : Event) → IsNews now event
    → is_up_event event ≡ false
news_is_not_up now event (a_line kinds.Client conn text is_of is) = ap is_up_event is
news_is_not_up now event (a_line kinds.Link conn text is_of is) = ap is_up_event is
news_is_not_up now event (an_end kinds.Client conn is_of is) = ap is_up_event is
news_is_not_up now event (an_end kinds.Link conn is_of is) = ap is_up_event is

abbrev is_first_up : List Event → Bool
is_first_up [] = false
is_first_up (event ∷ events) = is_up_event event

-- all of them tell lines, or that connections are gone
abbrev AllNews : {W : Type 0} → Moment W → List Event → Type 0
AllNews now events = AllByRecursion (IsNews now) events

abbrev list_first : (Event → Bool) → List Event → Bool
list_first p [] = false
list_first p (event ∷ events) = p event

no_link : (o : Option End) → link_there o ≡ None → is_some o ≡ false
no_link None is = refl
no_link (Some end) is = cc is

-- ---- the turn

module _ {W : Type 0} (is_after : W → List Call → Type 0) (pieces : PiecesCompleteTheSame)
    (lines_end : ServedLinesEnd) (own_law : ServedGoesToItsOwn)
    (stay : ClientsStay) (connected : WhoIsConnected) (alike_law : ServedAlike) (names : List Name)
    (tidings : LinkTidings) (place other : ℕ)
    (old new : Daemons W) (telling : TellsEnd is_after tidings place other old new)
    (two : nat_eq place other ≡ false) (old_net : ByteNetwork)
    (same : IsAsNetwork names old old_net) (placed : (x y : ℕ) (name : Name)
    → slice_get names x ≡ Some name → slice_get names y ≡ Some name → x ≡ y)
  where
    abbrev conn : ℕ
    conn = telling.conn

    abbrev pub base : Daemons W
    base = linked_by tidings place other conn old

    here : HasServer (numbers_at old place) telling.step.engine (node_at old_net.network place)
    here =
        has_server (numbers_at old place) telling.step.engine (node_at old_net.network place)
        (subst (λ o. IsServerIf (numbers_at old place) o (node_at old_net.network place))
        telling.step.at (same.as_bytes.servers place))

    not_itself : (x : ℕ) → base.ends x x ≡ None
    not_itself x = by (base.ends x x) refl
      where
        by_end : (q : ℕ) → EndThen old place other (end_by tidings conn) x x q → Some q ≡ None
        by_end q (is_told one there end) = cc (sym two ∙ eq-eqb place other (sym one ∙ there))
        by_end q (is_old apart was) = cc (sym (same.are_joined.not_itself x) ∙ was)

        by : (o : Option ℕ) → base.ends x x ≡ o → o ≡ None
        by None is = refl
        by (Some q) is = by_end q (end_then old place other (end_by tidings conn) x x q is)

    -- ---- the moments of the turn

    abbrev started : Moment W
    started = start is_after pieces names place base new telling.step not_itself same.clients_open
        here.of.in_order here.of.framers

    abbrev begun_now : Moment W
    begun_now = begin is_after pieces names place base new telling.step not_itself same.clients_open
        here.of.in_order here.of.framers

    abbrev mid : Moment W
    mid = mid_moment is_after pieces names place base new telling.step not_itself same.clients_open
        here.of.in_order here.of.framers

    abbrev end : Moment W
    end = telling.step.after.now

    abbrev comes : Option ℕ
    comes = newcomer is_after pieces names place base new telling.step not_itself same.clients_open
        here.of.in_order here.of.framers

    abbrev given : List Event
    given = (part is_after pieces names place base new telling.step not_itself same.clients_open
        here.of.in_order here.of.framers).given

    abbrev came : ℕ → List ℕ
    came = (part is_after pieces names place base new telling.step not_itself same.clients_open
        here.of.in_order here.of.framers).came

    abbrev begins : BeginsWith started begun_now given comes
    begins = (part is_after pieces names place base new telling.step not_itself same.clients_open
        here.of.in_order here.of.framers).begins

    abbrev first_events : List Event
    first_events = (first is_after pieces names place base new telling.step not_itself
        same.clients_open here.of.in_order here.of.framers).events

    abbrev second_events : List Event
    second_events = (second is_after pieces names place base new telling.step not_itself
        same.clients_open here.of.in_order here.of.framers).events

    abbrev all_outs : List Sent
    all_outs = outs is_after pieces names place base new telling.step not_itself same.clients_open
        here.of.in_order here.of.framers

    abbrev event : Event
    event = event_of tidings conn

    events_are : (given ++ first_events) ++ second_events ≡ event ∷ []
    events_are =
        sym (ap (λ (d : Doings). d.events) (did_all is_after pieces names place base new
        telling.step not_itself same.clients_open here.of.in_order here.of.framers))
        ∙ telling.told

    asked_all : AreAsked (asked_at begun_now) ((given ++ first_events) ++ second_events) all_outs
        (asked_at end)
    asked_all =
        asked_both (given ++ first_events) second_events (asked_at begun_now) (asked_at mid)
        (asked_at end)
        (first is_after pieces names place base new telling.step not_itself same.clients_open
        here.of.in_order here.of.framers).outs
        (second is_after pieces names place base new telling.step not_itself same.clients_open
        here.of.in_order here.of.framers).outs
        (first is_after pieces names place base new telling.step not_itself same.clients_open
        here.of.in_order here.of.framers).are_asked
        (second is_after pieces names place base new telling.step not_itself same.clients_open
        here.of.in_order here.of.framers).are_asked

    asked_one : AreAsked (asked_at begun_now) (event ∷ []) all_outs (asked_at end)
    asked_one =
        subst (λ es. AreAsked (asked_at begun_now) es all_outs (asked_at end)) events_are asked_all

    -- ---- the servers

    last : HasView end.server
    last = has_view end.server telling.step.has_server

    own : HasView begun_now.server
    own = by begun_now.server refl
      where
        by : (o : Option View) → begun_now.server ≡ o → HasView begun_now.server
        by None is = cc (sym last.is
            ∙ none_stays (event ∷ []) (asked_at begun_now) (asked_at end) all_outs is asked_one)
        by (Some view) is = record { state = view; is = is }

    own_start : started.server ≡ Some own.state
    own_start = by begins
      where
        by : BeginsWith started begun_now given comes → started.server ≡ Some own.state
        by (nobody_comes as_it_was none is) = ap (λ (m : Moment W). m.server) (sym as_it_was)
            ∙ own.is
        by (newcomer_comes room which host made is it) = sym made.server ∙ own.is
        by (link_begins room which called made is it) = sym made.server ∙ own.is

    views : HaveViews (numbers_at old place) started.server here.node.server own.state
    views = have_views
        (numbers_at old place) started.server here.node.server own.state own_start here.of.servers

    abbrev theirs : View
    theirs = views.theirs

    server_at_place : server_at old_net.network place ≡ Some (Some theirs)
    server_at_place = ap (option_map (λ (s : Node). s.server)) here.at ∙ ap Some views.is

    it_took : TookOne own.state event (asked_at end) all_outs
    it_took = took_one own.state event (asked_at begun_now) (asked_at end) all_outs own.is asked_one

    abbrev read_event : ReadEvent
    read_event = read_event_by tidings other

    abbrev mine : Served
    mine = reply own.state (read_event_of event)

    is_it : (t : LinkTidings)
        → read_event_of (event_of t conn) ≡ renumbered conn (read_event_by t other)
    is_it (is_up called) = refl
    is_it is_lost = refl

    last_is : last.state ≡ mine.state
    last_is = same_Some last.state mine.state (sym last.is ∙ it_took.server_is)

    own_clients : (q : ℕ) → is_some (get own.state.clients q) ≡ true
        → open_kind_at (started.connections q) ≡ Some kinds.Client
    own_clients q there =
        same.clients_open place telling.step.engine telling.step.at own.state q own_start there

    some_of_open : (connection : Option Connection) → is_open_at connection ≡ true
        → is_some connection ≡ true
    some_of_open None opened = cc opened
    some_of_open (Some connection) opened = refl

    old_link : (y q : ℕ) → old.ends place y ≡ Some q → IsOpenOf kinds.Link (started.connections q)
    old_link y q is =
        open_of kinds.Link (started.connections q)
        (ap (λ o. open_kind_at (connection_in o q)) (sym telling.step.at)
        ∙ same.are_joined.are_open place y q is)

    begins_as : (q : ℕ) → is_some (started.connections q) ≡ true
        → begun_now.connections q ≡ started.connections q
    begins_as = begins_same is_after pieces names place base new telling.step not_itself
        same.clients_open here.of.in_order here.of.framers

    abbrev IsBegun : ℕ → Type 0
    IsBegun q = IsEndBegun is_after pieces names place base new telling.step not_itself
        same.clients_open here.of.in_order here.of.framers q

    old_begun : (q : ℕ) → IsOpenOf kinds.Link (started.connections q) → IsBegun q
    old_begun q link = begun_before is_after pieces names place base new telling.step not_itself
        same.clients_open here.of.in_order here.of.framers q link

    -- ---- who has begun

    -- where a link is up its connection has just been made
    record IsFresh : Type 0 where
      room : ℕ
      called : Option Name
      made : IsMade kinds.Link room conn started begun_now
      nobody : comes ≡ None
      unread : (q : ℕ) → came q ≡ []

    not_up : (one more : List Event) → AllNews begun_now one → AllNews mid more
        → is_first_up (one ++ more) ≡ false
    not_up [] [] news others = refl
    not_up [] (e ∷ more) news others = news_is_not_up mid e others.0
    not_up (e ∷ one) more news others = news_is_not_up begun_now e news.0

    first_news : AllNews begun_now first_events
    first_news = (first is_after pieces names place base new telling.step not_itself
        same.clients_open here.of.in_order here.of.framers).are_news

    second_news : AllNews mid second_events
    second_news = (second is_after pieces names place base new telling.step not_itself
        same.clients_open here.of.in_order here.of.framers).are_news

    given_front : (given_is : List Event) → given ≡ given_is
        → is_first_up ((given_is ++ first_events) ++ second_events) ≡ is_first_up (event ∷ [])
    given_front given_is is = ap (λ g. is_first_up ((g ++ first_events) ++ second_events)) (sym is)
        ∙ ap is_first_up events_are

    fresh : (called : Option Name) → tidings ≡ is_up called → IsFresh
    fresh called up = by begins
      where
        first_is_up : (given_is : List Event) → given ≡ given_is
            → is_first_up ((given_is ++ first_events) ++ second_events) ≡ true
        first_is_up given_is is =
            given_front given_is is ∙ ap (λ t. is_up_event (event_of t conn)) up

        nothing_read : (q : ℕ) (link : ℕ) (name : Option Name) → given ≡ LinkUp link name ∷ []
            → came q ≡ []
        nothing_read q link name is =
            came_of is_after telling.step.engine.sizes telling.step.turn.report started mid
            telling.step.turn.does.answers q
            (λ report. none_given
            (part_reads is_after telling.step.engine.sizes telling.step.turn.report started
            mid telling.step.turn.does.answers q report).given_is)
          where
            none_given : given ≡ [] → ⊥
            none_given none = cc (sym none ∙ is)

        link_of : Event → ℕ
        link_of (LinkUp link name) = link
        link_of other = conn

        its : (room link : ℕ) (name : Option Name) → IsMade kinds.Link room link started begun_now
            → given ≡ LinkUp link name ∷ [] → comes ≡ None → IsFresh
        its room link name made is none =
            let same_event : LinkUp link name ≡ event =
            ap (λ es. first_or event es) (ap (λ g. (g ++ first_events) ++ second_events) (sym is)
            ∙ events_are) in
            let same_link : link ≡ conn =
            ap link_of same_event ∙ ap (λ t. link_of (event_of t conn)) up in record {
              room = room;
              called = name;
              made = subst (λ n. IsMade kinds.Link room n started begun_now) same_link made;
              nobody = none;
              unread = λ q. nothing_read q link name is;
            }
          where
            first_or : Event → List Event → Event
            first_or e [] = e
            first_or e (one ∷ more) = one

        by : BeginsWith started begun_now given comes → IsFresh
        by (nobody_comes as_it_was none is) =
            cc (sym (not_up first_events second_events first_news second_news)
            ∙ first_is_up [] none)
        by (newcomer_comes room which host made is it) =
            cc (first_is_up (Connect which host ∷ []) is)
        by (link_begins room link name made is it) = its room link name made is it

    -- where it is lost nobody comes
    record IsNobody : Type 0 where
      as_it_was : begun_now ≡ started
      nobody : comes ≡ None

    nobody_new : tidings ≡ is_lost → IsNobody
    nobody_new lost = by begins
      where
        is_end : Event → Bool
        is_end (LinkDown link) = true
        is_end other = false

        first_end : (given_is : List Event) → given ≡ given_is
            → list_first is_end ((given_is ++ first_events) ++ second_events) ≡ true
        first_end given_is is =
            ap (λ g. list_first is_end ((g ++ first_events) ++ second_events)) (sym is)
            ∙ ap (list_first is_end) events_are
            ∙ ap (λ t. is_end (event_of t conn)) lost

        by : BeginsWith started begun_now given comes → IsNobody
        by (nobody_comes as_it_was none is) = record { as_it_was = as_it_was; nobody = is }
        by (newcomer_comes room which host made is it) = cc (first_end (Connect which host ∷ []) is)
        by (link_begins room link name made is it) = cc (first_end (LinkUp link name ∷ []) is)

    -- ---- numbers

    fault_none : fault_of own.state event ≡ None
    fault_none = it_took.none

    no_end_up : (t : LinkTidings) → is_way_by t ≡ true → fault_of own.state (event_of t conn) ≡ None
        → is_some (get own.state.ends conn) ≡ false
    no_end_up (is_up called) up none = no_link (get own.state.ends conn) none
    no_end_up is_lost up none = cc up

    free_conn : IsFresh → started.connections conn ≡ None
    free_conn it = it.made.free

    not_both : (o : Option Connection) → o ≡ None → is_open_at o ≡ true → ⊥
    not_both o none opened = cc (sym (ap is_open_at none) ∙ opened)

    no_client_up : IsFresh → is_some (get own.state.clients conn) ≡ false
    no_client_up it = by (is_some (get own.state.clients conn)) refl
      where
        by : (b : Bool) → is_some (get own.state.clients conn) ≡ b → b ≡ false
        by true is = absurd (not_both (started.connections conn) it.made.free
            (open_of kinds.Client (started.connections conn) (own_clients conn is)).is_open)
        by false is = refl

    -- no link has the number of one that is made
    free_of : (t : LinkTidings) → tidings ≡ t → IsFree old place other conn two same.are_joined t
    free_of is_lost is y q up link = cc up
    free_of (is_up called) is y q up link = by (nat_eq q conn) refl
      where
        by : (b : Bool) → nat_eq q conn ≡ b → b ≡ false
        by true one =
            absurd (not_both (started.connections conn) (fresh called is).made.free
            (ap (λ n. is_open_at (started.connections n)) (sym (eqb-true q conn one))
            ∙ (old_link y q link).is_open))
        by false apart = refl

    seats_then : new.seats ≡ base.seats
    seats_then = telling.step.seats_are ∙ ap (seats_after base place) (none_comes tidings refl)
      where
        none_comes : (t : LinkTidings) → tidings ≡ t → comes ≡ None
        none_comes (is_up called) is = (fresh called is).nobody
        none_comes is_lost is = (nobody_new is).nobody

    joined_now : AreJoined new
    joined_now =
        joined_by old place other conn two same.are_joined tidings new
        (free_of tidings refl) telling.step.same_ends telling.step.same_ways seats_then
        telling.stay

    abbrev numbers_old : Numbers
    numbers_old = numbers_at old place

    abbrev numbers_base : Numbers
    numbers_base = numbers_by old place other conn own.state theirs tidings

    base_is_new : numbers_base ≡ numbers_at new place
    base_is_new =
        λ i. record { link = sym telling.step.same_ends i place; client = sym seats_then i place }

    -- the numbers under which the server is asked: those before where a link is lost, those behind
    -- where one is made
    record IsAskedBy (t : LinkTidings) (by : Numbers) : Type 0 where
      apart : AreApart by
      alike : AreServersAlike by own.state theirs
      happens : happens_at by (read_event_by t other) ≡ Some conn
      links : (y q : ℕ) → (numbers_by old place other conn own.state theirs t).link y ≡ Some q
          → by.link y ≡ Some q
      clients : (client : ℕ) → (numbers_by old place other conn own.state theirs t).client client
          ≡ by.client client
      alike_then : AreServersAlike by (reply own.state (renumbered conn
          (read_event_by t other))).state (reply theirs (read_event_by t other)).state
          → AreServersAlike (numbers_by old place other conn own.state theirs t)
          (reply own.state (renumbered conn (read_event_by t other))).state
          (reply theirs (read_event_by t other)).state

    record AskedBy (t : LinkTidings) : Type 0 where
      numbers : Numbers
      is : IsAskedBy t numbers

    apart_old : AreApart numbers_old
    apart_old = record {
      links = same.are_joined.apart place;
      clients = same.are_joined.one_seat place;
      kinds = same.are_joined.no_client place;
    }

    apart_new : AreApart (numbers_at new place)
    apart_new = record {
      links = joined_now.apart place;
      clients = joined_now.one_seat place;
      kinds = joined_now.no_client place;
    }

    -- whose link is lost has no end for it any more
    lost_end : WhoIsConnected → (view : View)
        → is_some (get (reply view (link_down conn)).state.ends conn) ≡ false
    lost_end law view = by (serves_read_event view (link_down conn)) refl
      where
        gone : (was new closed : Bool) → ((was || new) && not (true || closed)) ≡ false
        gone true new closed = refl
        gone false true closed = refl
        gone false false closed = refl

        replied : Bool → Served
        replied b =
            if b then record {
              state = (served view (link_down conn)).state;
              out = (served view (link_down conn)).out;
            } else record { state = view; out = [] }

        by : (b : Bool) → serves_read_event view (link_down conn) ≡ b
            → is_some (get (replied b).state.ends conn) ≡ false
        by true is =
            (law view (link_down conn) tt).links conn
            ∙ ap (λ b. (is_some (get view.ends conn) || false) && not (b || is_link_ended conn
            (served view (link_down conn)).out)) (eq-eqb conn conn refl)
            ∙ gone (is_some (get view.ends conn)) false
            (is_link_ended conn (served view (link_down conn)).out)
        by false is = is

    asked_by : (t : LinkTidings) → tidings ≡ t → AskedBy t
    asked_by (is_up called) is =
        let was : old.ends place other ≡ None = telling.was ∙ ap (λ t. end_before t conn) is in
        let no_end = no_end_up (is_up called) refl
        (ap (λ t. fault_of own.state (event_of t conn)) (sym is) ∙ fault_none) in
        let no_client = no_client_up (fresh called is) in
        let up = alike_up old place other conn own.state theirs called was no_end no_client in
        record {
          numbers = numbers_by old place other conn own.state theirs (is_up called);
          is = record {
            apart = subst AreApart (sym base_is_new
                ∙ ap (numbers_by old place other conn own.state theirs) is) apart_new;
            alike = up views.alike;
            happens = end_told old place other (Some conn);
            links = λ y q link. link;
            clients = λ client. refl;
            alike_then = λ alike. alike;
          };
        }
    asked_by is_lost is =
        let was : old.ends place other ≡ Some conn = telling.was ∙ ap (λ t. end_before t conn) is in
        record {
          numbers = numbers_old;
          is = record {
            apart = apart_old;
            alike = views.alike;
            happens = was;
            links = λ y q link. lost_was y q link;
            clients = λ client. refl;
            alike_then = λ alike.
                alike_lost old place other conn (reply own.state (link_down conn)).state
                (reply theirs (link_down other)).state was
                (lost_end connected own.state) alike;
          };
        }
      where
        lost_was : (y q : ℕ) → end_set old place other None place y ≡ Some q
            → old.ends place y ≡ Some q
        lost_was y q link = of (end_then old place other None place y q link)
          where
            of : EndThen old place other None place y q → old.ends place y ≡ Some q
            of (is_told one there none) = cc none
            of (is_old apart was) = was

    it_is_asked : AskedBy tidings
    it_is_asked = asked_by tidings refl

    -- ---- a network in which the two are linked, or no more, and nobody was asked yet

    module _ (mid_net : ByteNetwork)
        (servers_same : (x : ℕ) → server_at mid_net.network x ≡ server_at old_net.network x)
        (names_same : mid_net.network.names ≡ old_net.network.names)
        (homes_same : mid_net.network.homes ≡ old_net.network.homes)
        (received_same : mid_net.network.received ≡ old_net.network.received)
        (ways_mid : (x y : ℕ) → has_way mid_net.network x y ≡ base.ways x y)
        (pipes_same : (x y : ℕ) → pipe_at mid_net.pipes x y ≡ pipe_at old_net.pipes x y)
        (tidy_mid : IsTidy mid_net)
        (told_now : (y : ℕ) → base.ways place y ≡ is_some (base.ends place y))
        (still_in : tidings ≡ is_lost → (y : ℕ) → pipe_at old_net.pipes y place ≡ new_pipe)
        (still_out : tidings ≡ is_lost → pipe_at old_net.pipes place other ≡ new_pipe) (item : Item)
      where
        abbrev asked_net : ByteNetwork
        asked_net = queues_written
            (item_kept item (node_asked place read_event (begun mid_net.network))).state
            mid_net.pipes

        -- ---- pipes

        transit_still : tidings ≡ is_lost → (y : ℕ) → old.transit y place ≡ []
        transit_still lost y =
            front_none (old.transit y place) (unsent (end_at old y place))
            (ap (λ (w : LinkPipe). w.bytes) (sym (same.as_bytes.pipes y place) ∙ still_in lost y))

        record IsSameEnd : Type 0 where
          same_unsent : unsent (end_at old place other) ≡ unsent (end_at base place other)
          same_begun : begun_or_none (begun_at (end_at old place other))
              ≡ begun_or_none (begun_at (end_at base place other))

        end_base : end_at base place other ≡ option_and_then (connection_at old place)
            (end_by tidings conn)
        end_base = ap (option_and_then (connection_at old place))
            (end_told old place other (end_by tidings conn))

        end_old : end_at old place other ≡ option_and_then (connection_at old place)
            (end_before tidings conn)
        end_old = ap (option_and_then (connection_at old place)) telling.was

        same_end_by : (t : LinkTidings) → tidings ≡ t → IsSameEnd
        same_end_by (is_up called) is =
            let none : end_at old place other ≡ None = end_old
            ∙ ap (λ t. option_and_then (connection_at old place) (end_before t conn)) is in
            let free : end_at base place other ≡ None =
            end_base ∙ ap (λ t. option_and_then (connection_at old place) (end_by t conn)) is
            ∙ ap (λ o. connection_in o conn) telling.step.at
            ∙ (fresh called is).made.free in record {
              same_unsent = ap unsent (none ∙ sym free);
              same_begun = ap (λ o. begun_or_none (begun_at o)) (none ∙ sym free);
            }
        same_end_by is_lost is =
            let gone : end_at base place other ≡ None = end_base
            ∙ ap (λ t. option_and_then (connection_at old place) (end_by t conn)) is in record {
              same_unsent =
                  rest_none (old.transit place other) (unsent (end_at old place other))
                  (ap (λ (w : LinkPipe). w.bytes) (sym (same.as_bytes.pipes place other)
                  ∙ still_out is))
                  ∙ sym (ap unsent gone);
              same_begun =
                  ap (λ (w : LinkPipe). w.begun) (sym (same.as_bytes.pipes other place)
                  ∙ still_in is other)
                  ∙ sym (ap (λ o. begun_or_none (begun_at o)) gone);
            }

        same_end : IsSameEnd
        same_end = same_end_by tidings refl

        -- other ends are the same
        other_end : (x y : ℕ) → (x ≡ place → nat_eq y other ≡ false)
            → end_at base x y ≡ end_at old x y
        other_end x y apart = by (nat_eq x place) refl
          where
            by : (b : Bool) → nat_eq x place ≡ b → end_at base x y ≡ end_at old x y
            by true one =
                ap (option_and_then (connection_at old x))
                (ap (λ n. end_set old place other (end_by tidings conn) n y) (eqb-true x place one)
                ∙ end_to_others old place other (end_by tidings conn) y
                (apart (eqb-true x place one))
                ∙ ap (λ n. old.ends n y) (sym (eqb-true x place one)))
            by false away = ap (option_and_then (connection_at old x))
                (end_elsewhere old place other (end_by tidings conn) x y away)

        unsent_same : (x y : ℕ) → unsent (end_at old x y) ≡ unsent (end_at base x y)
        unsent_same x y = by (nat_eq x place) (nat_eq y other) refl refl
          where
            by : (a b : Bool) → nat_eq x place ≡ a → nat_eq y other ≡ b
                → unsent (end_at old x y) ≡ unsent (end_at base x y)
            by true true one there =
                subst (λ n. unsent (end_at old n y) ≡ unsent (end_at base n y))
                (sym (eqb-true x place one))
                (subst (λ n. unsent (end_at old place n) ≡ unsent (end_at base place n))
                (sym (eqb-true y other there)) same_end.same_unsent)
            by true false one there = sym (ap unsent (other_end x y (λ is. there)))
            by false b away there =
                sym (ap unsent (other_end x y (λ is. cc (sym (eq-eqb x place is) ∙ away))))

        begun_same : (x y : ℕ)
            → begun_or_none (begun_at (end_at old x y)) ≡ begun_or_none (begun_at (end_at base x y))
        begun_same x y = by (nat_eq x place) (nat_eq y other) refl refl
          where
            by : (a b : Bool) → nat_eq x place ≡ a → nat_eq y other ≡ b → begun_or_none
                (begun_at (end_at old x y)) ≡ begun_or_none (begun_at (end_at base x y))
            by true true one there =
                subst (λ n. begun_or_none (begun_at (end_at old n y))
                ≡ begun_or_none (begun_at (end_at base n y))) (sym (eqb-true x place one))
                (subst (λ n. begun_or_none (begun_at (end_at old place n)) ≡ begun_or_none
                (begun_at (end_at base place n))) (sym (eqb-true y other there))
                same_end.same_begun)
            by true false one there =
                sym (ap (λ o. begun_or_none (begun_at o)) (other_end x y (λ is. there)))
            by false b away there =
                sym (ap (λ o. begun_or_none (begun_at o))
                (other_end x y (λ is. cc (sym (eq-eqb x place is) ∙ away))))

        pipes_mid : (x y : ℕ) → pipe_at mid_net.pipes x y ≡ pipe_between base x y
        pipes_mid x y =
            pipes_same x y ∙ same.as_bytes.pipes x y
            ∙ same_pipe (begun_or_none (begun_at (end_at old y x))) (begun_or_none
            (begun_at (end_at base y x))) (old.transit x y ++ unsent (end_at old x y))
            (old.transit x y ++ unsent (end_at base x y)) (begun_same y x)
            (ap (λ bs. old.transit x y ++ bs) (unsent_same x y))

        -- ---- what is asked

        at_mid : server_at mid_net.network place ≡ Some (Some theirs)
        at_mid = servers_same place ∙ server_at_place

        abbrev as_asked : IsAskedBy tidings it_is_asked.numbers
        as_asked = it_is_asked.is

        mine_is : reply own.state (renumbered conn read_event) ≡ mine
        mine_is = ap (reply own.state) (sym (is_it tidings))

        numbers_are : AreThen place it_is_asked.numbers (reply own.state
            (renumbered conn read_event)).state (reply theirs read_event).state mid_net numbers_base
        numbers_are = record {
          links = as_asked.links;
          clients = as_asked.clients;
          alike = as_asked.alike_then;
          ways = λ y. ways_mid place y ∙ told_now y;
        }

        went_base : Went place numbers_base (reply own.state (renumbered conn read_event)).state
            (reply own.state (renumbered conn read_event)).out mid_net asked_net
        went_base =
            asked_went lines_end own_law alike_law place it_is_asked.numbers as_asked.apart
            own.state
            theirs read_event conn as_asked.happens as_asked.alike mid_net
            tidy_mid at_mid numbers_base numbers_are item

        went : Went place (numbers_at new place) last.state all_outs mid_net asked_net
        went =
            subst (λ n. Went place n last.state all_outs mid_net asked_net) base_is_new
            (subst (λ os. Went place numbers_base last.state os mid_net asked_net)
            (sym it_took.outs_are)
            (subst (λ v. Went place numbers_base v mine.out mid_net asked_net) (sym last_is)
            (subst (λ (r : Served). Went place numbers_base r.state r.out mid_net asked_net) mine_is
            went_base)))

        -- ---- whom it serves

        seat_was : (client q : ℕ) → new.seats place client ≡ Some q
            → SeatBefore old place other tidings conn place client q
        seat_was client q seat =
            seat_before old place other tidings conn place client q
            (ap (λ (f : ℕ → ℕ → Option ℕ). f place client) (sym seats_then) ∙ seat)

        not_new : (t : LinkTidings) → tidings ≡ t → (client q : ℕ) → new.seats place client ≡ Some q
            → link_comes q (read_event_of (event_of t conn)) ≡ false
        not_new is_lost is client q seat = refl
        not_new (is_up called) is client q seat =
            nat_eq-turned conn q ∙ (seat_was client q seat).free refl (ap is_way_by is)

        no_end : (client q : ℕ) → new.seats place client ≡ Some q
            → is_some (get own.state.ends q) ≡ false
        no_end client q seat = by (is_some (get own.state.ends q)) refl
          where
            by : (b : Bool) → is_some (get own.state.ends q) ≡ b → b ≡ false
            by true is =
                let among = views.alike.alike.no_other_end q is in
                absurd (same.are_joined.no_client place among.number client q among.is
                (seat_was client q seat).was)
            by false is = refl

        abbrev ends_count : AreEnds own.state.ends own.state.routes
        ends_count = views.alike.ends_count

        comes_none : (t : LinkTidings) (q : ℕ)
            → client_comes q (read_event_of (event_of t conn)) ≡ false
        comes_none (is_up called) q = refl
        comes_none is_lost q = refl

        left_none : (t : LinkTidings) (q : ℕ) → is_left q (event_of t conn) ≡ false
        left_none (is_up called) q = refl
        left_none is_lost q = refl

        serves_mine : ServesClients (numbers_at new place) own.state mine.state
            (event ∷ []) mine.out
        serves_mine = record {
          silent = λ client q seat none.
              nothing_answered own_law own.state (read_event_of event) ends_count q
              (not_new tidings refl client q seat) none (no_end client q seat);
          still = λ client q seat there.
              let known = still_there own_law own.state (read_event_of event) ends_count stay q
              (not_new tidings refl client q seat) (no_end client q seat) there
              in record {
                was = or_first (is_some (get own.state.clients q))
                    (client_comes q (read_event_of event)) (comes_none tidings q) known.was;
                not_closed = known.not_closed;
                not_gone = ap (λ b. b || false) (left_none tidings q);
              };
        }

        serves_all : ServesClients (numbers_at new place) own.state last.state
            ((given ++ first_events) ++ second_events) all_outs
        serves_all =
            subst (λ es. ServesClients (numbers_at new place) own.state last.state es all_outs)
            (sym events_are)
            (subst (λ os. ServesClients (numbers_at new place) own.state last.state (event ∷ []) os)
            (sym it_took.outs_are)
            (subst (λ v. ServesClients (numbers_at new place) own.state v (event ∷ []) mine.out)
            (sym last_is) serves_mine))

        own_open : (q : ℕ) → is_some (get own.state.clients q) ≡ true
            → open_kind_at (begun_now.connections q) ≡ Some kinds.Client
        own_open q there =
            let client = own_clients q there in
            ap open_kind_at (begins_as q (some_of_open (started.connections q)
            (open_of kinds.Client (started.connections q) client).is_open)) ∙ client

        -- ---- ends of links

        fresh_begun : (t : LinkTidings) (q : ℕ) → tidings ≡ t → end_by t conn ≡ Some q → IsBegun q
        fresh_begun is_lost q is end = cc end
        fresh_begun (is_up called) q is end =
            let it = fresh called is in
            let here_now : begun_now.connections q ≡ Some (fresh_connection kinds.Link it.room) =
            it.made.connections q
            ∙ ap (λ b. if b then Some (fresh_connection kinds.Link it.room)
            else started.connections q) (eq-eqb conn q (same_Some conn q end)) in
            let nobody : started.connections q ≡ None =
            ap started.connections (sym (same_Some conn q end)) ∙ it.made.free in record {
              is_link = subst (IsOpenOf kinds.Link) (sym here_now)
                  (record { is_open = refl; kind = refl });
              same_unsent = ap unsent nobody ∙ sym (ap unsent here_now);
              same_begun = ap (λ o. begun_or_none (begun_at o)) nobody
                  ∙ sym (ap (λ o. begun_or_none (begun_at o)) here_now);
            }

        ends_begin : (y q : ℕ) → base.ends place y ≡ Some q → IsBegun q
        ends_begin y q is = by (end_then old place other (end_by tidings conn) place y q is)
          where
            by : EndThen old place other (end_by tidings conn) place y q → IsBegun q
            by (is_told one there end) = fresh_begun tidings q refl end
            by (is_old apart was) = old_begun q (old_link y q was)

        unread : (t : LinkTidings) → tidings ≡ t → (y q : ℕ) → base.ends place y ≡ Some q
            → came q ≡ []
        unread (is_up called) is y q link = (fresh called is).unread q
        unread is_lost is y q link =
            sym (taken_is is_after pieces names place base new telling.step not_itself
            same.clients_open here.of.in_order here.of.framers q)
            ∙ front_none (taken_at (Some q) telling.step.did.calls) (new.transit y place)
            (ap (λ o. taken_at o telling.step.did.calls ++ new.transit y place) (sym link)
            ∙ sym (telling.step.reads y) ∙ transit_still is y)

        -- ---- clients

        seats_base : (x client q : ℕ) → new.seats x client ≡ Some q → old.seats x client ≡ Some q
        seats_base x client q seat =
            (seat_before old place other tidings conn x client q
            (ap (λ (f : ℕ → ℕ → Option ℕ). f x client) (sym seats_then) ∙ seat)).was

        same_received : (client : ℕ)
            → bytes_received mid_net.network client ≡ bytes_received old_net.network client
        same_received client = bytes_of_nodes old_net.network mid_net.network received_same client

        not_made : (t : LinkTidings) → tidings ≡ t → (client q : ℕ)
            → new.seats place client ≡ Some q → is_some (begun_now.connections q) ≡ true
            → begun_now.connections q ≡ started.connections q
        not_made is_lost is client q seat there =
            ap (λ (m : Moment W). m.connections q) (nobody_new is).as_it_was
        not_made (is_up called) is client q seat there =
            let it = fresh called is in
            it.made.connections q
            ∙ ap (λ b. if b then Some (fresh_connection kinds.Link it.room)
            else started.connections q)
            (nat_eq-turned conn q ∙ (seat_was client q seat).free refl (ap is_way_by is))

        seats_here : (client q : ℕ) → new.seats place client ≡ Some q
            → is_some (begun_now.connections q) ≡ true → bytes_received mid_net.network client
            ≡ old.written client ++ unsent (begun_now.connections q)
        seats_here client q seat there =
            let as_before = not_made tidings refl client q seat there in
            let at_place : connection_at old place q ≡ begun_now.connections q =
            ap (λ o. connection_in o q) telling.step.at ∙ sym as_before in
            same_received client
            ∙ same.are_received.there place client q (seats_base place client q seat)
            (ap is_some at_place ∙ there)
            ∙ ap (λ o. old.written client ++ unsent o) at_place

        seated_mid : AreSeated names new mid_net
        seated_mid = record {
          names_are = same.are_seated.names_are ∙ sym names_same;
          came = telling.step.came_is ∙ ap (came_after old.came) nobody_at_all
              ∙ same.are_seated.came ∙ ap length (sym homes_same);
          inboxes = ap length received_same ∙ same.are_seated.inboxes ∙ ap length (sym homes_same);
          home = λ x client q seat. same.are_seated.home x client q (seats_base x client q seat)
              ∙ ap (λ homes. home_in homes client) (sym homes_same);
          seat = λ x client q seat.
              ap (λ homes. is_some (home_in homes client)) homes_same
              ∙ same.are_seated.seat x client q (seats_base x client q seat);
        }
          where
            nobody_at_all : comes ≡ None
            nobody_at_all = by tidings refl
              where
                by : (t : LinkTidings) → tidings ≡ t → comes ≡ None
                by (is_up called) is = (fresh called is).nobody
                by is_lost is = (nobody_new is).nobody

        received_base : AreReceived base mid_net
        received_base = record {
          there = λ x client q seat there.
              same_received client
              ∙ same.are_received.there x client q
              (seat_before old place other tidings conn x client q seat).was there;
          front = λ client.
              let before = same.are_received.front client in
              (before.0, before.1 ∙ sym (same_received client));
        }

        -- ---- the other servers

        numbers_there : (x : ℕ) → nat_eq x place ≡ false → numbers_at old x ≡ numbers_at base x
        numbers_there x apart =
            let links : old.ends x ≡ base.ends x = fun_ext
            (λ y. sym (end_elsewhere old place other (end_by tidings conn) x y apart)) in
            let clients : old.seats x ≡ base.seats x = fun_ext
            (λ client. sym (seat_elsewhere old place other tidings conn x client apart)) in
            λ i. record { link = links i; client = clients i }

        servers_mid : (x : ℕ) → nat_eq x place ≡ false
            → IsServerIf (numbers_at base x) (slice_get base.engines x) (node_at mid_net.network x)
        servers_mid x apart =
            subst (λ n. IsServerIf n (slice_get old.engines x) (node_at mid_net.network x))
            (numbers_there x apart)
            (server_of (numbers_at old x) (slice_get old.engines x) (node_at old_net.network x)
            (node_at mid_net.network x) (servers_same x)
            (same.as_bytes.servers x))

        pub told_followed : IsAsNetwork names new
            (queues_written (item_kept item (node_asked place (read_event_by tidings other)
            (begun mid_net.network))).state mid_net.pipes)
        told_followed =
            assembled is_after pieces names place base new telling.step not_itself same.clients_open
            here.of.in_order here.of.framers joined_now ends_begin mid_net
            asked_net own.state last.state went last.is serves_all own_open servers_mid ways_mid
            (λ y. pipes_mid place y)
            (λ x y apart there. pipes_mid x y)
            (λ x apart.
            pipes_mid x place
            ∙ incoming_stays is_after pieces names place base new telling.step not_itself
            same.clients_open here.of.in_order here.of.framers joined_now ends_begin
            (unread tidings refl) x apart)
            placed (λ x client apart. ap (λ (f : ℕ → ℕ → Option ℕ). f x client) seats_then)
            seats_here seated_mid received_base
