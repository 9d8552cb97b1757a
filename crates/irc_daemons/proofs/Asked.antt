-- Events that clients cause, one after another: an engine's server is asked for them, and a network
-- whose links carry bytes is given their items.
use Rattle.std.proofs.Common.{◌≡◌, ℕ, suc, Bool, true, false, ◌&&◌, ◌||◌, not, is_none, is_some}
use Rattle.std.proofs.Common.{Option, Some, None, Result, Ok, List, [], ◌∷◌, ◌++◌, append_assoc}
use Rattle.std.proofs.Common.{append-nil, nat_eq, refl, sym, ◌∙◌, ap, subst, option_map}
use Rattle.std.proofs.Common.{if◌then◌else◌}
use Rattle.std.proofs.lemmas.Bool.{eqb-true, or_parts, or_right, or_from}
use Rattle.std.proofs.lemmas.List.Folds.{list_any-append}
use Rattle.std.specs.FinMap.{FinMap, get, keys}
use Rattle.std.specs.Ordering.{nat_cmp}
use Rattle.std.specs.Prelude.{⊤}
use Rattle.std.specs.List.{AllByRecursion, list_any, list_all}
use Rattle.std.specs.Option.{option_and_then, option_map_or}
use Rattle.std.proofs.lemmas.Option.{same_Some}
use Rattle.irc_names.specs.Lemmas.PlainFacts.{or_first}
use Rattle.irc_line.specs.Carried.{IsCarried}
use Rattle.irc_line.specs.Reading.{read_of}
use Rattle.irc_batch.specs.Batches.{Sent}
use Rattle.irc_forest.specs.Forests.{place_in}
use Rattle.irc_relay.specs.Links.{Name}
use Rattle.irc_world.specs.Refused.{no_such_client}
use Rattle.irc_world.specs.Stepping.{Item, gone, line}
use Rattle.irc_world.specs.WithinLimits.{IsItemWithin}
use Rattle.irc_world.specs.World.{home_in}
use Rattle.irc_server.specs.declared.event.Event.{Event}
use Rattle.irc_server.specs.declared.event.Event.TheVariants.{Connect, Line, Gone, LinkUp, LinkLine}
use Rattle.irc_server.specs.declared.event.Event.TheVariants.{LinkDown}
use Rattle.irc_server.specs.declared.event.ServerFault.{ServerFault}
use Rattle.irc_server.specs.ReadEvents.{IsHandled, read_event_of, refuses_it, takes_it}
use Rattle.irc_server.specs.ReadEvents.{wants_memory}
use Rattle.irc_stage.specs.declared.clients.Client.{Client}
use Rattle.irc_server.specs.Served.{ReadEvent, fault_of, link_there, no_link, not_there, of_client}
use Rattle.irc_server.specs.Served.{served, there as not_new}
use Rattle.irc_server.specs.LineEnds.{ServedLinesEnd}
use Rattle.irc_server.specs.Own.{ServedGoesToItsOwn}
use Rattle.irc_stage.specs.Handle.{goes, says}
use Rattle.irc_stage.specs.View.{End, View}
use Rattle.irc_network.specs.Node.{Served, reply, serves_read_event}
use Rattle.irc_network.specs.Network.{Network, Node, begun, given, home_place, item_kept}
use Rattle.irc_network.specs.Network.{server_place, node_asked, node_asked_if, node_at, node_view}
use Rattle.irc_network.specs.Refusing.{client_fault, fault_at_rest, has_client}
use Rattle.irc_pipes.specs.Pipes.{are_still, is_still, new_pipe, pipe_at, pipe_in, LinkPipe, Pipes}
use Rattle.irc_network.specs.ByteNetwork.{ByteNetwork, is_byte_rest, item_given}
use Rattle.irc_network.specs.ByteNetwork.{queues_written}
use Rattle.irc_network.specs.Whole.{IsTidy, has_way}
use Rattle.irc_net.specs.declared.fault.NetFault.TheVariants as net_fault
use Rattle.irc_net.specs.Faults.{fault_by, item_fault}
use Rattle.irc_engine.specs.declared.kind.ConnectionKind.TheVariants as kinds
use Rattle.irc_engine.specs.Carrying.{answers, bytes_owed, is_closed_by}
use Rattle.irc_engine.specs.Hearing.{line_by, lines_by}
use Rattle.irc_engine.specs.Lemmas.CarryingLaws.{is_closed_by-append, nothing_owed, owed-append}
use Rattle.irc_engine.specs.Running.{AreAsked, ServerAsked}
use Rattle.irc_daemons.specs.Alike.{AreServersAlike, AreApart, Numbers, ServedAlike, happens_at}
use Rattle.irc_daemons.specs.Alike.{renumbered}
use Rattle.irc_daemons.specs.AsNetwork.{LeadsTo, has_come, is_given, no_more}
use Rattle.irc_server.specs.Connected.{client_comes, client_goes, link_comes}
use Rattle.irc_daemons.specs.Clients.{ClientsStay}
use Rattle.irc_daemons.specs.Daemons.{Daemons}
use Rattle.irc_daemons.specs.Items.{AreItems, AreSpaced, IsItem, has_item, is_connect, is_gone}
use Rattle.irc_daemons.specs.Items.{is_line, is_link_line, is_on_link, no_item}
use Rattle.irc_daemons.proofs.Given.{Went, item_went, went_both, went_nowhere, pipe_behind}
use Rattle.irc_daemons.proofs.Lists.{rest_none}
use Rattle.irc_daemons.proofs.Sent.{server_at}
use Rattle.irc_daemons.proofs.Told.{heard_first}
use Rattle.irc_daemons.proofs.Split.{FirstIs, first_of, is_first, is_link_text}
use Rattle.irc_daemons.proofs.Silence.{nothing_answered, nothing_linked, still_there}

-- ---- a network goes on

pub leads_both : (old mid new : ByteNetwork) (before items : List Item) → LeadsTo old before mid
    → LeadsTo mid items new → LeadsTo old (before ++ items) new
leads_both old mid new before items one no_more =
    subst (λ xs. LeadsTo old xs mid) (sym (append-nil before)) one
leads_both old mid new before items one (is_given front item between first fault within) =
    subst (λ xs. LeadsTo old xs (item_given item between).state)
    (append_assoc before front (item ∷ []))
    (is_given (before ++ front) item between
    (leads_both old mid between before front one first) fault within)
leads_both old mid new before items one (has_come front from to count between first way) =
    has_come (before ++ items) from to count between
    (leads_both old mid between before items one first) way

-- nothing is on its way
abbrev pub AllStill : ByteNetwork → Type 0
AllStill net = (x y : ℕ) → pipe_at net.pipes x y ≡ new_pipe

still_row : (row : FinMap nat_cmp LinkPipe) (numbers : List ℕ) → ((to : ℕ)
    → pipe_in to row ≡ new_pipe) → list_all (λ to. is_still (pipe_in to row)) numbers ≡ true
still_row row [] all = refl
still_row row (to ∷ numbers) all =
    ap (λ pipe. is_still pipe && list_all (λ q. is_still (pipe_in q row)) numbers) (all to)
    ∙ still_row row numbers all

still_rows : (pipes : Pipes) → ((x y : ℕ) → pipe_at pipes x y ≡ new_pipe) → are_still pipes ≡ true
still_rows [] all = refl
still_rows (row ∷ pipes) all =
    ap (λ b. b && are_still pipes) (still_row row (keys row) (all 0))
    ∙ still_rows pipes (λ x. all (suc x))

pub at_rest : (net : ByteNetwork) → AllStill net → is_byte_rest net ≡ true
at_rest net all = still_rows net.pipes all

pub none_refused : (net : ByteNetwork) (item : Item) → is_byte_rest net ≡ true
    → fault_at_rest net.network item ≡ None → item_fault net item ≡ None
unfolding item_fault
none_refused net item rest none =
    ap (λ b. if b then option_map fault_by (fault_at_rest net.network item)
    else Some net_fault.NotAtRest) rest ∙ ap (option_map fault_by) none

-- ---- what the network is asked for

pub given_line : (net : ByteNetwork) (place client : ℕ) (text : List ℕ)
    → home_place net.network client ≡ Some place → (item_given (line client text) net).state
    ≡ queues_written (item_kept (line client text) (node_asked place
    (of_client (says client (read_of text))) (begun net.network))).state net.pipes
unfolding item_given given
given_line net place client text home =
    ap
    (λ o. queues_written
    (item_kept (line client text) (node_asked_if o (of_client (says client (read_of text)))
    (begun net.network))).state net.pipes) home

pub given_gone : (net : ByteNetwork) (place client : ℕ) → home_place net.network client ≡ Some place
    → (item_given (gone client) net).state
    ≡ queues_written (item_kept (gone client)
    (node_asked place (of_client (goes client)) (begun net.network))).state net.pipes
unfolding item_given given
given_gone net place client home =
    ap (λ o. queues_written (item_kept (gone client)
    (node_asked_if o (of_client (goes client)) (begun net.network))).state net.pipes) home

view_there : (o : Option Node) (view : View) → option_map (λ (s : Node). s.server) o
    ≡ Some (Some view) → option_and_then (λ (s : Node). s.server) o ≡ Some view
view_there None view none = cc none
view_there (Some node) view some = same_Some node.server (Some view) some

-- a client that its home has is not refused
pub not_refused : (net : Network) (place client : ℕ) (view : View)
    → home_place net client ≡ Some place → server_at net place ≡ Some (Some view)
    → is_some (get view.clients client) ≡ true → client_fault net client ≡ None
not_refused net place client view home at there = by (home_in net.homes client) refl
  where
    by_name : (name : Name) → home_in net.homes client ≡ Some name
        → server_place net name ≡ Some place → client_fault net client ≡ None
    by_name name is where_it_is =
        let found : node_view net name ≡ Some view =
        ap (λ o. option_and_then (λ (s : Node). s.server) (option_and_then (node_at net) o))
        where_it_is ∙ view_there (node_at net place) view at in
        ap (λ b. if b then None else Some no_such_client)
        (ap (λ o. option_map_or (has_client client) (option_and_then (node_view net) o) false) is
        ∙ ap (λ o. option_map_or (has_client client) o false) found ∙ there)

    by : (o : Option Name) → home_in net.homes client ≡ o → client_fault net client ≡ None
    by None is = cc (sym (ap (option_and_then (server_place net)) is) ∙ home)
    by (Some name) is = by_name name is (sym (ap (option_and_then (server_place net)) is) ∙ home)

-- ---- what an engine's server does

-- it has served the event
pub record Took (own : View) (event : Event) (server : Option View)
    (first : List Sent) : Type 0 where
  pub none : fault_of own event ≡ None
  pub server_is : server ≡ Some (reply own (read_event_of event)).state
  pub first_is : first ≡ (reply own (read_event_of event)).out

some_client : (o : Option Client) → not_there o ≡ None → is_some o ≡ true
some_client None is = cc is
some_client (Some client) is = refl

no_client : (o : Option Client) → not_new o ≡ None → is_none o ≡ true
no_client None is = refl
no_client (Some client) is = cc is

some_end : (o : Option End) → no_link o ≡ None → is_some o ≡ true
some_end None is = cc is
some_end (Some end) is = refl

no_end : (o : Option End) → link_there o ≡ None → is_none o ≡ true
no_end None is = refl
no_end (Some end) is = cc is

pub serves : (view : View) (event : Event) → fault_of view event ≡ None
    → serves_read_event view (read_event_of event) ≡ true
serves view (Connect conn host) none = no_client (get view.clients conn) none
serves view (Line conn text) none = some_client (get view.clients conn) none
serves view (Gone conn) none = some_client (get view.clients conn) none
serves view (LinkUp link starts) none = no_end (get view.ends link) none
serves view (LinkLine link text) none = some_end (get view.ends link) none
serves view (LinkDown link) none = some_end (get view.ends link) none

module _ (own : View) (event : Event) where
  abbrev replied : Bool → Served
  replied b =
      if b then record {
        state = (served own (read_event_of event)).state;
        out = (served own (read_event_of event)).out;
      }
      else record { state = own; out = [] }

  took_by : (result : Result (Unit {0}) ServerFault) (server : Option View) (first : List Sent)
      → IsHandled (Some own) event [] result server first → result ≡ Ok tt
      → Took own event server first
  took_by result server first (takes_it none does) ok =
      let by_it : reply own (read_event_of event) ≡ replied true =
      ap replied (serves own event none) in record {
        none = none;
        server_is = ap Some (does.view_is ∙ ap (λ (r : Served). r.state) (sym by_it));
        first_is = does.out_is ∙ ap (λ (r : Served). r.out) (sym by_it);
      }
  took_by result server first (refuses_it some) ok = cc ok
  took_by result server first (wants_memory none) ok = cc ok

  pub took : (old : Option View) (server : Option View) (first : List Sent) → old ≡ Some own
      → IsHandled old event [] (Ok tt) server first → Took own event server first
  took old server first is handled =
      took_by (Ok tt) server first
      (subst (λ o. IsHandled o event [] (Ok tt) server first) is handled) refl

-- ---- who is a client then

-- whether a client is told to be gone
abbrev pub is_left : ℕ → Event → Bool
is_left q (Gone which) = nat_eq which q
is_left q other = false

-- it was one before, was not closed, and has not gone
pub record WasThere (own : View) (q : ℕ) (events : List Event) (outs : List Sent) : Type 0 where
  pub was : is_some (get own.clients q) ≡ true
  pub not_closed : is_closed_by q outs ≡ false
  pub not_gone : list_any (is_left q) events ≡ false

-- who is no client gets nothing; and who is one in the end was there all the time
pub record ServesClients (numbers : Numbers) (own last : View) (events : List Event)
    (outs : List Sent) : Type 0 where
  pub silent : (client q : ℕ) → numbers.client client ≡ Some q → is_some (get own.clients q) ≡ false
      → answers q outs ≡ []
  pub still : (client q : ℕ) → numbers.client client ≡ Some q → is_some (get last.clients q) ≡ true
      → WasThere own q events outs

left_is : (q : ℕ) (event : Event) → is_left q event ≡ client_goes q (read_event_of event)
left_is q (Connect conn host) = refl
left_is q (Line conn text) = refl
left_is q (Gone conn) = refl
left_is q (LinkUp link starts) = refl
left_is q (LinkLine link text) = refl
left_is q (LinkDown link) = refl

pub serves_none : (numbers : Numbers) (view : View) → ServesClients numbers view view [] []
serves_none numbers view = record {
  silent = λ client q seat none. refl;
  still = λ client q seat there. record { was = there; not_closed = refl; not_gone = refl };
}

pub serves_both : (numbers : Numbers) (own mid last : View)
    (events more : List Event) (a b : List Sent)
    → ServesClients numbers own mid events a → ServesClients numbers mid last more b
    → ServesClients numbers own last (events ++ more) (a ++ b)
serves_both numbers own mid last events more a b one two = record {
  silent = λ client q seat none.
      owed-append true q a b
      ∙ ap (λ bs. bs ++ bytes_owed (not (is_closed_by q a)) q b) (one.silent client q seat none)
      ∙ nothing_owed (not (is_closed_by q a)) q b (two.silent client q seat
      (not_mid client q seat none (is_some (get mid.clients q)) refl));
  still = λ client q seat there.
      let later = two.still client q seat there in
      let before = one.still client q seat later.was in record {
        was = before.was;
        not_closed = is_closed_by-append q a b
            ∙ or_from (is_closed_by q a) (is_closed_by q b) before.not_closed later.not_closed;
        not_gone =
            list_any-append (is_left q) events more ∙ or_from (list_any (is_left q) events)
            (list_any (is_left q) more) before.not_gone later.not_gone;
      };
}
  where
    not_mid : (client q : ℕ) → numbers.client client ≡ Some q → is_some (get own.clients q) ≡ false
        → (t : Bool) → is_some (get mid.clients q) ≡ t → is_some (get mid.clients q) ≡ false
    not_mid client q seat none true is = cc (sym none ∙ (one.still client q seat is).was)
    not_mid client q seat none false is = is

-- who was closed is no client then, and gets nothing
pub quiet_then : (numbers : Numbers) (own mid last : View) (events more : List Event)
    (a b : List Sent) → ServesClients numbers own mid events a
    → ServesClients numbers mid last more b → (client q : ℕ) → numbers.client client ≡ Some q
    → is_closed_by q a ≡ true → answers q b ≡ []
quiet_then numbers own mid last events more a b one two client q seat closed =
    two.silent client q seat (by (is_some (get mid.clients q)) refl)
  where
    by : (t : Bool) → is_some (get mid.clients q) ≡ t → is_some (get mid.clients q) ≡ false
    by true is = cc (sym (one.still client q seat is).not_closed ∙ closed)
    by false is = is

-- a client's number is no link's
pub no_client_end : (numbers : Numbers) (own other : View) → AreApart numbers
    → AreServersAlike numbers own other → (client q : ℕ) → numbers.client client ≡ Some q
    → is_some (get own.ends q) ≡ false
no_client_end numbers own other apart alike client q seat = by (is_some (get own.ends q)) refl
  where
    by : (b : Bool) → is_some (get own.ends q) ≡ b → b ≡ false
    by true is = let among =
        alike.alike.no_other_end q is in absurd (apart.kinds among.number client q among.is seat)
    by false is = refl

-- nor is a link's a client's
pub no_link_client : (numbers : Numbers) (own other : View) → AreApart numbers
    → AreServersAlike numbers own other → (y q : ℕ) → numbers.link y ≡ Some q
    → is_some (get own.clients q) ≡ false
no_link_client numbers own other apart alike y q link = by (is_some (get own.clients q)) refl
  where
    by : (b : Bool) → is_some (get own.clients q) ≡ b → b ≡ false
    by true is = let among =
        alike.alike.no_other_client q is in absurd (apart.kinds y among.number q link among.is)
    by false is = refl

-- ---- events one after another

abbrev pub is_connecting_event : Event → Bool
is_connecting_event (Connect conn host) = true
is_connecting_event other = false

abbrev pub IsTextCarried : Event → Type 0
IsTextCarried (Line conn text) = IsCarried text.items
IsTextCarried other = ⊤

-- none of them tells that a client connects
abbrev pub NoneConnects : List Event → Type 0
NoneConnects events = AllByRecursion (λ event. is_connecting_event event ≡ false) events

-- each text is one that a line can carry
abbrev pub AreTextsCarried : List Event → Type 0
AreTextsCarried events = AllByRecursion IsTextCarried events

-- where a network has come to by the items of some events
pub record Goes (place : ℕ) (numbers : Numbers) (own last : View) (events : List Event)
    (outs : List Sent) (items : List Item) (later : Bool) (net : ByteNetwork)
    : Type 0 where
  pub after : ByteNetwork
  pub went : Went place numbers last outs net after
  pub clients : ServesClients numbers own last events outs
  pub leads : LeadsTo net items after
  pub still : later ≡ true → AllStill after

-- where it was
pub record IsAt (place : ℕ) (numbers : Numbers) (own : View) (net : ByteNetwork) : Type 0 where
  pub other : View
  pub alike : AreServersAlike numbers own other
  pub server : server_at net.network place ≡ Some (Some other)
  pub tidy : IsTidy net
  pub ways : (y : ℕ) → has_way net.network place y ≡ is_some (numbers.link y)
  pub homes : (client q : ℕ) → numbers.client client ≡ Some q
      → home_place net.network client ≡ Some place

pub at_then : (place : ℕ) (numbers : Numbers) (own last : View) (outs : List Sent)
    (net after : ByteNetwork) → IsAt place numbers own net → Went place numbers last outs net after
    → IsAt place numbers last after
at_then place numbers own last outs net after is went = record {
  other = went.state;
  alike = went.alike;
  server = went.server;
  tidy = went.tidy;
  ways = λ y. went.ways place y ∙ is.ways y;
  homes = λ client q seat.
      (λ i. option_and_then (place_in (went.keeps.names i)) (home_in (went.keeps.homes i) client))
      ∙ is.homes client q seat;
}

module _ (lines_end : ServedLinesEnd) (own_law : ServedGoesToItsOwn) (stay : ClientsStay)
    (alike_law : ServedAlike) {W : Type 0} (names : List Name)
    (daemons : Daemons W) (place : ℕ) (numbers : Numbers) (apart : AreApart numbers)
    (seats_are : (client q : ℕ) → daemons.seats place client ≡ Some q
    → numbers.client client ≡ Some q)
  where
    -- ---- one of them is served, and its item is given

    module _ (own : View) (event : Event) (read_event : ReadEvent) (conn : ℕ)
        (is_it : read_event_of event ≡ renumbered conn read_event)
        (happens : happens_at numbers read_event ≡ Some conn)
        (connects_none : (q : ℕ) → client_comes q (read_event_of event) ≡ false)
        (no_link_comes : (q : ℕ) → link_comes q (read_event_of event) ≡ false) (net : ByteNetwork)
        (at : IsAt place numbers own net)
      where
        abbrev mine : Served
        mine = reply own (read_event_of event)

        pub one_serves : ServesClients numbers own mine.state (event ∷ []) mine.out
        one_serves = record {
          silent = λ client q seat none.
              nothing_answered own_law own (read_event_of event) at.alike.ends_count q
              (no_link_comes q) none
              (no_client_end numbers own at.other apart at.alike client q seat);
          still = λ client q seat there.
              let known = still_there own_law own (read_event_of event) at.alike.ends_count stay q
              (no_link_comes q)
              (no_client_end numbers own at.other apart at.alike client q seat) there in record {
                was = was_before q known.was;
                not_closed = known.not_closed;
                not_gone = ap (λ b. b || false) (left_is q event ∙ known.not_gone);
              };
        }
          where
            was_before : (q : ℕ)
                → (is_some (get own.clients q) || client_comes q (read_event_of event)) ≡ true
                → is_some (get own.clients q) ≡ true
            was_before q is = or_first (is_some (get own.clients q))
                (client_comes q (read_event_of event)) (connects_none q) is

        pub one_went : (item : Item) → Went place numbers mine.state mine.out net (queues_written
            (item_kept item (node_asked place read_event (begun net.network))).state net.pipes)
        one_went item =
            subst
            (λ (o : ReadEvent). Went place numbers (reply own o).state (reply own o).out net
            (queues_written
            (item_kept item (node_asked place read_event (begun net.network))).state net.pipes))
            (sym is_it)
            (item_went lines_end own_law alike_law place numbers apart own at.other read_event conn
            happens at.alike net at.tidy at.server at.ways item)

        -- where it puts nothing on a link nothing is on its way again
        pub still_again : (after : ByteNetwork) → Went place numbers mine.state mine.out net after
            → AllStill net → ((y q : ℕ) → numbers.link y ≡ Some q → is_closed_by q mine.out ≡ false)
            → list_any is_on_link mine.out ≡ false → AllStill after
        still_again after went still opened none x y = by (nat_eq x place) refl
          where
            by_link : (o : Option ℕ) → numbers.link y ≡ o → pipe_at after.pipes place y ≡ new_pipe
            by_link None no_link = went.no_way y no_link ∙ still place y
            by_link (Some q) link =
                went.pipes_here y q link (opened y q link)
                ∙ ap (λ bs. pipe_behind bs (pipe_at net.pipes place y))
                (nothing_linked own_law own (read_event_of event) at.alike.ends_count q
                (no_link_client numbers own at.other apart at.alike y q link) none)
                ∙ ap (pipe_behind []) (still place y)

            by : (b : Bool) → nat_eq x place ≡ b → pipe_at after.pipes x y ≡ new_pipe
            by true one = ap (λ n. pipe_at after.pipes n y) (eqb-true x place one)
                ∙ by_link (numbers.link y) refl
            by false two = went.pipes_there x y two ∙ still x y

        -- and then what is left
        pub one_more : (last : View) (events : List Event) (first more : List Sent)
            (item : Item) (items : List Item) (later rest : Bool) → first ≡ mine.out
            → AllStill net → fault_at_rest net.network item ≡ None
            → IsItemWithin item → (item_given item net).state ≡ queues_written
            (item_kept item (node_asked place read_event (begun net.network))).state net.pipes
            → ((y q : ℕ) → numbers.link y ≡ Some q → is_closed_by q (first ++ more) ≡ false)
            → (rest ≡ true → list_any is_on_link first ≡ false) → ((after : ByteNetwork)
            → IsAt place numbers mine.state after → (rest ≡ true → AllStill after)
            → ((y q : ℕ) → numbers.link y ≡ Some q → is_closed_by q more ≡ false)
            → Goes place numbers mine.state last events more items later after)
            → Goes place numbers own last (event ∷ events) (first ++ more) (item ∷ items) later net
        one_more last events first more item items later rest first_is still not_faulty within
            given_is opened spaced others =
            let given_net : ByteNetwork = (item_given item net).state in
            let went : Went place numbers mine.state mine.out net given_net =
            subst (Went place numbers mine.state mine.out net) (sym given_is) (one_went item) in
            let went_first : Went place numbers mine.state first net given_net =
            subst (λ os. Went place numbers mine.state os net given_net) (sym first_is) went in
            let serves_first : ServesClients numbers own mine.state (event ∷ []) first =
            subst (ServesClients numbers own mine.state (event ∷ [])) (sym first_is) one_serves in
            let opened_first : (y q : ℕ) → numbers.link y ≡ Some q → is_closed_by q first ≡ false =
            λ y q link. (or_parts (is_closed_by q first) (is_closed_by q more)
            (sym (is_closed_by-append q first more) ∙ opened y q link)).0 in
            let opened_more : (y q : ℕ) → numbers.link y ≡ Some q → is_closed_by q more ≡ false =
            λ y q link. (or_parts (is_closed_by q first) (is_closed_by q more)
            (sym (is_closed_by-append q first more) ∙ opened y q link)).1 in
            let still_then : rest ≡ true → AllStill given_net =
            λ is. still_again given_net went still
            (λ y q link. ap (is_closed_by q) (sym first_is) ∙ opened_first y q link)
            (ap (list_any is_on_link) (sym first_is) ∙ spaced is) in
            let goes = others given_net (at_then place numbers own mine.state mine.out net given_net
            at went) still_then opened_more in record {
              after = goes.after;
              went =
                  went_both place numbers mine.state last first more net given_net goes.after
                  went_first goes.went
                  (quiet_then numbers own mine.state last
                  (event ∷ []) events first more serves_first goes.clients);
              clients = serves_both numbers own mine.state last
                  (event ∷ []) events first more serves_first goes.clients;
              leads =
                  leads_both net given_net goes.after (item ∷ []) items
                  (is_given [] item net no_more
                  (none_refused net item (at_rest net still) not_faulty) within) goes.leads;
              still = goes.still;
            }

    -- a line of a link that is known was heard
    no_link_text : (own : View) (event : Event) (events : List Event) (net : ByteNetwork)
        → IsAt place numbers own net → is_link_line event ≡ true → fault_of own event ≡ None
        → ((y q : ℕ) → numbers.link y ≡ Some q → lines_by q (event ∷ events) ≡ []) → ⊥
    no_link_text own (LinkLine link text) events net at is_link none heard =
        let among = at.alike.alike.no_other_end link (some_end (get own.ends link) none) in
        cc (sym (heard_first kinds.Link link text (LinkLine link text) events refl)
        ∙ heard among.number link among.is)
    no_link_text own (Connect conn host) events net at is_link none heard = cc is_link
    no_link_text own (Line conn text) events net at is_link none heard = cc is_link
    no_link_text own (Gone conn) events net at is_link none heard = cc is_link
    no_link_text own (LinkUp link starts) events net at is_link none heard = cc is_link
    no_link_text own (LinkDown link) events net at is_link none heard = cc is_link

    -- ---- one event, and then the others

    module _ (later : Bool) (event : Event) (events : List Event) (old new : ServerAsked)
        (outs : List Sent) (own last : View) (net : ByteNetwork)
        (asked : AreAsked old (event ∷ events) outs new) (is_last : new.server ≡ Some last)
        (spaced : AreSpaced later (event ∷ events) old new outs asked)
        (connects : is_connecting_event event ≡ false) (carried : IsTextCarried event)
        (heard : (y q : ℕ) → numbers.link y ≡ Some q → lines_by q (event ∷ events) ≡ [])
        (opened : (y q : ℕ) → numbers.link y ≡ Some q → is_closed_by q outs ≡ false)
        (at : IsAt place numbers own net)
      where
        abbrev rest : Bool
        rest = later || has_item events

        -- what the others do
        abbrev Others : Type 0
        Others = (between : View) (items : List Item) (after : ByteNetwork)
            → asked.between.server ≡ Some between
            → AreItems names daemons place events items → IsAt place numbers between after
            → (rest ≡ true → AllStill after)
            → ((y q : ℕ) → numbers.link y ≡ Some q → is_closed_by q asked.more ≡ false)
            → Goes place numbers between last events asked.more items later after

        opened_both : (y q : ℕ) → numbers.link y ≡ Some q
            → is_closed_by q (asked.first ++ asked.more) ≡ false
        opened_both y q link = ap (is_closed_by q) (sym asked.outs_are) ∙ opened y q link

        in_outs : (items : List Item) → Goes place numbers own last
            (event ∷ events) (asked.first ++ asked.more) items later net
            → Goes place numbers own last (event ∷ events) outs items later net
        in_outs items it_goes = subst (λ os. Goes place numbers own last
            (event ∷ events) os items later net) (sym asked.outs_are) it_goes

        item_goes : (read_event : ReadEvent) (conn : ℕ) (item : Item) (more : List Item)
            → read_event_of event ≡ renumbered conn read_event → happens_at numbers read_event
            ≡ Some conn → ((q : ℕ) → client_comes q (read_event_of event) ≡ false)
            → ((q : ℕ) → link_comes q (read_event_of event) ≡ false)
            → asked.between.server ≡ Some (reply own (read_event_of event)).state
            → asked.first ≡ (reply own (read_event_of event)).out
            → AllStill net → fault_at_rest net.network item ≡ None
            → IsItemWithin item → (item_given item net).state ≡ queues_written
            (item_kept item (node_asked place read_event (begun net.network))).state net.pipes
            → AreItems names daemons place events more → Others
            → Goes place numbers own last (event ∷ events) outs (item ∷ more) later net
        item_goes read_event conn item more is_it happens connects_none no_link_comes server_is
            first_is still not_faulty within given_is items others =
            in_outs (item ∷ more)
            (one_more own event read_event conn is_it happens connects_none no_link_comes net at
            last events asked.first asked.more item more later rest
            first_is still not_faulty within given_is opened_both spaced.0
            (λ after at_after still_after opened_after. others (reply own (read_event_of
            event)).state more after server_is items at_after still_after opened_after))

        -- a client that is served is there
        there_too : (client conn : ℕ) → numbers.client client ≡ Some conn
            → is_some (get own.clients conn) ≡ true → is_some (get at.other.clients client) ≡ true
        there_too client conn seat there = ap is_some (at.alike.alike.clients client
            ∙ ap (option_and_then (get own.clients)) seat) ∙ there

        is_served_item : (item : Item) (more : List Item)
            → IsItem names daemons place event item → fault_of own event ≡ None
            → asked.between.server ≡ Some (reply own (read_event_of event)).state
            → asked.first ≡ (reply own (read_event_of event)).out
            → AllStill net → AreItems names daemons place events more → Others
            → Goes place numbers own last (event ∷ events) outs (item ∷ more) later net
        is_served_item item more (is_connect conn name host named host_is event_is item_is) none
            server_is first_is still items others =
            cc (sym connects ∙ ap is_connecting_event event_is)
        is_served_item item more (is_line conn client text seat event_is item_is) none server_is
            first_is still items others =
            let happens = seats_are client conn seat in
            let home = at.homes client conn happens in
            let there =
            some_client (get own.clients conn) (ap (fault_of own) (sym event_is) ∙ none) in
            subst (λ (i : Item). Goes place numbers own last (event ∷ events) outs
            (i ∷ more) later net) (sym item_is)
            (item_goes (of_client (says client (read_of text.items))) conn
            (line client text.items) more (ap read_event_of event_is) happens
            (λ q. ap (λ e. client_comes q (read_event_of e)) event_is)
            (λ q. ap (λ e. link_comes q (read_event_of e)) event_is) server_is first_is still
            (not_refused net.network place client at.other home at.server
            (there_too client conn happens there))
            (subst IsTextCarried event_is carried)
            (given_line net place client text.items home) items others)
        is_served_item item more
            (is_gone conn client seat event_is item_is) none server_is first_is still items others =
            let happens = seats_are client conn seat in
            let home = at.homes client conn happens in
            let there =
            some_client (get own.clients conn) (ap (fault_of own) (sym event_is) ∙ none) in
            subst (λ (i : Item). Goes place numbers own last (event ∷ events) outs
            (i ∷ more) later net) (sym item_is)
            (item_goes (of_client (goes client)) conn (gone client) more
            (ap read_event_of event_is) happens
            (λ q. ap (λ e. client_comes q (read_event_of e)) event_is)
            (λ q. ap (λ e. link_comes q (read_event_of e)) event_is) server_is first_is still
            (not_refused net.network place client at.other home at.server
            (there_too client conn happens there)) tt (given_gone net place client home)
            items others)

        is_item_event : (item : Item) → IsItem names daemons place event item
            → not (is_link_line event) ≡ true
        is_item_event item (is_connect conn name host named host_is event_is item_is) =
            ap (λ e. not (is_link_line e)) event_is
        is_item_event item (is_line conn client text seat event_is item_is) =
            ap (λ e. not (is_link_line e)) event_is
        is_item_event item (is_gone conn client seat event_is item_is) =
            ap (λ e. not (is_link_line e)) event_is

        served_first : (items : List Item)
            → FirstIs names daemons place event events items → fault_of own event ≡ None
            → asked.between.server ≡ Some (reply own (read_event_of event)).state
            → asked.first ≡ (reply own (read_event_of event)).out
            → ((later || has_item (event ∷ events)) ≡ true → AllStill net) → Others
            → Goes place numbers own last (event ∷ events) outs items later net
        served_first items (is_link_text is_link more_are) none server_is first_is still others =
            absurd (no_link_text own event events net at is_link none heard)
        served_first items
            (is_first item more items_are is more_are) none server_is first_is still others =
            subst (λ xs. Goes place numbers own last (event ∷ events) outs xs later net)
            (sym items_are)
            (is_served_item item more is none server_is first_is
            (still (or_right later (has_item (event ∷ events))
            (ap (λ b. b || has_item events) (is_item_event item is)))) more_are others)

        pub event_goes : (items : List Item) → old.server ≡ Some own → AreItems names daemons place
            (event ∷ events) items → ((later || has_item (event ∷ events)) ≡ true → AllStill net)
            → Others → Goes place numbers own last (event ∷ events) outs items later net
        event_goes items was items_are still others =
            let it =
            took own event old.server asked.between.server asked.first was asked.is_handled in
            served_first items (first_of names daemons place event events items items_are) it.none
            it.server_is it.first_is still others

    -- ---- all of them

    pub all_go : (later : Bool) (events : List Event) (items : List Item) (old new : ServerAsked)
        (outs : List Sent) (own last : View) (net : ByteNetwork)
        (asked : AreAsked old events outs new) → old.server ≡ Some own → new.server ≡ Some last
        → AreItems names daemons place events items → AreSpaced later events old new outs asked
        → NoneConnects events → AreTextsCarried events
        → ((y q : ℕ) → numbers.link y ≡ Some q → lines_by q events ≡ [])
        → ((y q : ℕ) → numbers.link y ≡ Some q → is_closed_by q outs ≡ false)
        → IsAt place numbers own net
        → ((later || has_item events) ≡ true → AllStill net)
        → Goes place numbers own last events outs items later net
    all_go later [] items old new outs own last net asked was is no_item spaced connects carried
        heard opened at still =
        let same : own ≡ last =
        same_Some own last (sym was ∙ ap (λ (a : ServerAsked). a.server) (sym asked.1) ∙ is) in
        subst (λ os. Goes place numbers own last [] os [] later net) (sym asked.0)
        (subst (λ v. Goes place numbers own v [] [] [] later net) same (record {
          after = net;
          went = went_nowhere place numbers own at.other net at.alike at.server at.tidy;
          clients = serves_none numbers own;
          leads = no_more;
          still = λ is_later. still (ap (λ b. b || false) is_later);
        }))
    all_go later (event ∷ events) items old new outs own last net asked was is items_are spaced
        connects carried heard opened at still =
        event_goes later event events old new outs own last net asked is spaced connects.0 carried.0
        heard opened at items was items_are still
        (λ between more after server_is more_are at_after still_after opened_after.
        all_go later events more asked.between new asked.more between last after asked.rest_is
        server_is is more_are spaced.1 connects.1 carried.1
        (λ y q link. rest_none (line_by q event) (lines_by q events) (heard y q link)) opened_after
        at_after still_after)
