-- A turn by which nothing that is on its way is read and nothing happens: a network is as the
-- daemons still, though its server there was not told of all its links.
use Rattle.std.proofs.Common.{◌≡◌, ℕ, Bool, true, false, not, is_some, Option, Some, None, List, []}
use Rattle.std.proofs.Common.{◌∷◌, ◌++◌, refl, sym, ◌∙◌, ap, subst, option_map}
use Rattle.std.proofs.lemmas.Bool.{or_parts}
use Rattle.std.proofs.lemmas.List.Folds.{list_any-append}
use Rattle.std.specs.FinMap.{get}
use Rattle.std.specs.List.{slice_get}
use Rattle.std.proofs.lemmas.Option.{same_Some}
use Rattle.arrayvec.specs.ArrayVec.{ArrayVec}
use Rattle.irc_line.specs.Laws.{PiecesCompleteTheSame}
use Rattle.irc_outbox.specs.Calls.{Call, taken}
use Rattle.irc_relay.specs.Links.{Name}
use Rattle.irc_server.specs.declared.event.Event.{Event}
use Rattle.irc_server.specs.declared.event.Event.TheVariants.{Connect, Gone, Line, LinkDown}
use Rattle.irc_server.specs.declared.event.Event.TheVariants.{LinkLine, LinkUp}
use Rattle.irc_server.specs.Served.{no_link}
use Rattle.irc_stage.specs.View.{End, View}
use Rattle.irc_network.specs.Network.{Node, node_at}
use Rattle.irc_network.specs.ByteNetwork.{ByteNetwork}
use Rattle.irc_engine.specs.declared.kind.ConnectionKind.TheVariants as kinds
use Rattle.irc_engine.specs.Carrying.{open_kind_at}
use Rattle.irc_engine.specs.Hearing.{Hears, begun_at, lines_by, nothing_of}
use Rattle.irc_engine.specs.Running.{AreAsked, ServerAsked, Moment, Ran, asked_at}
use Rattle.irc_daemons.specs.AsBytes.{IsServerIf, numbers_at}
use Rattle.irc_daemons.specs.AsNetwork.{AreSeated, IsAsNetwork}
use Rattle.irc_daemons.specs.Daemons.{AreJoined, AreLinksOpen, Daemons, connection_in, unsent}
use Rattle.irc_daemons.specs.Doings.{Doings}
use Rattle.irc_daemons.specs.Items.{has_item, is_link_line}
use Rattle.irc_daemons.specs.Steps.{Steps, came_after, seats_after}
use Rattle.irc_daemons.proofs.Asked.{ServesClients, serves_none, took}
use Rattle.irc_daemons.proofs.Assembly.{IsEndBegun, assembled, begin, begun_before, did_all, first}
use Rattle.irc_daemons.proofs.Assembly.{incoming_stays, mid_moment, newcomer, part, real_begin}
use Rattle.irc_daemons.proofs.Assembly.{real_mid, second, start, taken_is}
use Rattle.irc_daemons.proofs.Given.{Went, went_nowhere}
use Rattle.irc_daemons.proofs.Heard.{none_stays}
use Rattle.irc_daemons.proofs.Open.{open_of}
use Rattle.irc_daemons.proofs.Single.{HasServer, HasView, HaveViews, has_server, has_view}
use Rattle.irc_daemons.proofs.Single.{have_views}
use Rattle.irc_daemons.proofs.Told.{heard_first, nothing_heard}
use Rattle.irc_daemons.proofs.Turn.{BeginsWith, client_comes, link_comes, nobody_comes}

some_end : (o : Option End) → no_link o ≡ None → is_some o ≡ true
some_end None is = cc is
some_end (Some end) is = refl

-- the first of some events, where there is one and none is an item
data IsNone (events : List Event) : Type 0 where
  is_none : events ≡ [] → IsNone events
  is_line : (link : ℕ) (text : ArrayVec ℕ) (more : List Event) → events ≡ LinkLine link text ∷ more
      → IsNone events

none_of : (events : List Event) → has_item events ≡ false → IsNone events
none_of [] none = is_none refl
none_of (LinkLine link text ∷ more) none = is_line link text more refl
none_of (Connect conn host ∷ more) none = cc none
none_of (Line conn text ∷ more) none = cc none
none_of (Gone conn ∷ more) none = cc none
none_of (LinkUp link called ∷ more) none = cc none
none_of (LinkDown link ∷ more) none = cc none

module _ {W : Type 0} (is_after : W → List Call → Type 0) (pieces : PiecesCompleteTheSame)
    (names : List Name) (place : ℕ) (old new : Daemons W)
    (net : ByteNetwork) (step : Steps is_after place old new) (links : AreLinksOpen new)
    (itemless : has_item step.did.events ≡ false)
    (none_taken : (y q : ℕ) → old.ends place y ≡ Some q → taken q step.did.calls ≡ [])
    (same : IsAsNetwork names old net) (once : (x y : ℕ) (name : Name)
    → slice_get names x ≡ Some name → slice_get names y ≡ Some name → x ≡ y)
  where
    abbrev not_itself : (x : ℕ) → old.ends x x ≡ None
    not_itself = same.are_joined.not_itself

    abbrev here : HasServer (numbers_at old place) step.engine (node_at net.network place)
    here =
        has_server (numbers_at old place) step.engine (node_at net.network place)
        (subst (λ o. IsServerIf (numbers_at old place) o (node_at net.network place)) step.at
        (same.as_bytes.servers place))

    abbrev started : Moment W
    started = start is_after pieces names place old new step not_itself same.clients_open
        here.of.in_order here.of.framers

    abbrev begun_now : Moment W
    begun_now = begin is_after pieces names place old new step not_itself same.clients_open
        here.of.in_order here.of.framers

    abbrev mid : Moment W
    mid = mid_moment is_after pieces names place old new step not_itself same.clients_open
        here.of.in_order here.of.framers

    abbrev end : Moment W
    end = step.after.now

    abbrev comes : Option ℕ
    comes = newcomer is_after pieces names place old new step not_itself same.clients_open
        here.of.in_order here.of.framers

    abbrev given : List Event
    given = (part is_after pieces names place old new step not_itself same.clients_open
        here.of.in_order here.of.framers).given

    abbrev came : ℕ → List ℕ
    came = (part is_after pieces names place old new step not_itself same.clients_open
        here.of.in_order here.of.framers).came

    abbrev begins : BeginsWith started begun_now given comes
    begins = (part is_after pieces names place old new step not_itself same.clients_open
        here.of.in_order here.of.framers).begins

    abbrev ran : Ran is_after (part is_after pieces names place old new step not_itself
        same.clients_open here.of.in_order here.of.framers).exchanges given came
        begun_now mid
    ran = first is_after pieces names place old new step not_itself same.clients_open
        here.of.in_order here.of.framers

    abbrev ran_on : Ran is_after step.turn.does.writes.exchanges [] nothing_of mid end
    ran_on = second is_after pieces names place old new step not_itself same.clients_open
        here.of.in_order here.of.framers

    none_given : has_item ((given ++ ran.events) ++ ran_on.events) ≡ false
    none_given =
        sym (ap (λ (d : Doings). has_item d.events)
        (did_all is_after pieces names place old new step not_itself same.clients_open
        here.of.in_order here.of.framers))
        ∙ itemless

    parts : (has_item (given ++ ran.events) ≡ false) × (has_item ran_on.events ≡ false)
    parts = or_parts (has_item (given ++ ran.events)) (has_item ran_on.events)
        (sym (list_any-append (λ event. not (is_link_line event))
        (given ++ ran.events) ran_on.events) ∙ none_given)

    record IsNobody : Type 0 where
      as_it_was : begun_now ≡ started
      given_none : given ≡ []
      nobody : comes ≡ None

    nobody_new : IsNobody
    nobody_new = by begins
      where
        front : (given_is : List Event) → given ≡ given_is
            → has_item (given_is ++ ran.events) ≡ false
        front given_is is = ap (λ g. has_item (g ++ ran.events)) (sym is) ∙ parts.0

        by : BeginsWith started begun_now given comes → IsNobody
        by (nobody_comes as_it_was none is) =
            record { as_it_was = as_it_was; given_none = none; nobody = is }
        by (client_comes room conn host made is it) = cc (front (Connect conn host ∷ []) is)
        by (link_comes room conn called made is it) = cc (front (LinkUp conn called ∷ []) is)

    -- ---- nothing is told

    unread : (y q : ℕ) → old.ends place y ≡ Some q → came q ≡ []
    unread y q link =
        sym (taken_is is_after pieces names place old new step not_itself same.clients_open
        here.of.in_order here.of.framers q)
        ∙ none_taken y q link

    last : HasView end.server
    last = has_view end.server step.has_server

    second_none : (q : ℕ) → lines_by q ran_on.events ≡ []
    second_none q =
        nothing_heard pieces (begun_at (mid.connections q)) (begun_at (end.connections q))
        (lines_by q ran_on.events)
        (real_mid is_after pieces names place old new step not_itself same.clients_open
        here.of.in_order here.of.framers q) (ran_on.hears q)

    second_is : ran_on.events ≡ []
    second_is = by (none_of ran_on.events parts.1)
      where
        by : IsNone ran_on.events → ran_on.events ≡ []
        by (is_none is) = is
        by (is_line link text more is) =
            cc (sym (heard_first kinds.Link link text (LinkLine link text) more refl)
            ∙ ap (lines_by link) (sym is) ∙ second_none link)

    asked_second : AreAsked (asked_at mid) [] ran_on.outs (asked_at end)
    asked_second = subst
        (λ es. AreAsked (asked_at mid) es ran_on.outs (asked_at end)) second_is ran_on.are_asked

    mid_server : mid.server ≡ Some last.state
    mid_server = ap (λ (a : ServerAsked). a.server) (sym asked_second.1) ∙ last.is

    asked_first : AreAsked (asked_at begun_now) ran.events ran.outs (asked_at mid)
    asked_first = subst (λ g. AreAsked (asked_at begun_now) (g ++ ran.events) ran.outs
        (asked_at mid)) nobody_new.given_none ran.are_asked

    own : HasView begun_now.server
    own = by begun_now.server refl
      where
        by : (o : Option View) → begun_now.server ≡ o → HasView begun_now.server
        by None is = cc (sym mid_server
            ∙ none_stays ran.events (asked_at begun_now) (asked_at mid) ran.outs is asked_first)
        by (Some view) is = record { state = view; is = is }

    own_start : started.server ≡ Some own.state
    own_start = ap (λ (m : Moment W). m.server) (sym nobody_new.as_it_was) ∙ own.is

    views : HaveViews (numbers_at old place) started.server here.node.server own.state
    views = have_views
        (numbers_at old place) started.server here.node.server own.state own_start here.of.servers

    first_none : (y q : ℕ) → old.ends place y ≡ Some q → lines_by q ran.events ≡ []
    first_none y q is =
        nothing_heard pieces (begun_at (begun_now.connections q)) (begun_at (mid.connections q))
        (lines_by q ran.events)
        (real_begin is_after pieces names place old new step not_itself same.clients_open
        here.of.in_order here.of.framers q)
        (subst (λ bytes. Hears (begun_at (begun_now.connections q)) bytes (lines_by q ran.events)
        (begun_at (mid.connections q))) (unread y q is) (ran.hears q))

    first_is : ran.events ≡ []
    first_is = by (none_of ran.events
        (ap (λ g. has_item (g ++ ran.events)) (sym nobody_new.given_none) ∙ parts.0))
      where
        -- a line of a link that the server knows was heard
        known : (link : ℕ) (text : ArrayVec ℕ) (more : List Event)
            → AreAsked (asked_at begun_now) (LinkLine link text ∷ more) ran.outs (asked_at mid)
            → lines_by link (LinkLine link text ∷ more) ≡ [] → ⊥
        known link text more asked none =
            cc (sym (heard_first kinds.Link link text (LinkLine link text) more refl) ∙ none)

        by : IsNone ran.events → ran.events ≡ []
        by (is_none is) = is
        by (is_line link text more is) =
            let asked = subst
            (λ es. AreAsked (asked_at begun_now) es ran.outs (asked_at mid)) is asked_first in
            let it = took own.state (LinkLine link text) begun_now.server asked.between.server
            asked.first own.is asked.is_handled in
            let among =
            views.alike.alike.no_other_end link (some_end (get own.state.ends link) it.none) in
            absurd (known link text more asked (ap (lines_by link) (sym is)
            ∙ first_none among.number link among.is))

    asked_none : AreAsked (asked_at begun_now) [] ran.outs (asked_at mid)
    asked_none =
        subst (λ es. AreAsked (asked_at begun_now) es ran.outs (asked_at mid)) first_is asked_first

    outs_none : ran.outs ++ ran_on.outs ≡ []
    outs_none = ap (λ os. os ++ ran_on.outs) asked_none.0 ∙ asked_second.0

    last_is : own.state ≡ last.state
    last_is = same_Some own.state last.state
        (sym own.is ∙ ap (λ (a : ServerAsked). a.server) (sym asked_none.1) ∙ mid_server)

    events_none : (given ++ ran.events) ++ ran_on.events ≡ []
    events_none =
        ap (λ g. (g ++ ran.events) ++ ran_on.events) nobody_new.given_none
        ∙ ap (λ es. es ++ ran_on.events) first_is ∙ second_is

    -- ---- daemons then

    seats_are : new.seats ≡ old.seats
    seats_are = step.seats_are ∙ ap (seats_after old place) nobody_new.nobody

    seat_is : (x client : ℕ) → new.seats x client ≡ old.seats x client
    seat_is x client = ap (λ (f : ℕ → ℕ → Option ℕ). f x client) seats_are

    ends_are : (x y : ℕ) → new.ends x y ≡ old.ends x y
    ends_are x y = ap (λ (f : ℕ → ℕ → Option ℕ). f x y) step.same_ends

    ways_are : (x y : ℕ) → new.ways x y ≡ old.ways x y
    ways_are x y = ap (λ (f : ℕ → ℕ → Bool). f x y) step.same_ways

    numbers_are : numbers_at old place ≡ numbers_at new place
    numbers_are = λ i. record { link = sym step.same_ends i place; client = sym seats_are i place }

    joined_now : AreJoined new
    joined_now = record {
      both_ways = λ x y. ways_are x y ∙ same.are_joined.both_ways x y ∙ sym (ways_are y x);
      not_itself = λ x. ends_are x x ∙ not_itself x;
      are_open = links;
      apart = λ x y z q is other. same.are_joined.apart x y z q (sym (ends_are x y) ∙ is)
          (sym (ends_are x z) ∙ other);
      no_client = λ x y client q is seat. same.are_joined.no_client x y client q
          (sym (ends_are x y) ∙ is) (sym (seat_is x client) ∙ seat);
      one_seat = λ x client other q is seat. same.are_joined.one_seat x client other q
          (sym (seat_is x client) ∙ is) (sym (seat_is x other) ∙ seat);
    }

    ends_begin : (y q : ℕ) → old.ends place y ≡ Some q → IsEndBegun is_after pieces names place old
        new step not_itself same.clients_open here.of.in_order here.of.framers q
    ends_begin y q is =
        begun_before is_after pieces names place old new step not_itself same.clients_open
        here.of.in_order here.of.framers q
        (open_of kinds.Link (started.connections q) (ap (λ o. open_kind_at (connection_in o q))
        (sym step.at) ∙ same.are_joined.are_open place y q is))

    went : Went place (numbers_at new place) last.state (ran.outs ++ ran_on.outs) net net
    went =
        subst (λ n. Went place n last.state (ran.outs ++ ran_on.outs) net net) numbers_are
        (subst (λ os. Went place (numbers_at old place) last.state os net net) (sym outs_none)
        (subst (λ v. Went place (numbers_at old place) v [] net net) last_is
        (went_nowhere place (numbers_at old place) own.state views.theirs net views.alike
        (ap (option_map (λ (s : Node). s.server)) here.at ∙ ap Some views.is) same.as_bytes.tidy)))

    serves : ServesClients (numbers_at new place) own.state last.state
        ((given ++ ran.events) ++ ran_on.events) (ran.outs ++ ran_on.outs)
    serves =
        subst (λ es. ServesClients (numbers_at new place) own.state last.state es
        (ran.outs ++ ran_on.outs)) (sym events_none)
        (subst (λ os. ServesClients (numbers_at new place) own.state last.state [] os)
        (sym outs_none)
        (subst (λ v. ServesClients (numbers_at new place) own.state v [] []) last_is
        (serves_none (numbers_at new place) own.state)))

    seated_now : AreSeated names new net
    seated_now = record {
      names_are = same.are_seated.names_are;
      came = step.came_is ∙ ap (came_after old.came) nobody_new.nobody ∙ same.are_seated.came;
      inboxes = same.are_seated.inboxes;
      home = λ x client q seat. same.are_seated.home x client q (sym (seat_is x client) ∙ seat);
      seat = λ x client q seat. same.are_seated.seat x client q (sym (seat_is x client) ∙ seat);
    }

    pub idle_followed : IsAsNetwork names new net
    idle_followed =
        assembled is_after pieces names place old new step not_itself same.clients_open
        here.of.in_order here.of.framers joined_now ends_begin net net own.state
        last.state went last.is serves
        (λ q there.
        ap (λ (m : Moment W). open_kind_at (m.connections q)) nobody_new.as_it_was
        ∙ same.clients_open place step.engine step.at own.state q own_start there)
        (λ x apart. same.as_bytes.servers x) same.as_bytes.ways (λ y. same.as_bytes.pipes place y)
        (λ x y apart there. same.as_bytes.pipes x y)
        (λ x apart.
        same.as_bytes.pipes x place
        ∙ incoming_stays is_after pieces names place old new step not_itself same.clients_open
        here.of.in_order here.of.framers joined_now ends_begin unread x apart)
        once (λ x client apart. seat_is x client)
        (λ client q seat there.
        same.are_received.there place client q (sym (seat_is place client) ∙ seat)
        (ap (λ o. is_some (connection_in o q)) step.at
        ∙ ap (λ (m : Moment W). is_some (m.connections q)) (sym nobody_new.as_it_was) ∙ there)
        ∙ ap (λ o. old.written client ++ unsent o)
        (ap (λ o. connection_in o q) step.at
        ∙ ap (λ (m : Moment W). m.connections q) (sym nobody_new.as_it_was)))
        seated_now same.are_received
