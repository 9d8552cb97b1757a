-- A turn that reads a link's end, whatever clients lose by it: bytes that come.
use Rattle.std.proofs.Common.{◌≡◌, ℕ, Bool, true, false, not, is_some, Option, Some, None, List, []}
use Rattle.std.proofs.Common.{◌∷◌, ◌++◌, append_assoc, append-nil, length, take, drop, nat_eq, refl}
use Rattle.std.proofs.Common.{sym, ◌∙◌, ap, subst, option_map}
use Rattle.std.proofs.lemmas.Bool.{eq-eqb, eqb-true, or_parts}
use Rattle.std.proofs.lemmas.Grind.{flat_map-append}
use Rattle.std.proofs.lemmas.List.Folds.{list_any-append}
use Rattle.std.proofs.Math.Seq.{drop-nil, take-nil, drop-append_seam, take-append_seam}
use Rattle.std.specs.FinMap.{get}
use Rattle.std.specs.List.{AllByRecursion, slice_get}
use Rattle.std.specs.Option.{option_and_then}
use Rattle.std.proofs.lemmas.Option.{same_Some}
use Rattle.arrayvec.specs.ArrayVec.{ArrayVec}
use Rattle.irc_line.specs.Laws.{PiecesCompleteTheSame}
use Rattle.irc_line.specs.Lines.{Begun, begun_behind, completed, nothing_begun}
use Rattle.irc_outbox.specs.Calls.{Call, taken, taken_by}
use Rattle.irc_batch.specs.Batches.{Sent}
use Rattle.irc_relay.specs.Links.{Name}
use Rattle.irc_server.specs.declared.event.Event.{Event}
use Rattle.irc_server.specs.declared.event.Event.TheVariants.{LinkLine}
use Rattle.irc_server.specs.LineEnds.{ServedLinesEnd}
use Rattle.irc_server.specs.Own.{ServedGoesToItsOwn}
use Rattle.irc_stage.specs.View.{View}
use Rattle.irc_world.specs.Stepping.{Item}
use Rattle.irc_network.specs.Network.{Network, Progress, Node, begun, node_at}
use Rattle.irc_pipes.specs.Pipes.{LinkPipe, Pipes, advanced, lines_by, pipe_at}
use Rattle.irc_pipes.specs.Lemmas.PutPipes.{IsSetAt, it, nowhere, other_from, other_to, pipe_set}
use Rattle.irc_network.specs.ByteNetwork.{ByteNetwork, all_heard, bytes_come}
use Rattle.irc_network.specs.ByteNetwork.{completed_in, queues_written, pipes_come}
use Rattle.irc_network.specs.Loops.Writing.{IsWritten}
use Rattle.irc_network.specs.Whole.{IsTidy, has_way}
use Rattle.irc_network.specs.Lemmas.NewFramer.{new_is_real}
use Rattle.irc_network.specs.Lemmas.Rows.{rows_after_lines}
use Rattle.irc_network.specs.Lemmas.RowsWritten.{is_written, lean_with}
use Rattle.irc_engine.specs.declared.kind.ConnectionKind.{ConnectionKind}
use Rattle.irc_engine.specs.declared.kind.ConnectionKind.TheVariants as kinds
use Rattle.irc_engine.specs.Carrying.{IsOfKind, is_open_at, kind_at, kind_of_connection}
use Rattle.irc_engine.specs.Carrying.{kind_of_loss, open_kind_at}
use Rattle.irc_engine.specs.Hearing.{Hears, begun_at, line_by, line_event_of}
use Rattle.irc_engine.specs.Hearing.{lines_by as lines_told, nothing_of}
use Rattle.irc_engine.specs.Lemmas.HearingLaws.{hears_on}
use Rattle.irc_engine.specs.Running.{AllTold, IsInOrder, IsNews, Moment, Ran, a_line, an_end}
use Rattle.irc_engine.specs.Running.{asked_at}
use Rattle.irc_engine.specs.EngineView.{EngineView}
use Rattle.irc_daemons.specs.Alike.{AreApart, Numbers, ServedAlike}
use Rattle.irc_daemons.specs.AsBytes.{IsServerIf, numbers_at}
use Rattle.irc_daemons.specs.AsNetwork.{AreReceived, AreSeated, HasFollowed, IsAsNetwork, has_come}
use Rattle.irc_daemons.specs.AsNetwork.{no_more}
use Rattle.irc_daemons.specs.Clients.{ClientsStay}
use Rattle.irc_daemons.specs.Daemons.{AreJoined, AreLinksOpen, Daemons, IsToldOfLinks}
use Rattle.irc_daemons.specs.Daemons.{connection_at, connection_in, end_at, unsent, pipe_between}
use Rattle.irc_daemons.specs.Doings.{Doings, and_then, answers_did, newcomer_in, ran_did, taken_at}
use Rattle.irc_daemons.specs.EachStep.{AreFollowed, ReadsLink}
use Rattle.irc_daemons.specs.Items.{AnswersSpaced, AreItems, IsItem, has_item, is_connect, is_gone}
use Rattle.irc_daemons.specs.Items.{is_line, is_link_line, is_one, is_passed, no_item}
use Rattle.irc_daemons.specs.Receiving.{bytes_received}
use Rattle.irc_daemons.specs.Steps.{Steps, came_after, seats_after}
use Rattle.irc_daemons.proofs.Assembly.{IsEndBegun, assembled, begun_before}
use Rattle.irc_daemons.proofs.Given.{Went}
use Rattle.irc_daemons.proofs.Heard.{none_stays}
use Rattle.irc_daemons.proofs.Listening.{IsToldOf, Listens, its_line, listened, listening}
use Rattle.irc_daemons.proofs.Listening.{listens_both, no_line}
use Rattle.irc_daemons.proofs.Lists.{rest_none, set_elsewhere, set_here}
use Rattle.irc_daemons.proofs.Open.{open_of}
use Rattle.irc_daemons.proofs.ReadParts.{IsReading, part_reads}
use Rattle.irc_daemons.proofs.Single.{HasServer, HasView, HaveViews, IsOpenLink, has_framer}
use Rattle.irc_daemons.proofs.Single.{has_server, has_view, have_views, none_read, open_link}
use Rattle.irc_daemons.proofs.Single.{real_or_none, same_pipe, taken_in, pipe_of}
use Rattle.irc_daemons.proofs.Sent.{server_at}
use Rattle.irc_daemons.proofs.Asked.{ServesClients}
use Rattle.irc_daemons.proofs.Told.{IsRealIf, begun_or_none, framed, heard_first, nothing_heard}
use Rattle.irc_daemons.proofs.Told.{stays_real}
use Rattle.irc_daemons.proofs.Turn.{FirstPart, first_part}

-- ---- what is told

module _ {W : Type 0} (now : Moment W) (told : AllTold now) (conn : ℕ)
    (link : kind_at (now.connections conn) ≡ Some kinds.Link) where
  not_as_client : IsOfKind kinds.Client (now.connections conn) (now.lost conn) → ⊥
  not_as_client (kind_of_connection is) = cc (sym link ∙ is)
  not_as_client (kind_of_loss is) = cc (sym (told conn) ∙ is)

  -- a line is one of the link that was read
  told_of : (event : Event) (events : List Event) → IsNews now event
      → ((q : ℕ) → nat_eq conn q ≡ false → lines_told q (event ∷ events) ≡ []) → IsToldOf conn event
  told_of event events (a_line kind which line is_of is) others =
      by kind which line (nat_eq conn which) refl is_of is
    where
      by : (kind : ConnectionKind) (which : ℕ) (line : ArrayVec ℕ) (b : Bool)
          → nat_eq conn which ≡ b → IsOfKind kind (now.connections which) (now.lost which)
          → event ≡ line_event_of kind which line → IsToldOf conn event
      by kind which line false two is_of is =
          cc (sym (heard_first kind which line event events is) ∙ others which two)
      by kinds.Client which line true one is_of is =
          absurd (not_as_client (subst (λ n. IsOfKind kinds.Client (now.connections n) (now.lost n))
          (sym (eqb-true conn which one)) is_of))
      by kinds.Link which line true one is_of is =
          its_line line (is ∙ ap (λ n. LinkLine n line) (sym (eqb-true conn which one)))
  told_of event events (an_end kinds.Client which is_of is) others =
      no_line (ap is_link_line is) (ap (line_by conn) is)
  told_of event events (an_end kinds.Link which is_of is) others =
      no_line (ap is_link_line is) (ap (line_by conn) is)

  all_told_of : (events : List Event) → AllByRecursion (IsNews now) events → ((q : ℕ)
      → nat_eq conn q ≡ false → lines_told q events ≡ []) → AllByRecursion (IsToldOf conn) events
  all_told_of [] news others = tt
  all_told_of (event ∷ events) news others = (
    told_of event events news.0 others,
    all_told_of events news.1
        (λ q two. rest_none (line_by q event) (lines_told q events) (others q two)),
  )

-- no line is told at all
module _ {W : Type 0} (now : Moment W) (conn : ℕ) where
  told_no_line : (event : Event) (events : List Event) → IsNews now event
      → ((q : ℕ) → lines_told q (event ∷ events) ≡ []) → IsToldOf conn event
  told_no_line event events (a_line kind which line is_of is) none =
      cc (sym (heard_first kind which line event events is) ∙ none which)
  told_no_line event events (an_end kinds.Client which is_of is) none =
      no_line (ap is_link_line is) (ap (line_by conn) is)
  told_no_line event events (an_end kinds.Link which is_of is) none =
      no_line (ap is_link_line is) (ap (line_by conn) is)

  all_told_no_line : (events : List Event) → AllByRecursion (IsNews now) events
      → ((q : ℕ) → lines_told q events ≡ []) → AllByRecursion (IsToldOf conn) events
  all_told_no_line [] news none = tt
  all_told_no_line (event ∷ events) news none = (
    told_no_line event events news.0 none,
    all_told_no_line events news.1
        (λ q. rest_none (line_by q event) (lines_told q events) (none q)),
  )

no_item_in : (one other : List Event) → has_item (one ++ other) ≡ false
    → (has_item one ≡ false) × (has_item other ≡ false)
no_item_in one other none = or_parts (has_item one) (has_item other)
    (sym (list_any-append (λ event. not (is_link_line event)) one other) ∙ none)

-- as many bytes have come as were read, of those that were on their way
pub record BytesCame {W : Type 0} (names : List Name) (from to : ℕ) (net : ByteNetwork)
    (new : Daemons W) : Type 0 where
  pub front : List ℕ
  pub rest : List ℕ
  pub bytes_are : (pipe_at net.pipes from to).bytes ≡ front ++ rest
  pub way : has_way net.network from to ≡ true
  pub state : View
  pub at : server_at net.network to ≡ Some (Some state)
  pub is_as : IsAsNetwork names new (bytes_come from to (length front) (begun net)).state

-- ---- the turn

module _ {W : Type 0} (is_after : W → List Call → Type 0) (pieces : PiecesCompleteTheSame)
    (lines_end : ServedLinesEnd) (own_law : ServedGoesToItsOwn)
    (stay : ClientsStay) (alike_law : ServedAlike) (names : List Name) (to : ℕ)
    (old new : Daemons W) (net : ByteNetwork) (step : Steps is_after to old new)
    (reads : ReadsLink step) (itemless : has_item step.did.events ≡ false)
    (links : AreLinksOpen new) (told_of_links : IsToldOfLinks old to)
    (same : IsAsNetwork names old net)
  where
    abbrev from : ℕ
    from = reads.from

    abbrev conn : ℕ
    conn = reads.conn

    abbrev engine : EngineView W
    engine = step.engine

    abbrev start : Moment W
    start = record engine.now { wire = step.turn.wire }

    abbrev mid : Moment W
    mid = step.turn.does.between

    abbrev end : Moment W
    end = step.after.now

    abbrev numbers : Numbers
    numbers = numbers_at old to

    apart : AreApart numbers
    apart = record {
      links = same.are_joined.apart to;
      clients = same.are_joined.one_seat to;
      kinds = same.are_joined.no_client to;
    }

    abbrev first_did : Doings
    first_did = answers_did is_after engine.sizes step.turn.report start mid step.turn.does.answers

    abbrev comes : Option ℕ
    comes = newcomer_in is_after engine.sizes step.turn.report start mid step.turn.does.answers

    abbrev IsSpaced : Bool → Type 0
    IsSpaced later =
        AnswersSpaced is_after later engine.sizes step.turn.report start mid step.turn.does.answers

    abbrev part : FirstPart is_after start mid first_did comes IsSpaced
    part = first_part is_after engine.sizes step.turn.report start mid step.turn.does.answers

    reading : IsReading is_after conn start mid first_did comes IsSpaced part
    reading = part_reads is_after engine.sizes step.turn.report start mid step.turn.does.answers
        conn reads.is_read

    abbrev first : Ran is_after part.exchanges part.given part.came part.begin mid
    first = part.ran

    abbrev second : Ran is_after step.turn.does.writes.exchanges [] nothing_of mid end
    second = step.turn.does.writes.ran

    abbrev all_did : Doings
    all_did =
        and_then (ran_did is_after part.exchanges part.given part.came part.begin mid first)
        (ran_did is_after step.turn.does.writes.exchanges [] nothing_of mid end second)

    did_all : step.did ≡ all_did
    did_all = step.did_is ∙ ap (λ d. and_then d (ran_did is_after step.turn.does.writes.exchanges []
        nothing_of mid end second)) part.did_is

    -- ---- where it begins

    server_here : HasServer numbers engine (node_at net.network to)
    server_here =
        has_server numbers engine (node_at net.network to)
        (subst (λ o. IsServerIf numbers o (node_at net.network to)) step.at
        (same.as_bytes.servers to))

    order_start : IsInOrder start
    order_start =
        let order = server_here.of.in_order in
        record { all_told = order.all_told; noted = order.noted; none_done = order.none_done }

    here : (q : ℕ) → connection_at old to q ≡ part.begin.connections q
    here q = ap (λ o. connection_in o q) step.at
        ∙ ap (λ (m : Moment W). m.connections q) (sym reading.begin_is)

    told_begin : AllTold part.begin
    told_begin = subst (λ (m : Moment W). AllTold m) (sym reading.begin_is) order_start.all_told

    told_mid : AllTold mid
    told_mid = (step.turn.does.all_told order_start.all_told).0

    read_link : IsOpenLink (part.begin.connections conn)
    read_link =
        open_link (part.begin.connections conn) (ap open_kind_at (sym (here conn))
        ∙ same.are_joined.are_open to from conn reads.is_end)

    real_begin : (q : ℕ) → IsRealIf (begun_at (part.begin.connections q))
    real_begin q = subst (λ (m : Moment W). IsRealIf (begun_at (m.connections q)))
        (sym reading.begin_is) (server_here.of.framers q)

    real_mid : (q : ℕ) → IsRealIf (begun_at (mid.connections q))
    real_mid q =
        stays_real pieces (begun_at (part.begin.connections q)) (begun_at (mid.connections q))
        (part.came q) (lines_told q first.events) (real_begin q)
        (first.hears q)

    -- ---- what is told

    others_hear : (q : ℕ) → nat_eq conn q ≡ false → lines_told q first.events ≡ []
    others_hear q two =
        nothing_heard pieces (begun_at (part.begin.connections q)) (begun_at (mid.connections q))
        (lines_told q first.events) (real_begin q)
        (subst (λ came. Hears (begun_at (part.begin.connections q)) came (lines_told q first.events)
        (begun_at (mid.connections q)))
        (reading.else_none q two) (first.hears q))

    none_hear : (q : ℕ) → lines_told q second.events ≡ []
    none_hear q =
        nothing_heard pieces (begun_at (mid.connections q)) (begun_at (end.connections q))
        (lines_told q second.events) (real_mid q) (second.hears q)

    abbrev events : List Event
    events = part.given ++ first.events

    events_are : events ≡ first.events
    events_are = ap (λ es. es ++ first.events) reading.given_is

    told_first : AllByRecursion (IsToldOf conn) events
    told_first =
        subst (AllByRecursion (IsToldOf conn)) (sym events_are)
        (all_told_of part.begin told_begin conn read_link.kind first.events first.are_news
        others_hear)

    told_second : AllByRecursion (IsToldOf conn) second.events
    told_second = all_told_no_line mid conn second.events second.are_news none_hear

    served_none : (has_item events ≡ false)
        × (has_item second.events ≡ false)
    served_none =
        no_item_in events
        second.events
        (ap (λ (d : Doings). has_item d.events) (sym did_all) ∙ itemless)

    -- ---- the servers

    last : HasView end.server
    last = has_view end.server step.has_server

    mid_view : HasView mid.server
    mid_view = by mid.server refl
      where
        by : (o : Option View) → mid.server ≡ o → HasView mid.server
        by None is = cc (sym last.is ∙ none_stays second.events (asked_at mid)
            (asked_at end) second.outs is second.are_asked)
        by (Some view) is = record { state = view; is = is }

    begin_view : HasView part.begin.server
    begin_view = by part.begin.server refl
      where
        by : (o : Option View) → part.begin.server ≡ o → HasView part.begin.server
        by None is = cc (sym mid_view.is ∙ none_stays events (asked_at part.begin)
            (asked_at mid) first.outs is first.are_asked)
        by (Some view) is = record { state = view; is = is }

    views : HaveViews numbers start.server server_here.node.server begin_view.state
    views =
        have_views numbers start.server server_here.node.server begin_view.state
        (ap (λ (m : Moment W). m.server) (sym reading.begin_is)
        ∙ begin_view.is) server_here.of.servers

    at : server_at net.network to ≡ Some (Some views.theirs)
    at = ap (option_map (λ (s : Node). s.server)) server_here.at ∙ ap Some views.is

    -- ---- what they hear

    abbrev came_first : Progress Network
    came_first = all_heard from to (begun net.network) (lines_told conn events)

    hears_first : Listens to numbers begin_view.state mid_view.state events first.outs net.network
        came_first.state
    hears_first =
        listening lines_end own_law stay alike_law numbers apart from to conn reads.is_end events
        (asked_at part.begin) (asked_at mid) first.outs
        begin_view.state mid_view.state views.theirs
        (begun net.network) first.are_asked begin_view.is
        mid_view.is served_none.0 told_first views.alike at

    hears_second : Listens to numbers mid_view.state last.state second.events second.outs
        came_first.state came_first.state
    hears_second =
        subst (λ lines. Listens to numbers mid_view.state last.state second.events second.outs
        came_first.state (all_heard from to came_first lines).state)
        (none_hear conn)
        (listening lines_end own_law stay alike_law numbers apart from to conn reads.is_end
        second.events (asked_at mid) (asked_at end) second.outs
        mid_view.state last.state hears_first.state came_first second.are_asked mid_view.is last.is
        served_none.1 told_second hears_first.alike
        hears_first.server)

    abbrev all_events : List Event
    all_events = events ++ second.events

    abbrev all_outs : List Sent
    all_outs = first.outs ++ second.outs

    hears_all :
        Listens to numbers begin_view.state last.state all_events all_outs net.network
        came_first.state
    hears_all =
        listens_both to numbers begin_view.state mid_view.state last.state events second.events
        first.outs second.outs net.network came_first.state came_first.state
        hears_first hears_second

    -- ---- how much was read

    taken_is : (q : ℕ) → taken q step.did.calls ≡ part.came q
    taken_is q =
        ap (λ (d : Doings). taken q d.calls) did_all
        ∙ flat_map-append (taken_by q) first.calls second.calls
        ∙ ap (λ xs. xs ++ taken q second.calls) (taken_in q first.calls
        ∙ ap (taken q) first.exchanged ∙ part.takes q)
        ∙ ap (λ xs. part.came q ++ xs)
        (taken_in q second.calls ∙ ap (taken q) second.exchanged
        ∙ none_read q step.turn.does.writes.exchanges
        (step.turn.does.writes.each (step.turn.does.in_order order_start).0).write_some)
        ∙ append-nil (part.came q)

    abbrev bytes : List ℕ
    bytes = taken conn step.did.calls

    abbrev count : ℕ
    count = length bytes

    -- ---- framers

    hears_over : (q : ℕ) → Hears (begun_at (part.begin.connections q)) (part.came q ++ [])
        (lines_told q first.events ++ lines_told q second.events)
        (begun_at (end.connections q))
    hears_over q =
        hears_on (begun_at (part.begin.connections q)) (begun_at (mid.connections q))
        (begun_at (end.connections q)) (part.came q) [] (lines_told q first.events)
        (lines_told q second.events) (first.hears q) (second.hears q)

    begun_is : (q : ℕ) → is_open_at (end.connections q) ≡ true
        → begun_or_none (begun_at (end.connections q)) ≡ begun_behind
        (begun_or_none (begun_at (part.begin.connections q))) (taken q step.did.calls)
    begun_is q opened =
        (framed pieces (begun_at (part.begin.connections q)) (begun_at (end.connections q))
        (part.came q ++ [])
        (lines_told q first.events ++ lines_told q second.events) (real_begin q) (hears_over q)
        (has_framer (end.connections q) opened)).begun
        ∙ ap (begun_behind (begun_or_none (begun_at (part.begin.connections q))))
        (append-nil (part.came q) ∙ sym (taken_is q))

    after_here : slice_get new.engines to ≡ Some step.after
    after_here = ap (λ es. slice_get es to) step.engines_are
        ∙ set_here old.engines to engine step.after step.at

    here_now : (q : ℕ) → connection_at new to q ≡ end.connections q
    here_now q = ap (λ o. connection_in o q) after_here

    ends_are : (x y : ℕ) → new.ends x y ≡ old.ends x y
    ends_are x y = ap (λ (f : ℕ → ℕ → Option ℕ). f x y) step.same_ends

    ways_are : (x y : ℕ) → new.ways x y ≡ old.ways x y
    ways_are x y = ap (λ (f : ℕ → ℕ → Bool). f x y) step.same_ways

    ways_here : (y : ℕ) → has_way net.network to y ≡ is_some (old.ends to y)
    ways_here y = same.as_bytes.ways to y ∙ told_of_links y

    still_open : (y q : ℕ) → old.ends to y ≡ Some q → is_open_at (end.connections q) ≡ true
    still_open y q is = (open_link (end.connections q) (ap open_kind_at (sym (here_now q))
        ∙ links to y q (ends_are to y ∙ is))).is_open

    abbrev begun_there : Begun
    begun_there = begun_or_none (begun_at (part.begin.connections conn))

    lines_are : lines_told conn events ≡ completed begun_there bytes
    lines_are =
        ap (lines_told conn) events_are
        ∙ (sym (append-nil (lines_told conn first.events))
        ∙ ap (λ ls. lines_told conn first.events ++ ls) (sym (none_hear conn)))
        ∙ (framed pieces (begun_at (part.begin.connections conn)) (begun_at (end.connections conn))
        (part.came conn ++ [])
        (lines_told conn first.events ++ lines_told conn second.events) (real_begin conn)
        (hears_over conn)
        (has_framer (end.connections conn) (still_open from conn reads.is_end))).lines
        ∙ ap (completed begun_there) (append-nil (part.came conn) ∙ sym (taken_is conn))

    -- ---- ends, before and after

    end_was : (y q : ℕ) → old.ends to y ≡ Some q → end_at old to y ≡ part.begin.connections q
    end_was y q is = ap (option_and_then (connection_at old to)) is ∙ here q

    end_now : (y q : ℕ) → old.ends to y ≡ Some q → end_at new to y ≡ end.connections q
    end_now y q is = ap (option_and_then (connection_at new to)) (ends_are to y ∙ is) ∙ here_now q

    end_none : (y : ℕ) → old.ends to y ≡ None → end_at new to y ≡ end_at old to y
    end_none y is = ap (option_and_then (connection_at new to)) (ends_are to y ∙ is)
        ∙ sym (ap (option_and_then (connection_at old to)) is)

    engine_there : (x : ℕ) → nat_eq x to ≡ false → slice_get new.engines x ≡ slice_get old.engines x
    engine_there x two =
        ap (λ es. slice_get es x) step.engines_are ∙ set_elsewhere old.engines to x step.after two

    end_there : (x y : ℕ) → nat_eq x to ≡ false → end_at new x y ≡ end_at old x y
    end_there x y two =
        ap (option_and_then (connection_at new x)) (ends_are x y) ∙ by (old.ends x y)
      where
        by : (o : Option ℕ)
            → option_and_then (connection_at new x) o ≡ option_and_then (connection_at old x) o
        by None = refl
        by (Some q) = ap (λ o. connection_in o q) (engine_there x two)

    not_to : (y q : ℕ) → old.ends to y ≡ Some q → nat_eq y to ≡ false
    not_to y q is = by (nat_eq y to) refl
      where
        by : (b : Bool) → nat_eq y to ≡ b → b ≡ false
        by true one =
            cc (sym is ∙ ap (old.ends to) (eqb-true y to one) ∙ same.are_joined.not_itself to)
        by false two = refl

    not_from : (x q : ℕ) → old.ends to x ≡ Some q → nat_eq x from ≡ false → nat_eq conn q ≡ false
    not_from x q is two = by (nat_eq conn q) refl
      where
        by : (b : Bool) → nat_eq conn q ≡ b → b ≡ false
        by true one =
            cc (sym (eq-eqb x from (same.are_joined.apart to x from conn
            (is ∙ ap Some (sym (eqb-true conn q one))) reads.is_end)) ∙ two)
        by false other = refl

    -- ---- bytes are off the pipe

    transit_was : old.transit from to ≡ bytes ++ new.transit from to
    transit_was =
        step.reads from ∙ ap (λ o. taken_at o step.did.calls ++ new.transit from to) reads.is_end

    abbrev behind : List ℕ
    behind = new.transit from to ++ unsent (end_at old from to)

    old_pipe_is : pipe_at net.pipes from to ≡ pipe_of begun_there (bytes ++ behind)
    old_pipe_is =
        same.as_bytes.pipes from to
        ∙ same_pipe (begun_or_none (begun_at (end_at old to from))) begun_there
        (old.transit from to ++ unsent (end_at old from to)) (bytes ++ behind)
        (ap (λ o. begun_or_none (begun_at o)) (end_was from conn reads.is_end))
        (ap (λ xs. xs ++ unsent (end_at old from to)) transit_was
        ∙ append_assoc bytes (new.transit from to) (unsent (end_at old from to)))

    abbrev pipes_now : Pipes
    pipes_now = pipes_come net from to count

    abbrev off : ByteNetwork
    off = record { network = net.network; pipes = pipes_now }

    pipe_elsewhere : (x y : ℕ) → (x ≡ from → y ≡ to → ⊥)
        → pipe_at pipes_now x y ≡ pipe_at net.pipes x y
    pipe_elsewhere x y apart_from =
        by (pipe_set from to (advanced count (pipe_at net.pipes from to)) net.pipes x y)
      where
        by : IsSetAt from to (advanced count (pipe_at net.pipes from to)) net.pipes x y
            → pipe_at pipes_now x y ≡ pipe_at net.pipes x y
        by (it one two is) = absurd (apart_from one two)
        by (nowhere one two is was) = absurd (apart_from one two)
        by (other_from two is) = is
        by (other_to two is) = is

    pipe_come : pipe_at pipes_now from to ≡ advanced count (pipe_at net.pipes from to)
    pipe_come = by (pipe_set from to (advanced count (pipe_at net.pipes from to)) net.pipes from to)
      where
        by : IsSetAt from to (advanced count (pipe_at net.pipes from to)) net.pipes from to
            → pipe_at pipes_now from to ≡ advanced count (pipe_at net.pipes from to)
        by (it one two is) = is
        by (nowhere one two is was) =
            is
            ∙ same_pipe nothing_begun (begun_behind nothing_begun (take count [])) []
            (drop count [])
            (sym (ap (begun_behind nothing_begun) (take-nil count)
            ∙ (pieces nothing_begun new_is_real).none_begun)) (sym (drop-nil count))
            ∙ ap (advanced count) (sym was)
        by (other_from two is) = cc (sym (eq-eqb from from refl) ∙ two)
        by (other_to two is) = cc (sym (eq-eqb to to refl) ∙ two)

    from_read : pipe_at pipes_now from to ≡ pipe_between new from to
    from_read =
        pipe_come ∙ ap (advanced count) old_pipe_is
        ∙ same_pipe (begun_behind begun_there (take count (bytes ++ behind)))
        (begun_or_none (begun_at (end_at new to from)))
        (drop count (bytes ++ behind)) (new.transit from to ++ unsent (end_at new from to))
        (ap (begun_behind begun_there) (take-append_seam bytes behind)
        ∙ sym (begun_is conn (still_open from conn reads.is_end))
        ∙ sym (ap (λ o. begun_or_none (begun_at o)) (end_now from conn reads.is_end)))
        (drop-append_seam bytes behind ∙ ap (λ o. new.transit from to ++ unsent o)
        (sym (end_there from to (not_to from conn reads.is_end))))

    -- from another server nothing was read
    module _ (x : ℕ) (two : nat_eq x to ≡ false) (other : nat_eq x from ≡ false) where
      none_taken : (q : ℕ) → old.ends to x ≡ Some q → taken q step.did.calls ≡ []
      none_taken q is = taken_is q ∙ reading.else_none q (not_from x q is other)

      begun_from : (o : Option ℕ) → old.ends to x ≡ o
          → begun_or_none (begun_at (end_at old to x)) ≡ begun_or_none (begun_at (end_at new to x))
      begun_from None is = ap (λ c. begun_or_none (begun_at c)) (sym (end_none x is))
      begun_from (Some q) is =
          ap (λ c. begun_or_none (begun_at c)) (end_was x q is)
          ∙ sym ((pieces (begun_or_none (begun_at (part.begin.connections q)))
          (real_or_none (begun_at (part.begin.connections q)) (real_begin q))).none_begun)
          ∙ ap (begun_behind (begun_or_none (begun_at (part.begin.connections q))))
          (sym (none_taken q is))
          ∙ sym (begun_is q (still_open x q is))
          ∙ ap (λ c. begun_or_none (begun_at c)) (sym (end_now x q is))

      transit_from : (o : Option ℕ) → old.ends to x ≡ o → old.transit x to ≡ new.transit x to
      transit_from None is =
          step.reads x ∙ ap (λ o. taken_at o step.did.calls ++ new.transit x to) is
      transit_from (Some q) is =
          step.reads x ∙ ap (λ o. taken_at o step.did.calls ++ new.transit x to) is
          ∙ ap (λ xs. xs ++ new.transit x to) (none_taken q is)

      from_other : pipe_at pipes_now x to ≡ pipe_between new x to
      from_other =
          pipe_elsewhere x to (λ one there. cc (sym (eq-eqb x from one) ∙ other))
          ∙ same.as_bytes.pipes x to
          ∙ same_pipe (begun_or_none (begun_at (end_at old to x))) (begun_or_none
          (begun_at (end_at new to x))) (old.transit x to ++ unsent (end_at old x to))
          (new.transit x to ++ unsent (end_at new x to)) (begun_from (old.ends to x) refl)
          (ap (λ xs. xs ++ unsent (end_at old x to)) (transit_from (old.ends to x) refl)
          ∙ ap (λ o. new.transit x to ++ unsent o) (sym (end_there x to two)))

    -- what is coming to this server
    incoming : (x : ℕ) → nat_eq x to ≡ false → pipe_at off.pipes x to ≡ pipe_between new x to
    incoming x two = by (nat_eq x from) refl
      where
        by : (b : Bool) → nat_eq x from ≡ b → pipe_at pipes_now x to ≡ pipe_between new x to
        by true one =
            subst (λ n. pipe_at pipes_now n to ≡ pipe_between new n to)
            (sym (eqb-true x from one)) from_read
        by false other = from_other x two other

    outgoing : (y : ℕ) → pipe_at off.pipes to y ≡ pipe_between old to y
    outgoing y =
        pipe_elsewhere to y (λ one there. cc (sym (eq-eqb from to (sym one))
        ∙ not_to from conn reads.is_end)) ∙ same.as_bytes.pipes to y

    elsewhere : (x y : ℕ) → nat_eq x to ≡ false → nat_eq y to ≡ false
        → pipe_at off.pipes x y ≡ pipe_between old x y
    elsewhere x y two other = pipe_elsewhere x y (λ one there. cc (sym (eq-eqb y to there) ∙ other))
        ∙ same.as_bytes.pipes x y

    off_rows : length pipes_now ≡ length net.network.nodes
    off_rows = rows_after_lines net from to count [] []
        (begun net.network) pipes_now same.as_bytes.tidy.rows refl refl

    off_tidy : IsTidy off
    off_tidy = record {
      quiet = same.as_bytes.tidy.quiet;
      rows = off_rows;
      lean = lean_with from to
          (advanced count (pipe_at net.pipes from to)) net.pipes same.as_bytes.tidy.lean;
    }

    -- ---- bytes come

    completed_is : completed_in net from to count ≡ lines_told conn events
    completed_is = ap (lines_by count) old_pipe_is
        ∙ ap (completed begun_there) (take-append_seam bytes behind) ∙ sym lines_are

    net_is : (bytes_come from to count (begun net)).state
        ≡ queues_written came_first.state pipes_now
    unfolding bytes_come
    net_is = ap
        (λ ls. queues_written (all_heard from to (begun net.network) ls).state pipes_now)
        completed_is

    is_so : IsWritten came_first.state pipes_now (queues_written came_first.state pipes_now)
    is_so =
        is_written came_first.state pipes_now (lean_with from to
        (advanced count (pipe_at net.pipes from to)) net.pipes same.as_bytes.tidy.lean)
        (rows_after_lines net from to count
        (lines_told conn events) [] came_first pipes_now same.as_bytes.tidy.rows refl refl)

    went : Went to numbers last.state all_outs off (queues_written came_first.state pipes_now)
    went =
        listened to numbers begin_view.state last.state all_events all_outs off came_first.state
        off_tidy
        ways_here hears_all is_so

    abbrev after : ByteNetwork
    after = queues_written came_first.state pipes_now

    -- ---- seats stay

    seats_are : new.seats ≡ old.seats
    seats_are = step.seats_are ∙ ap (seats_after old to) reading.nobody

    seat_is : (x client : ℕ) → new.seats x client ≡ old.seats x client
    seat_is x client = ap (λ (f : ℕ → ℕ → Option ℕ). f x client) seats_are

    numbers_are : numbers ≡ numbers_at new to
    numbers_are = λ i. record { link = sym step.same_ends i to; client = sym seats_are i to }

    joined_now : AreJoined new
    joined_now = record {
      both_ways = λ x y. ways_are x y ∙ same.are_joined.both_ways x y ∙ sym (ways_are y x);
      not_itself = λ x. ends_are x x ∙ same.are_joined.not_itself x;
      are_open = links;
      apart = λ x y z q is other. same.are_joined.apart x y z q (sym (ends_are x y) ∙ is)
          (sym (ends_are x z) ∙ other);
      no_client = λ x y client q is seat. same.are_joined.no_client x y client q
          (sym (ends_are x y) ∙ is) (sym (seat_is x client) ∙ seat);
      one_seat = λ x client other q is seat.
          same.are_joined.one_seat x client other q (sym (seat_is x client) ∙ is)
          (sym (seat_is x other) ∙ seat);
    }

    ends_begin : (y q : ℕ) → old.ends to y ≡ Some q
        → IsEndBegun is_after pieces names to old new step same.are_joined.not_itself
        same.clients_open server_here.of.in_order server_here.of.framers q
    ends_begin y q is =
        begun_before is_after pieces names to old new step same.are_joined.not_itself
        same.clients_open server_here.of.in_order server_here.of.framers q
        (open_of kinds.Link (start.connections q) (ap (λ o. open_kind_at (connection_in o q))
        (sym step.at) ∙ same.are_joined.are_open to y q is))

    own_open : (q : ℕ) → is_some (get begin_view.state.clients q) ≡ true
        → open_kind_at (part.begin.connections q) ≡ Some kinds.Client
    own_open q there =
        ap (λ (m : Moment W). open_kind_at (m.connections q)) reading.begin_is
        ∙ same.clients_open to engine step.at begin_view.state q
        (ap (λ (m : Moment W). m.server) (sym reading.begin_is) ∙ begin_view.is) there

    seated_now : AreSeated names new off
    seated_now = record {
      names_are = same.are_seated.names_are;
      came = step.came_is ∙ ap (came_after old.came) reading.nobody ∙ same.are_seated.came;
      inboxes = same.are_seated.inboxes;
      home = λ place client q seat. same.are_seated.home place client q
          (sym (seat_is place client) ∙ seat);
      seat = λ place client q seat. same.are_seated.seat place client q
          (sym (seat_is place client) ∙ seat);
    }

    received_off : AreReceived old off
    received_off = record { there = same.are_received.there; front = same.are_received.front }

    seats_here : (client q : ℕ) → new.seats to client ≡ Some q
        → is_some (part.begin.connections q) ≡ true → bytes_received net.network client
        ≡ old.written client ++ unsent (part.begin.connections q)
    seats_here client q seat there =
        same.are_received.there to client q (sym (seat_is to client) ∙ seat)
        (ap is_some (here q) ∙ there)
        ∙ ap (λ o. old.written client ++ unsent o) (here q)

    module _ (once : (x y : ℕ) (name : Name) → slice_get names x ≡ Some name
        → slice_get names y ≡ Some name → x ≡ y) where
      as_network : IsAsNetwork names new after
      as_network =
          assembled is_after pieces names to old new step same.are_joined.not_itself
          same.clients_open server_here.of.in_order server_here.of.framers joined_now
          ends_begin off after
          begin_view.state last.state
          (subst (λ n. Went to n last.state all_outs off after) numbers_are went) last.is
          (subst (λ n. ServesClients n begin_view.state last.state all_events all_outs) numbers_are
          hears_all.clients) own_open (λ x two. same.as_bytes.servers x)
          same.as_bytes.ways outgoing elsewhere incoming once
          (λ x client two. seat_is x client) seats_here seated_now received_off

      -- so many bytes come
      pub bytes_came : BytesCame names from to net new
      bytes_came = record {
        front = bytes;
        rest = behind;
        bytes_are = ap (λ (w : LinkPipe). w.bytes) old_pipe_is;
        way = same.as_bytes.ways from to ∙ same.are_joined.both_ways from to ∙ told_of_links from
            ∙ ap is_some reads.is_end;
        state = views.theirs;
        at = at;
        is_as = subst (IsAsNetwork names new) (sym net_is) as_network;
      }

link_followed : {W : Type 0} (names : List Name) (from to : ℕ) (net : ByteNetwork) (new : Daemons W)
    → BytesCame names from to net new → HasFollowed names [] net new
link_followed names from to net new came = record {
  last = (bytes_come from to (length came.front) (begun net)).state;
  leads = has_come [] from to (length came.front) net no_more came.way;
  is_as = came.is_as;
}

-- ---- the kind of step

item_is_none : {W : Type 0} (names : List Name) (daemons : Daemons W) (place : ℕ) (event : Event)
    (item : Item) → IsItem names daemons place event item → is_link_line event ≡ false
item_is_none names daemons place event item
    (is_connect which name host named host_is event_is item_is) = ap is_link_line event_is
item_is_none names daemons place event item (is_line which client text seat event_is item_is) =
    ap is_link_line event_is
item_is_none names daemons place event item (is_gone which client seat event_is item_is) =
    ap is_link_line event_is

pub no_items : {W : Type 0} (names : List Name) (daemons : Daemons W) (place : ℕ)
    (events : List Event) (items : List Item) → AreItems names daemons place events items
    → has_item events ≡ false → items ≡ []
no_items names daemons place events items no_item none = refl
no_items names daemons place events items (is_passed event rest more is_link are) none =
    no_items names daemons place rest more are
    (or_parts (not (is_link_line event)) (has_item rest) none).1
no_items names daemons place events items (is_one event rest item more is are) none =
    cc (sym (ap not (item_is_none names daemons place event item is))
    ∙ (or_parts (not (is_link_line event)) (has_item rest) none).0)

module _ {W : Type 0} (is_after : W → List Call → Type 0) (pieces : PiecesCompleteTheSame)
    (lines_end : ServedLinesEnd) (own_law : ServedGoesToItsOwn)
    (stay : ClientsStay) (alike_law : ServedAlike)
  where
    pub by_link : AreFollowed is_after (λ place old new step. ReadsLink step
        × (has_item step.did.events ≡ false))
    by_link names place items old new net step kind links are apart_step told placed same =
        subst (λ xs. HasFollowed names xs net new)
        (sym (no_items names new place step.did.events items are kind.1))
        (link_followed names kind.0.from place net new
        (bytes_came is_after pieces lines_end own_law stay alike_law names place old new net step
        kind.0 kind.1 links told same
        (λ x y name one other. same_Some x y (sym (placed x name one) ∙ placed y name other))))
