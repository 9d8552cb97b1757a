-- What engines are after a turn, of which it is known what it is in a network whose links carry
-- bytes.
use Rattle.std.proofs.Common.{◌≡◌, ℕ, zero, suc, Bool, true, false, not, ◌||◌, nat_eq, is_none}
use Rattle.std.proofs.Common.{is_some, Option, Some, None, List, [], ◌∷◌, ◌++◌, append_assoc}
use Rattle.std.proofs.Common.{append-nil, refl, sym, ◌∙◌, ap, subst, option_map, length, unwrap_or}
use Rattle.std.proofs.Common.{if◌then◌else◌}
use Rattle.std.proofs.Math.Path.{fun_ext}
use Rattle.std.proofs.lemmas.Bool.{eq-eqb, eqb-true, or_parts}
use Rattle.std.proofs.lemmas.Grind.{flat_map-append}
use Rattle.std.proofs.lemmas.List.Folds.{list_any-append}
use Rattle.std.specs.FinMap.{get}
use Rattle.std.specs.List.{flat_map, list_any, slice_get}
use Rattle.std.specs.Option.{option_and_then}
use Rattle.std.proofs.Math.Bool.{or-true, or_comm}
use Rattle.std.proofs.lemmas.Option.{same_Some}
use Rattle.irc_names.specs.Lemmas.PlainFacts.{or_first, nat_eq-turned}
use Rattle.irc_line.specs.Laws.{PiecesCompleteTheSame}
use Rattle.irc_line.specs.Lines.{begun_behind, nothing_begun}
use Rattle.irc_outbox.specs.Calls.{Call, taken, taken_by, written}
use Rattle.irc_batch.specs.Batches.{Sent}
use Rattle.irc_relay.specs.Links.{Name}
use Rattle.irc_relay.specs.Relay.{IsFront}
use Rattle.irc_server.specs.declared.event.Event.{Event}
use Rattle.irc_names.specs.Names.{IsHost}
use Rattle.irc_world.specs.Stepping.{Item, connect}
use Rattle.irc_server.specs.declared.event.Event.TheVariants.{Connect, LinkUp}
use Rattle.irc_server.specs.Served.{ReadEvent, of_client}
use Rattle.irc_server.specs.LineEnds.{ServedLinesEnd}
use Rattle.irc_server.specs.Own.{ServedGoesToItsOwn}
use Rattle.irc_stage.specs.declared.clients.Client.{Client}
use Rattle.irc_stage.specs.Handle.{connects}
use Rattle.irc_network.specs.Node.{Served, reply, serves_read_event}
use Rattle.irc_stage.specs.View.{View}
use Rattle.irc_world.specs.World.{home_in}
use Rattle.irc_network.specs.Network.{Network, Node, begun, home_place, item_kept, server_place}
use Rattle.irc_network.specs.Network.{node_asked, node_at}
use Rattle.irc_pipes.specs.Pipes.{new_pipe, pipe_at}
use Rattle.irc_network.specs.ByteNetwork.{ByteNetwork, item_given, queues_written}
use Rattle.irc_network.specs.Whole.{IsTidy, has_way}
use Rattle.irc_network.specs.Lemmas.NewFramer.{new_is_real}
use Rattle.irc_engine.specs.declared.connection_table.Connection.{Connection}
use Rattle.irc_engine.specs.declared.kind.ConnectionKind.{ConnectionKind}
use Rattle.irc_engine.specs.declared.kind.ConnectionKind.TheVariants as kinds
use Rattle.irc_engine.specs.Carrying.{Fate, answers, bytes_owed, fresh_connection, is_closed_by}
use Rattle.irc_engine.specs.Carrying.{is_open_at, kind_at, open_kind_at}
use Rattle.irc_engine.specs.Hearing.{Hears, begun_at, lines_by, nothing_of}
use Rattle.irc_engine.specs.Lemmas.CarryingLaws.{fate_on, is_closed_by-append}
use Rattle.irc_engine.specs.Lemmas.HearingLaws.{hears_on}
use Rattle.irc_engine.specs.Running.{AllTold, AreAsked, IsInOrder, Moment, Ran, asked_at}
use Rattle.irc_engine.specs.EngineView.{EngineView}
use Rattle.irc_daemons.specs.Alike.{AreServersAlike, AreServersAlikeIf, AreApart, Numbers}
use Rattle.irc_daemons.specs.Alike.{ServedAlike}
use Rattle.irc_daemons.specs.AsBytes.{AreFramersReal, IsAsBytes, IsServerIf, numbers_at}
use Rattle.irc_daemons.specs.AsNetwork.{AllClientsOpen, AreClientsOpen, AreReceived, AreSeated}
use Rattle.irc_daemons.specs.AsNetwork.{HasFollowed, IsAsNetwork, LeadsTo, is_given, no_more}
use Rattle.irc_daemons.specs.Clients.{ClientsStay}
use Rattle.irc_daemons.specs.Daemons.{AreJoined, AreLinksOpen, Daemons, IsToldOfLinks}
use Rattle.irc_daemons.specs.Daemons.{connection_at, connection_in, end_at, unsent, pipe_between}
use Rattle.irc_daemons.specs.Doings.{Doings, and_then, answers_did, newcomer_in, ran_did, taken_at}
use Rattle.irc_daemons.specs.Doings.{written_at}
use Rattle.irc_daemons.specs.Items.{AnswersSpaced, AreItems, AreSpaced, IsApartStep, IsItem}
use Rattle.irc_daemons.specs.Items.{has_item, is_connect, is_gone, is_line, is_link_line}
use Rattle.irc_daemons.specs.Receiving.{IsReceived, bytes_received, has_come}
use Rattle.irc_daemons.specs.Steps.{Steps, came_after, seat_after, seats_after}
use Rattle.irc_daemons.proofs.Asked.{AllStill, AreTextsCarried, Goes, IsAt, NoneConnects}
use Rattle.irc_daemons.proofs.Asked.{ServesClients, Took, WasThere, all_go, at_rest, at_then}
use Rattle.irc_daemons.proofs.Asked.{is_left, leads_both, none_refused, quiet_then, serves_both}
use Rattle.irc_daemons.proofs.Asked.{took}
use Rattle.irc_daemons.proofs.Connected.{get_last, get_past, given_connect, home_kept, host_of}
use Rattle.irc_daemons.proofs.Connected.{next_is, not_refused_here, nothing_said, one_longer}
use Rattle.irc_daemons.proofs.Connected.{same_bytes, view_of_served, with_one}
use Rattle.irc_daemons.proofs.Heard.{none_stays}
use Rattle.irc_daemons.proofs.Given.{Went, item_went, went_both, pipe_behind}
use Rattle.irc_daemons.proofs.Lists.{front_none, set_elsewhere, set_here}
use Rattle.irc_daemons.proofs.Open.{IsOpenOf, StreamLinesAreCarried, as_open_of, heard_carried}
use Rattle.irc_daemons.proofs.Open.{keeps_kind, none_connects, none_gone, open_of, stays_open}
use Rattle.irc_daemons.proofs.Open.{texts_carried}
use Rattle.irc_daemons.proofs.Single.{HasServer, HasView, HaveViews, has_framer, has_server}
use Rattle.irc_daemons.proofs.Single.{has_view, have_views, is_carried, moved, none_read}
use Rattle.irc_daemons.proofs.Single.{real_or_none, same_pipe, taken_in}
use Rattle.irc_daemons.proofs.Seats.{SeatThen, alike_then, is_new, is_old, joined_then}
use Rattle.irc_daemons.proofs.Seats.{numbers_then, seat_elsewhere, seat_of_new, seat_then}
use Rattle.irc_daemons.proofs.Sent.{server_at}
use Rattle.irc_daemons.proofs.Split.{FirstIs, IsSplit, first_of, is_first, is_link_text, split}
use Rattle.irc_daemons.proofs.Told.{IsRealBegun, IsRealIf, begun_or_none, framed, nothing_heard}
use Rattle.irc_daemons.proofs.Told.{stays_real}
use Rattle.irc_daemons.proofs.Turn.{BeginsWith, FirstPart, IsMade, client_comes, first_part}
use Rattle.irc_daemons.proofs.Turn.{link_comes, nobody_comes}

-- ---- what becomes of bytes

-- what is left, written or not, of one that was there
pub record IsLeft (q : ℕ) (old new : Option Connection) (calls : List Call)
    (outs : List Sent) : Type 0 where
  pub left : List ℕ
  pub bytes : unsent old ++ bytes_owed (is_open_at old) q outs ≡ written q calls ++ left
  pub is_there : is_some new ≡ true → left ≡ unsent new

pub is_left_of : (q : ℕ) (old new : Option Connection) (calls : List Call) (outs : List Sent)
    → Fate q old calls outs new → IsLeft q old new calls outs
is_left_of q None None calls outs fate = record {
  left = [];
  bytes = sym (append-nil (written q calls) ∙ fate.nothing);
  is_there = λ there. cc there;
}
is_left_of q None (Some new) calls outs fate = absurd fate
is_left_of q (Some old) None calls outs fate =
    record { left = fate.left; bytes = fate.carried; is_there = λ there. cc there }
is_left_of q (Some old) (Some new) calls outs fate =
    record { left = new.outbox.bytes; bytes = fate.carried; is_there = λ there. refl }

was_there : (q : ℕ) (old new : Option Connection) (calls : List Call) (outs : List Sent)
    → Fate q old calls outs new → is_some new ≡ true → is_some old ≡ true
was_there q None None calls outs fate there = there
was_there q None (Some new) calls outs fate there = absurd fate
was_there q (Some old) new calls outs fate there = refl

silent_of : (q : ℕ) (old new : Option Connection) (calls : List Call) (outs : List Sent)
    → Fate q old calls outs new → is_some old ≡ false → written q calls ≡ []
silent_of q None None calls outs fate none = fate.nothing
silent_of q None (Some new) calls outs fate none = absurd fate
silent_of q (Some old) new calls outs fate none = cc none

-- ---- inboxes

same_some : {A B : Type 0} (xs : List A) (ys : List B) (n : ℕ) → length xs ≡ length ys
    → is_some (slice_get xs n) ≡ is_some (slice_get ys n)
same_some [] [] n same = refl
same_some [] (y ∷ ys) n same = cc same
same_some (x ∷ xs) [] n same = cc same
same_some (x ∷ xs) (y ∷ ys) zero same = refl
same_some (x ∷ xs) (y ∷ ys) (suc n) same = same_some xs ys n (cc same)

-- who has a home has an inbox
pub come_if_home : (net : Network) (client : ℕ) → length net.received ≡ length net.homes
    → is_some (home_in net.homes client) ≡ true → has_come net client ≡ true
come_if_home net zero same there = cc there
come_if_home net (suc earlier) same there = same_some net.received net.homes earlier same ∙ there

pub bytes_none : (net : Network) (client : ℕ) → has_come net client ≡ false
    → bytes_received net client ≡ []
bytes_none net zero none = refl
bytes_none net (suc earlier) none = by (slice_get net.received earlier) none
  where
    by : (o : Option (List (List ℕ))) → is_some o ≡ false
        → flat_map (λ text. text) (unwrap_or o []) ≡ []
    by None none = refl
    by (Some lines) none = cc none

-- bytes of a front that is written further
front_then : (sent held more gone left all : List ℕ) → all ≡ sent ++ held
    → held ++ more ≡ gone ++ left → all ++ more ≡ (sent ++ gone) ++ left
front_then sent held more gone left all is carried =
    ap (λ bs. bs ++ more) is ∙ moved sent held more gone left carried

-- ---- the turn

module _ {W : Type 0} (is_after : W → List Call → Type 0) (pieces : PiecesCompleteTheSame)
    (names : List Name) (place : ℕ) (old new : Daemons W)
    (step : Steps is_after place old new) (not_itself : (x : ℕ) → old.ends x x ≡ None)
    (clients_open : AllClientsOpen old) (in_order : IsInOrder step.engine.now)
    (framers : AreFramersReal step.engine.now)
  where
    abbrev pub engine : EngineView W
    engine = step.engine

    abbrev pub start : Moment W
    start = record engine.now { wire = step.turn.wire }

    abbrev pub mid_moment : Moment W
    mid_moment = step.turn.does.between

    abbrev pub end : Moment W
    end = step.after.now

    abbrev pub newcomer : Option ℕ
    newcomer =
        newcomer_in is_after engine.sizes step.turn.report start mid_moment step.turn.does.answers

    abbrev pub part : FirstPart is_after start mid_moment
        (answers_did is_after engine.sizes step.turn.report start mid_moment step.turn.does.answers)
        newcomer
        (λ later. AnswersSpaced is_after later engine.sizes step.turn.report start mid_moment
        step.turn.does.answers)
    part = first_part is_after engine.sizes step.turn.report start mid_moment step.turn.does.answers

    abbrev pub begin : Moment W
    begin = part.begin

    abbrev pub first : Ran is_after part.exchanges part.given part.came begin mid_moment
    first = part.ran

    abbrev pub second : Ran is_after step.turn.does.writes.exchanges [] nothing_of mid_moment end
    second = step.turn.does.writes.ran

    abbrev pub calls : List Call
    calls = first.calls ++ second.calls

    abbrev pub outs : List Sent
    outs = first.outs ++ second.outs

    pub order_start : IsInOrder start
    order_start = record {
      all_told = in_order.all_told;
      noted = in_order.noted;
      none_done = in_order.none_done;
    }

    pub told_mid : AllTold mid_moment
    told_mid = (step.turn.does.all_told order_start.all_told).0

    pub told_end : AllTold end
    told_end = (step.turn.does.all_told order_start.all_told).1

    pub told_begin : AllTold begin
    told_begin q = by part.begins
      where
        by : BeginsWith start begin part.given newcomer → begin.lost q ≡ None
        by (nobody_comes same given none) =
            ap (λ (m : Moment W). m.lost q) same ∙ order_start.all_told q
        by (client_comes room conn host made given is) =
            ap (λ (f : ℕ → Option ConnectionKind). f q) made.lost
            ∙ order_start.all_told q
        by (link_comes room conn called made given is) =
            ap (λ (f : ℕ → Option ConnectionKind). f q) made.lost
            ∙ order_start.all_told q

    abbrev pub all_did : Doings
    all_did =
        and_then (ran_did is_after part.exchanges part.given part.came begin mid_moment first)
        (ran_did is_after step.turn.does.writes.exchanges [] nothing_of mid_moment end second)

    pub did_all : step.did ≡ all_did
    did_all =
        step.did_is ∙ ap (λ d. and_then d (ran_did is_after step.turn.does.writes.exchanges []
        nothing_of mid_moment end second)) part.did_is

    pub calls_are : step.did.calls ≡ calls
    calls_are = ap (λ (d : Doings). d.calls) did_all

    -- ---- who was there at the start

    there_still : (room conn : ℕ) (kind : ConnectionKind) → IsMade kind room conn start begin
        → (q : ℕ) → is_some (start.connections q) ≡ true → begin.connections q ≡ start.connections q
    there_still room conn kind made q there = made.connections q ∙ by (nat_eq conn q) refl
      where
        by : (b : Bool) → nat_eq conn q ≡ b → (if b then Some (fresh_connection kind room)
            else start.connections q) ≡ start.connections q
        by true same =
            cc (sym (ap is_some (ap start.connections (sym (eqb-true conn q same)) ∙ made.free))
            ∙ there)
        by false two = refl

    pub begins_same : (q : ℕ) → is_some (start.connections q) ≡ true
        → begin.connections q ≡ start.connections q
    begins_same q there = by part.begins
      where
        by : BeginsWith start begin part.given newcomer → begin.connections q ≡ start.connections q
        by (nobody_comes same given none) = ap (λ (m : Moment W). m.connections q) same
        by (client_comes room conn host made given is) =
            there_still room conn kinds.Client made q there
        by (link_comes room conn called made given is) =
            there_still room conn kinds.Link made q there

    real_start : (q : ℕ) → IsRealIf (begun_at (start.connections q))
    real_start q = framers q

    real_made : (room conn : ℕ) (kind : ConnectionKind) → IsMade kind room conn start begin
        → (q : ℕ) → IsRealIf (begun_at (begin.connections q))
    real_made room conn kind made q =
        subst (λ o. IsRealIf (begun_at o)) (sym (made.connections q)) (by (nat_eq conn q))
      where
        by : (b : Bool) → IsRealIf
            (begun_at (if b then Some (fresh_connection kind room) else start.connections q))
        by true begun is = subst IsRealBegun (same_Some nothing_begun begun is) new_is_real
        by false begun is = real_start q begun is

    pub real_begin : (q : ℕ) → IsRealIf (begun_at (begin.connections q))
    real_begin q = by part.begins
      where
        by : BeginsWith start begin part.given newcomer → IsRealIf (begun_at (begin.connections q))
        by (nobody_comes same given none) = subst
            (λ (m : Moment W). IsRealIf (begun_at (m.connections q))) (sym same) (real_start q)
        by (client_comes room conn host made given is) = real_made room conn kinds.Client made q
        by (link_comes room conn called made given is) = real_made room conn kinds.Link made q

    pub real_mid : (q : ℕ) → IsRealIf (begun_at (mid_moment.connections q))
    real_mid q =
        stays_real pieces (begun_at (begin.connections q)) (begun_at (mid_moment.connections q))
        (part.came q) (lines_by q first.events) (real_begin q)
        (first.hears q)

    pub real_end : (q : ℕ) → IsRealIf (begun_at (end.connections q))
    real_end q =
        stays_real pieces (begun_at (mid_moment.connections q)) (begun_at (end.connections q)) []
        (lines_by q second.events) (real_mid q) (second.hears q)

    -- ---- what was read and written

    pub taken_is : (q : ℕ) → taken q step.did.calls ≡ part.came q
    taken_is q =
        ap (taken q) calls_are ∙ flat_map-append (taken_by q) first.calls second.calls
        ∙ ap (λ xs. xs ++ taken q second.calls) (taken_in q first.calls
        ∙ ap (taken q) first.exchanged ∙ part.takes q)
        ∙ ap (λ xs. part.came q ++ xs)
        (taken_in q second.calls ∙ ap (taken q) second.exchanged
        ∙ none_read q step.turn.does.writes.exchanges
        (step.turn.does.writes.each (step.turn.does.in_order order_start).0).write_some)
        ∙ append-nil (part.came q)

    pub fate : (q : ℕ) → Fate q (begin.connections q) calls outs (end.connections q)
    fate q =
        fate_on q first.calls second.calls first.outs second.outs (begin.connections q)
        (mid_moment.connections q) (end.connections q) (first.fates q)
        (second.fates q)

    -- ---- engines

    pub here : (q : ℕ) → connection_at old place q ≡ start.connections q
    here q = ap (λ o. connection_in o q) step.at

    pub after_here : slice_get new.engines place ≡ Some step.after
    after_here = ap (λ es. slice_get es place) step.engines_are
        ∙ set_here old.engines place engine step.after step.at

    pub engine_there : (x : ℕ) → nat_eq x place ≡ false
        → slice_get new.engines x ≡ slice_get old.engines x
    engine_there x two = ap (λ es. slice_get es x) step.engines_are
        ∙ set_elsewhere old.engines place x step.after two

    pub here_now : (q : ℕ) → connection_at new place q ≡ end.connections q
    here_now q = ap (λ o. connection_in o q) after_here

    pub there_now : (x q : ℕ) → nat_eq x place ≡ false
        → connection_at new x q ≡ connection_at old x q
    there_now x q two = ap (λ o. connection_in o q) (engine_there x two)

    pub ends_are : (x y : ℕ) → new.ends x y ≡ old.ends x y
    ends_are x y = ap (λ (f : ℕ → ℕ → Option ℕ). f x y) step.same_ends

    some_of_open : (connection : Option Connection) → is_open_at connection ≡ true
        → is_some connection ≡ true
    some_of_open None opened = cc opened
    some_of_open (Some connection) opened = refl

    ways_are : (x y : ℕ) → new.ways x y ≡ old.ways x y
    ways_are x y = ap (λ (f : ℕ → ℕ → Bool). f x y) step.same_ways

    -- a link's end, which was open at the start, or is there from now on
    pub record IsEndBegun (q : ℕ) : Type 0 where
      pub is_link : IsOpenOf kinds.Link (begin.connections q)
      pub same_unsent : unsent (start.connections q) ≡ unsent (begin.connections q)
      pub same_begun : begun_or_none (begun_at (start.connections q))
          ≡ begun_or_none (begun_at (begin.connections q))

    pub begun_before : (q : ℕ) → IsOpenOf kinds.Link (start.connections q) → IsEndBegun q
    begun_before q link =
        let same = begins_same q (some_of_open (start.connections q) link.is_open) in record {
          is_link = subst (IsOpenOf kinds.Link) (sym same) link;
          same_unsent = ap unsent (sym same);
          same_begun = ap (λ o. begun_or_none (begun_at o)) (sym same);
        }

    end_was : (y q : ℕ) → old.ends place y ≡ Some q → end_at old place y ≡ start.connections q
    end_was y q is = ap (option_and_then (connection_at old place)) is ∙ here q

    end_now : (y q : ℕ) → old.ends place y ≡ Some q → end_at new place y ≡ end.connections q
    end_now y q is = ap (option_and_then (connection_at new place)) (ends_are place y ∙ is)
        ∙ here_now q

    end_none : (x y : ℕ) → old.ends x y ≡ None → end_at new x y ≡ end_at old x y
    end_none x y is = ap (option_and_then (connection_at new x)) (ends_are x y ∙ is)
        ∙ sym (ap (option_and_then (connection_at old x)) is)

    end_there : (x y : ℕ) → nat_eq x place ≡ false → end_at new x y ≡ end_at old x y
    end_there x y two =
        ap (option_and_then (connection_at new x)) (ends_are x y) ∙ by (old.ends x y)
      where
        by : (o : Option ℕ)
            → option_and_then (connection_at new x) o ≡ option_and_then (connection_at old x) o
        by None = refl
        by (Some q) = there_now x q two

    -- the other ends of its links stay
    far_end : (y : ℕ) → end_at new y place ≡ end_at old y place
    far_end y = by (nat_eq y place) refl
      where
        by : (b : Bool) → nat_eq y place ≡ b → end_at new y place ≡ end_at old y place
        by true one =
            subst (λ n. end_at new n place ≡ end_at old n place) (sym (eqb-true y place one))
            (end_none place place (not_itself place))
        by false two = end_there y place two

    not_here : (y q : ℕ) → old.ends place y ≡ Some q → nat_eq y place ≡ false
    not_here y q is = by (nat_eq y place) refl
      where
        by : (b : Bool) → nat_eq y place ≡ b → b ≡ false
        by true one = cc (sym is ∙ ap (old.ends place) (eqb-true y place one) ∙ not_itself place)
        by false two = refl

    -- ---- joined then

    module _ (joined_now : AreJoined new)
        (ends_begin : (y q : ℕ) → old.ends place y ≡ Some q → IsEndBegun q) where
      pub link_end : (y q : ℕ) → old.ends place y ≡ Some q → IsOpenOf kinds.Link (end.connections q)
      link_end y q is =
          open_of kinds.Link (end.connections q) (ap open_kind_at (sym (here_now q))
          ∙ joined_now.are_open place y q (ends_are place y ∙ is))

      -- no link is closed
      pub links_stay : (y q : ℕ) → old.ends place y ≡ Some q → is_closed_by q outs ≡ false
      links_stay y q is =
          (is_carried q (begin.connections q) (end.connections q) calls outs (fate q)
          (link_end y q is).is_open).not_closed

      -- where nothing of it was read its framer is as it was
      pub framer_stays : (y q : ℕ) → old.ends place y ≡ Some q → part.came q ≡ [] → begun_or_none
          (begun_at (end.connections q)) ≡ begun_or_none (begun_at (start.connections q))
      framer_stays y q is none =
          (framed pieces (begun_at (begin.connections q)) (begun_at (end.connections q))
          (part.came q ++ [])
          (lines_by q first.events ++ lines_by q second.events) (real_begin q)
          (hears_on (begun_at (begin.connections q)) (begun_at (mid_moment.connections q))
          (begun_at (end.connections q)) (part.came q) []
          (lines_by q first.events) (lines_by q second.events) (first.hears q) (second.hears q))
          (has_framer (end.connections q) (link_end y q is).is_open)).begun
          ∙ ap (begun_behind (begun_or_none (begun_at (begin.connections q))))
          (append-nil (part.came q) ∙ none)
          ∙ (pieces (begun_or_none (begun_at (begin.connections q)))
          (real_or_none (begun_at (begin.connections q)) (real_begin q))).none_begun
          ∙ sym (ends_begin y q is).same_begun

      -- what is on the way to this server where nothing was read
      pub incoming_stays : ((y q : ℕ) → old.ends place y ≡ Some q → part.came q ≡ []) → (x : ℕ)
          → nat_eq x place ≡ false → pipe_between old x place ≡ pipe_between new x place
      incoming_stays none x two =
          same_pipe (begun_or_none (begun_at (end_at old place x)))
          (begun_or_none (begun_at (end_at new place x)))
          (old.transit x place ++ unsent (end_at old x place)) (new.transit x place
          ++ unsent (end_at new x place)) (begun_same (old.ends place x) refl)
          (ap (λ bs. bs ++ unsent (end_at old x place)) (transit_same (old.ends place x) refl)
          ∙ ap (λ o. new.transit x place ++ unsent o) (sym (end_there x place two)))
        where
          begun_same : (o : Option ℕ) → old.ends place x ≡ o → begun_or_none
              (begun_at (end_at old place x)) ≡ begun_or_none (begun_at (end_at new place x))
          begun_same None is = ap (λ c. begun_or_none (begun_at c)) (sym (end_none place x is))
          begun_same (Some q) is =
              ap (λ c. begun_or_none (begun_at c)) (end_was x q is)
              ∙ sym (framer_stays x q is (none x q is))
              ∙ ap (λ c. begun_or_none (begun_at c)) (sym (end_now x q is))

          transit_same : (o : Option ℕ) → old.ends place x ≡ o
              → old.transit x place ≡ new.transit x place
          transit_same None is =
              step.reads x ∙ ap (λ o. taken_at o step.did.calls ++ new.transit x place) is
          transit_same (Some q) is =
              step.reads x ∙ ap (λ o. taken_at o step.did.calls ++ new.transit x place) is
              ∙ ap (λ xs. xs ++ new.transit x place) (taken_is q ∙ none x q is)

      -- ---- what the network did

      module _ (mid after : ByteNetwork) (own last : View)
          (went : Went place (numbers_at new place) last outs mid after)
          (is_last : end.server ≡ Some last)
          (serves : ServesClients (numbers_at new place) own last
          ((part.given ++ first.events) ++ second.events) outs)
          (own_open : (q : ℕ) → is_some (get own.clients q) ≡ true
          → open_kind_at (begin.connections q) ≡ Some kinds.Client)
          (servers_mid : (x : ℕ) → nat_eq x place ≡ false
          → IsServerIf (numbers_at old x) (slice_get old.engines x) (node_at mid.network x))
          (ways_mid : (x y : ℕ) → has_way mid.network x y ≡ old.ways x y)
          (outgoing : (y : ℕ) → pipe_at mid.pipes place y ≡ pipe_between old place y)
          (elsewhere : (x y : ℕ) → nat_eq x place ≡ false → nat_eq y place ≡ false
          → pipe_at mid.pipes x y ≡ pipe_between old x y)
          (incoming : (x : ℕ) → nat_eq x place ≡ false
          → pipe_at mid.pipes x place ≡ pipe_between new x place)
          (once : (x y : ℕ) (name : Name) → slice_get names x ≡ Some name
          → slice_get names y ≡ Some name → x ≡ y)
          (seats_there : (x client : ℕ) → nat_eq x place ≡ false
          → new.seats x client ≡ old.seats x client)
          (seats_here : (client q : ℕ) → new.seats place client ≡ Some q
          → is_some (begin.connections q) ≡ true
          → bytes_received mid.network client ≡ old.written client ++ unsent (begin.connections q))
          (seated : AreSeated names new mid) (received : AreReceived old mid)
        where
          abbrev numbers : Numbers
          numbers = numbers_at new place

          -- ---- pipes

          transit_now : (y q : ℕ) → old.ends place y ≡ Some q
              → new.transit place y ≡ old.transit place y ++ written q calls
          transit_now y q is =
              step.writes y ∙ ap (λ o. old.transit place y ++ written_at o step.did.calls) is
              ∙ ap (λ cs. old.transit place y ++ written q cs) calls_are

          pipe_here : (y q : ℕ) → old.ends place y ≡ Some q
              → pipe_at after.pipes place y ≡ pipe_between new place y
          pipe_here y q is =
              let carried = is_carried q (begin.connections q) (end.connections q) calls outs
              (fate q) (link_end y q is).is_open in
              went.pipes_here y q (ends_are place y ∙ is) carried.not_closed
              ∙ ap (pipe_behind (answers q outs)) (outgoing y)
              ∙ same_pipe (begun_or_none (begun_at (end_at old y place)))
              (begun_or_none (begun_at (end_at new y place)))
              ((old.transit place y ++ unsent (end_at old place y)) ++ answers q outs)
              (new.transit place y ++ unsent (end_at new place y))
              (ap (λ o. begun_or_none (begun_at o)) (sym (end_there y place (not_here y q is))))
              (moved (old.transit place y) (unsent (end_at old place y)) (answers q outs)
              (written q calls) (unsent (end.connections q))
              (ap (λ bs. bs ++ answers q outs) (ap unsent (end_was y q is)
              ∙ (ends_begin y q is).same_unsent) ∙ carried.bytes)
              ∙ ap (λ xs. xs ++ unsent (end.connections q)) (sym (transit_now y q is))
              ∙ ap (λ o. new.transit place y ++ unsent o) (sym (end_now y q is)))

          pipe_none : (y : ℕ) → old.ends place y ≡ None
              → pipe_at after.pipes place y ≡ pipe_between new place y
          pipe_none y is =
              went.no_way y (ends_are place y ∙ is) ∙ outgoing y
              ∙ same_pipe (begun_or_none (begun_at (end_at old y place)))
              (begun_or_none (begun_at (end_at new y place)))
              (old.transit place y ++ unsent (end_at old place y))
              (new.transit place y ++ unsent (end_at new place y))
              (ap (λ o. begun_or_none (begun_at o)) (sym (far_end y)))
              (ap (λ xs. xs ++ unsent (end_at old place y))
              (sym (append-nil (old.transit place y)) ∙ ap (λ o. old.transit place y
              ++ written_at o step.did.calls) (sym is) ∙ sym (step.writes y))
              ∙ ap (λ o. new.transit place y ++ unsent o) (sym (end_none place y is)))

          pipe_apart : (x y : ℕ) → nat_eq x place ≡ false → nat_eq y place ≡ false
              → pipe_at after.pipes x y ≡ pipe_between new x y
          pipe_apart x y two other =
              went.pipes_there x y two ∙ elsewhere x y two other
              ∙ same_pipe (begun_or_none (begun_at (end_at old y x))) (begun_or_none
              (begun_at (end_at new y x))) (old.transit x y ++ unsent (end_at old x y))
              (new.transit x y ++ unsent (end_at new x y))
              (ap (λ o. begun_or_none (begun_at o)) (sym (end_there y x other)))
              (ap (λ xs. xs ++ unsent (end_at old x y)) (sym (step.elsewhere x y two other))
              ∙ ap (λ o. new.transit x y ++ unsent o) (sym (end_there x y two)))

          all_pipes : (x y : ℕ) → pipe_at after.pipes x y ≡ pipe_between new x y
          all_pipes x y = by (nat_eq x place) (nat_eq y place) refl refl
            where
              by_end : (z : ℕ) (o : Option ℕ) → old.ends place z ≡ o
                  → pipe_at after.pipes place z ≡ pipe_between new place z
              by_end z None is = pipe_none z is
              by_end z (Some q) is = pipe_here z q is

              by : (a b : Bool) → nat_eq x place ≡ a → nat_eq y place ≡ b
                  → pipe_at after.pipes x y ≡ pipe_between new x y
              by true b one there =
                  subst (λ n. pipe_at after.pipes n y ≡ pipe_between new n y)
                  (sym (eqb-true x place one)) (by_end y (old.ends place y) refl)
              by false true two there =
                  subst (λ n. pipe_at after.pipes x n ≡ pipe_between new x n)
                  (sym (eqb-true y place there))
                  (went.pipes_there x place two ∙ incoming x two)
              by false false two other = pipe_apart x y two other

          -- ---- servers

          node_server : (o : Option Node) → option_map (λ (s : Node). s.server) o
              ≡ Some (Some went.state) → IsServerIf numbers (Some step.after) o
          node_server None is = cc is
          node_server (Some node) is = record {
            in_order = (step.turn.does.in_order order_start).1;
            framers = λ q begun at. real_end q begun at;
            servers =
                subst (λ o. AreServersAlikeIf numbers o node.server) (sym is_last)
                (subst (λ o. AreServersAlikeIf numbers (Some last) o)
                (sym (same_Some node.server (Some went.state) is)) went.alike);
          }

          other_server : (o : Option (EngineView W)) (was now : Option Node)
              → option_map (λ (s : Node). s.server) now ≡ option_map (λ (s : Node). s.server) was
              → (n : Numbers) → IsServerIf n o was → IsServerIf n o now
          other_server None None None same n is = is
          other_server None None (Some node) same n is = cc same
          other_server None (Some node) now same n is = absurd is
          other_server (Some e) None now same n is = absurd is
          other_server (Some e) (Some node) None same n is = cc same
          other_server (Some e) (Some node) (Some now) same n is = record {
            in_order = is.in_order;
            framers = is.framers;
            servers = subst (λ o. AreServersAlikeIf n e.now.server o)
                (sym (same_Some now.server node.server same)) is.servers;
          }

          numbers_there : (x : ℕ) → nat_eq x place ≡ false → numbers_at old x ≡ numbers_at new x
          numbers_there x two =
              let clients : old.seats x ≡ new.seats x =
              fun_ext (λ client. sym (seats_there x client two)) in
              λ i. record { link = sym step.same_ends i x; client = clients i }

          all_servers : (x : ℕ)
              → IsServerIf (numbers_at new x) (slice_get new.engines x) (node_at after.network x)
          all_servers x = by (nat_eq x place) refl
            where
              by : (b : Bool) → nat_eq x place ≡ b → IsServerIf (numbers_at new x)
                  (slice_get new.engines x) (node_at after.network x)
              by true one =
                  subst (λ n. IsServerIf (numbers_at new n) (slice_get new.engines n)
                  (node_at after.network n)) (sym (eqb-true x place one))
                  (subst (λ o. IsServerIf numbers o (node_at after.network place)) (sym after_here)
                  (node_server (node_at after.network place) went.server))
              by false two =
                  subst (λ n. IsServerIf n (slice_get new.engines x) (node_at after.network x))
                  (numbers_there x two)
                  (subst (λ o. IsServerIf (numbers_at old x) o (node_at after.network x))
                  (sym (engine_there x two))
                  (other_server (slice_get old.engines x) (node_at mid.network x)
                  (node_at after.network x) (went.others x two) (numbers_at old x)
                  (servers_mid x two)))

          as_bytes : IsAsBytes new after
          as_bytes = record {
            servers = all_servers;
            ways = λ x y. went.ways x y ∙ ways_mid x y ∙ sym (ways_are x y);
            pipes = all_pipes;
            tidy = went.tidy;
          }

          -- ---- clients

          last_is : (view : View) → end.server ≡ Some view → view ≡ last
          last_is view is = same_Some view last (sym is ∙ is_last)

          client_end : (number q : ℕ) → numbers.client number ≡ Some q
              → WasThere own q ((part.given ++ first.events) ++ second.events) outs
              → open_kind_at (end.connections q) ≡ Some kinds.Client
          client_end number q seat was =
              let open_first = open_of kinds.Client (begin.connections q) (own_open q was.was) in
              let closed = or_parts (is_closed_by q first.outs) (is_closed_by q second.outs)
              (sym (is_closed_by-append q first.outs second.outs) ∙ was.not_closed) in
              let gone = or_parts (list_any (is_left q) (part.given ++ first.events))
              (list_any (is_left q) second.events)
              (sym (list_any-append (is_left q) (part.given ++ first.events) second.events)
              ∙ was.not_gone) in
              let gone_first =
              or_parts (list_any (is_left q) part.given) (list_any (is_left q) first.events)
              (sym (list_any-append (is_left q) part.given first.events) ∙ gone.0) in
              let open_mid : is_open_at (mid_moment.connections q) ≡ true =
              stays_open is_after part.exchanges part.given part.came begin mid_moment first q
              (told_begin q) (told_mid q) open_first.is_open closed.0
              (none_gone begin told_begin q first.events open_first.kind first.are_news
              gone_first.1) in
              let kind_mid : kind_at (mid_moment.connections q) ≡ Some kinds.Client =
              keeps_kind kinds.Client (begin.connections q) (mid_moment.connections q)
              (begin.lost q) (mid_moment.lost q) (first.keep_kinds q)
              (told_begin q) open_first.kind open_mid in
              let open_end : is_open_at (end.connections q) ≡ true =
              stays_open is_after step.turn.does.writes.exchanges [] nothing_of mid_moment end
              second q (told_mid q) (told_end q) open_mid closed.1
              (none_gone mid_moment told_mid q second.events kind_mid second.are_news gone.1) in
              as_open_of kinds.Client (end.connections q) open_end
              (keeps_kind kinds.Client (mid_moment.connections q) (end.connections q)
              (mid_moment.lost q) (end.lost q) (second.keep_kinds q) (told_mid q)
              kind_mid open_end)

          clients_end : AreClientsOpen end
          clients_end view q is there =
              let known : is_some (get last.clients q) ≡ true =
              ap (λ (v : View). is_some (get v.clients q)) (sym (last_is view is)) ∙ there in
              let among = went.alike.alike.no_other_client q known in
              client_end among.number q among.is (serves.still among.number q among.is known)

          clients_now : AllClientsOpen new
          clients_now x found at = by (nat_eq x place) refl
            where
              by : (b : Bool) → nat_eq x place ≡ b → AreClientsOpen found.now
              by true one =
                  subst (λ (e : EngineView W). AreClientsOpen e.now)
                  (same_Some step.after found (sym after_here ∙ ap (slice_get new.engines)
                  (sym (eqb-true x place one)) ∙ at)) clients_end
              by false two = clients_open x found (sym (engine_there x two) ∙ at)

          -- ---- seats

          homes_are : after.network.homes ≡ mid.network.homes
          homes_are = went.keeps.homes

          seated_now : AreSeated names new after
          seated_now = record {
            names_are = seated.names_are ∙ sym went.keeps.names;
            came = seated.came ∙ ap (λ (homes : List Name). length homes) (sym homes_are);
            inboxes = went.keeps.inboxes ∙ seated.inboxes
                ∙ ap (λ (homes : List Name). length homes) (sym homes_are);
            home = λ x client q seat. seated.home x client q seat
                ∙ ap (λ homes. home_in homes client) (sym homes_are);
            seat = λ x client q seat. ap (λ homes. is_some (home_in homes client)) homes_are
                ∙ seated.seat x client q seat;
          }

          -- ---- receipts

          come_seated : (x client q : ℕ) → new.seats x client ≡ Some q
              → has_come mid.network client ≡ true
          come_seated x client q seat =
              come_if_home mid.network client seated.inboxes (seated.seat x client q seat)

          written_seat : (client q : ℕ) → new.seats place client ≡ Some q
              → new.written client ≡ old.written client ++ written q calls
          written_seat client q seat =
              step.sends client ∙ ap (λ o. old.written client ++ written_at o step.did.calls) seat
              ∙ ap (λ cs. old.written client ++ written q cs) calls_are

          written_none : (client : ℕ) → new.seats place client ≡ None
              → new.written client ≡ old.written client
          written_none client none =
              step.sends client ∙ ap (λ o. old.written client ++ written_at o step.did.calls) none
              ∙ append-nil (old.written client)

          bytes_same : (client : ℕ) → new.seats place client ≡ None
              → bytes_received after.network client ≡ bytes_received mid.network client
          bytes_same client none = by (has_come mid.network client) refl
            where
              by : (b : Bool) → has_come mid.network client ≡ b
                  → bytes_received after.network client ≡ bytes_received mid.network client
              by true has = went.gets_nothing client none has
              by false has = bytes_none after.network client (went.come client ∙ has)
                  ∙ sym (bytes_none mid.network client has)

          -- what is owed to a client is all that is put out to it
          owed_is : (client q : ℕ) → new.seats place client ≡ Some q
              → bytes_owed (is_open_at (begin.connections q)) q outs ≡ answers q outs
          owed_is client q seat = by (is_open_at (begin.connections q)) refl
            where
              not_own : is_open_at (begin.connections q) ≡ false → (b : Bool)
                  → is_some (get own.clients q) ≡ b → is_some (get own.clients q) ≡ false
              not_own closed true has = cc (sym closed
                  ∙ (open_of kinds.Client (begin.connections q) (own_open q has)).is_open)
              not_own closed false has = has

              by : (b : Bool) → is_open_at (begin.connections q) ≡ b
                  → bytes_owed b q outs ≡ answers q outs
              by true opened = refl
              by false closed = sym
                  (serves.silent client q seat (not_own closed (is_some (get own.clients q)) refl))

          seat_left : (client q : ℕ) → IsLeft q (begin.connections q) (end.connections q) calls outs
          seat_left client q =
              is_left_of q (begin.connections q) (end.connections q) calls outs (fate q)

          -- of one whose connection was there
          bytes_left : (client q : ℕ) → new.seats place client ≡ Some q
              → is_some (begin.connections q) ≡ true → bytes_received after.network client
              ≡ new.written client ++ (seat_left client q).left
          bytes_left client q seat there =
              went.gets client q seat (come_seated place client q seat)
              ∙ front_then (old.written client) (unsent (begin.connections q)) (answers q outs)
              (written q calls) (seat_left client q).left
              (bytes_received mid.network client) (seats_here client q seat there)
              (ap (λ bs. unsent (begin.connections q) ++ bs) (sym (owed_is client q seat))
              ∙ (seat_left client q).bytes)
              ∙ ap (λ bs. bs ++ (seat_left client q).left) (sym (written_seat client q seat))

          there_here : (client q : ℕ) → new.seats place client ≡ Some q
              → is_some (end.connections q) ≡ true → bytes_received after.network client
              ≡ new.written client ++ unsent (end.connections q)
          there_here client q seat there =
              bytes_left client q seat
              (was_there q (begin.connections q) (end.connections q) calls outs (fate q) there)
              ∙ ap (λ bs. new.written client ++ bs) ((seat_left client q).is_there there)

          no_seat_here : (x client q : ℕ) → nat_eq x place ≡ false → new.seats x client ≡ Some q
              → new.seats place client ≡ None
          no_seat_here x client q two seat = by (new.seats place client) refl
            where
              named : (o : Option Name) → home_in mid.network.homes client ≡ o → is_some o ≡ true
                  → (q' : ℕ) → new.seats place client ≡ Some q' → x ≡ place
              named None is there q' seat' = cc there
              named (Some name) is there q' seat' =
                  once x place name (seated.home x client q seat ∙ is)
                  (seated.home place client q' seat' ∙ is)

              by : (o : Option ℕ) → new.seats place client ≡ o → new.seats place client ≡ None
              by None is = is
              by (Some q') is =
                  cc (sym two ∙ eq-eqb x place (named (home_in mid.network.homes client) refl
                  (seated.seat x client q seat) q' is))

          received_now : AreReceived new after
          received_now = record {
            there = λ x client q seat there.
                there_at x client q seat there (nat_eq x place) refl;
            front = front_at;
          }
            where
              there_at : (x client q : ℕ) → new.seats x client ≡ Some q
                  → is_some (connection_at new x q) ≡ true → (b : Bool) → nat_eq x place ≡ b
                  → IsReceived new after x client q
              there_at x client q seat there true one =
                  subst (λ n. IsReceived new after n client q) (sym (eqb-true x place one))
                  (there_here client q
                  (ap (λ n. new.seats n client) (sym (eqb-true x place one)) ∙ seat)
                  (ap is_some (sym (here_now q)
                  ∙ ap (λ n. connection_at new n q) (sym (eqb-true x place one))) ∙ there)
                  ∙ ap (λ o. new.written client ++ unsent o) (sym (here_now q)))
              there_at x client q seat there false two =
                  let none = no_seat_here x client q two seat in
                  bytes_same client none
                  ∙ received.there x client q (sym (seats_there x client two) ∙ seat)
                  (ap is_some (sym (there_now x q two)) ∙ there)
                  ∙ ap (λ bs. bs ++ unsent (connection_at old x q)) (sym (written_none client none))
                  ∙ ap (λ o. new.written client ++ unsent o) (sym (there_now x q two))

              front_seat : (client q : ℕ) → new.seats place client ≡ Some q
                  → (b : Bool) → is_some (begin.connections q) ≡ b
                  → IsFront (new.written client) (bytes_received after.network client)
              front_seat client q seat true there =
                  ((seat_left client q).left, sym (bytes_left client q seat there))
              front_seat client q seat false none =
                  let before = received.front client in (
                    before.0 ++ answers q outs,
                    ap (λ bs. bs ++ (before.0 ++ answers q outs))
                        (written_seat client q seat
                        ∙ ap (λ bs. old.written client ++ bs) (silent_of q (begin.connections q)
                        (end.connections q) calls outs (fate q) none)
                        ∙ append-nil (old.written client))
                        ∙ sym (append_assoc (old.written client) before.0 (answers q outs))
                        ∙ ap (λ bs. bs ++ answers q outs) before.1
                        ∙ sym (went.gets client q seat (come_seated place client q seat)),
                  )

              front_by : (client : ℕ) (o : Option ℕ) → new.seats place client ≡ o
                  → IsFront (new.written client) (bytes_received after.network client)
              front_by client None none =
                  let before = received.front client in (
                    before.0,
                    ap (λ bs. bs ++ before.0) (written_none client none) ∙ before.1
                        ∙ sym (bytes_same client none),
                  )
              front_by client (Some q) seat =
                  front_seat client q seat (is_some (begin.connections q)) refl

              front_at : (client : ℕ)
                  → IsFront (new.written client) (bytes_received after.network client)
              front_at client = front_by client (new.seats place client) refl

          pub assembled : IsAsNetwork names new after
          assembled = record {
            are_joined = joined_now;
            as_bytes = as_bytes;
            clients_open = clients_now;
            are_seated = seated_now;
            are_received = received_now;
          }

    -- ---- what clients cause

    module _ (lines_end : ServedLinesEnd) (own_law : ServedGoesToItsOwn) (stay : ClientsStay)
        (alike_law : ServedAlike) (carried : StreamLinesAreCarried)
        (items : List Item) (net : ByteNetwork) (links : AreLinksOpen new)
        (items_are : AreItems names new place step.did.events items)
        (apart : IsApartStep step) (told_of_links : IsToldOfLinks old place)
        (same : IsAsNetwork names old net)
        (placed : (x : ℕ) (name : Name) → slice_get names x ≡ Some name
        → server_place net.network name ≡ Some x)
        (unread : (y q : ℕ) → old.ends place y ≡ Some q → part.came q ≡ [])
        (quiet : has_item step.did.events ≡ true → AllStill net)
      where
        abbrev numbers_now : Numbers
        numbers_now = numbers_at new place

        link_start : (y q : ℕ) → old.ends place y ≡ Some q
            → IsOpenOf kinds.Link (start.connections q)
        link_start y q is = open_of kinds.Link (start.connections q)
            (ap open_kind_at (sym (here q)) ∙ same.are_joined.are_open place y q is)

        ends_begin : (y q : ℕ) → old.ends place y ≡ Some q → IsEndBegun q
        ends_begin y q is = begun_before q (link_start y q is)

        ways_here : (y : ℕ) → has_way net.network place y ≡ is_some (numbers_now.link y)
        ways_here y =
            same.as_bytes.ways place y ∙ told_of_links y ∙ ap is_some (sym (ends_are place y))

        abbrev first_served : List Event
        first_served = part.given ++ first.events

        abbrev second_served : List Event
        second_served = second.events

        served_is : step.did.events ≡ first_served ++ second_served
        served_is = ap (λ (d : Doings). d.events) did_all

        parts : IsSplit names new place first_served second_served items
        parts = split names new place first_served second_served items
            (subst (λ s. AreItems names new place s items) served_is items_are)

        abbrev later : Bool
        later = has_item second_served

        either_part : (later || has_item first_served) ≡ true → AllStill net
        either_part is =
            quiet
            (ap has_item served_is
            ∙ list_any-append (λ event. not (is_link_line event)) first_served second_served
            ∙ or_comm (has_item first_served) later ∙ is)

        -- ---- servers at the start, between and at the end

        server_here : HasServer (numbers_at old place) engine (node_at net.network place)
        server_here =
            has_server (numbers_at old place) engine (node_at net.network place)
            (subst (λ o. IsServerIf (numbers_at old place) o (node_at net.network place)) step.at
            (same.as_bytes.servers place))

        abbrev last : HasView end.server
        last = has_view end.server step.has_server

        mid_view : HasView mid_moment.server
        mid_view = by mid_moment.server refl
          where
            by : (o : Option View) → mid_moment.server ≡ o → HasView mid_moment.server
            by None is = cc (sym last.is ∙ none_stays second.events (asked_at mid_moment)
                (asked_at end) second.outs is second.are_asked)
            by (Some view) is = record { state = view; is = is }

        own : HasView begin.server
        own = by begin.server refl
          where
            by : (o : Option View) → begin.server ≡ o → HasView begin.server
            by None is =
                cc
                (sym mid_view.is
                ∙ none_stays (part.given ++ first.events) (asked_at begin)
                (asked_at mid_moment) first.outs is first.are_asked)
            by (Some view) is = record { state = view; is = is }

        own_start : start.server ≡ Some own.state
        own_start = by part.begins
          where
            by : BeginsWith start begin part.given newcomer → start.server ≡ Some own.state
            by (nobody_comes as_it_was given none) = ap (λ (m : Moment W). m.server) (sym as_it_was)
                ∙ own.is
            by (client_comes room conn host made given is) = sym made.server ∙ own.is
            by (link_comes room conn called made given is) = sym made.server ∙ own.is

        views : HaveViews (numbers_at old place) start.server server_here.node.server own.state
        views = have_views (numbers_at old place) start.server server_here.node.server own.state
            own_start server_here.of.servers

        server_at_place : server_at net.network place ≡ Some (Some views.theirs)
        server_at_place = ap (option_map (λ (s : Node). s.server)) server_here.at ∙ ap Some views.is

        -- who is a client of it is an open connection at the start
        own_clients : (q : ℕ) → is_some (get own.state.clients q) ≡ true
            → open_kind_at (start.connections q) ≡ Some kinds.Client
        own_clients q there = clients_open place engine step.at own.state q own_start there

        still_begun : (q : ℕ) → open_kind_at (start.connections q) ≡ Some kinds.Client
            → begin.connections q ≡ start.connections q
        still_begun q client = begins_same q (some_of_open (start.connections q)
            (open_of kinds.Client (start.connections q) client).is_open)

        -- ---- what is told

        first_none : (y q : ℕ) → old.ends place y ≡ Some q → lines_by q first.events ≡ []
        first_none y q is =
            nothing_heard pieces (begun_at (begin.connections q))
            (begun_at (mid_moment.connections q)) (lines_by q first.events) (real_begin q)
            (subst (λ came. Hears (begun_at (begin.connections q)) came (lines_by q first.events)
            (begun_at (mid_moment.connections q))) (unread y q is)
            (first.hears q))

        second_none : (q : ℕ) → lines_by q second.events ≡ []
        second_none q =
            nothing_heard pieces (begun_at (mid_moment.connections q)) (begun_at
            (end.connections q)) (lines_by q second.events) (real_mid q) (second.hears q)

        first_texts : AreTextsCarried first.events
        first_texts =
            texts_carried first.events (λ q.
            heard_carried pieces carried (begun_at (begin.connections q))
            (begun_at (mid_moment.connections q)) (part.came q) (lines_by q first.events)
            (real_begin q) (first.hears q))

        second_texts : AreTextsCarried second.events
        second_texts =
            texts_carried second.events (λ q.
            heard_carried pieces carried (begun_at (mid_moment.connections q))
            (begun_at (end.connections q)) [] (lines_by q second.events) (real_mid q)
            (second.hears q))

        once : (x y : ℕ) (name : Name) → slice_get names x ≡ Some name
            → slice_get names y ≡ Some name → x ≡ y
        once x y name one other = same_Some x y (sym (placed x name one) ∙ placed y name other)

        -- the home of one that has a seat here
        home_here : (homes : List Name) (client : ℕ)
            → slice_get names place ≡ home_in homes client → is_some (home_in homes client) ≡ true
            → option_and_then (server_place net.network) (home_in homes client) ≡ Some place
        home_here homes client named there = by (home_in homes client) refl there
          where
            by : (o : Option Name) → home_in homes client ≡ o → is_some o ≡ true
                → option_and_then (server_place net.network) (home_in homes client) ≡ Some place
            by None is some = cc some
            by (Some name) is some =
                ap (option_and_then (server_place net.network)) is ∙ placed place name (named ∙ is)

        -- ---- the first part, and then the second

        module _ (joined_now : AreJoined new) (base : ByteNetwork) (base_own : View)
            (first_after : ByteNetwork)
            (first_went : Went place numbers_now mid_view.state first.outs base first_after)
            (first_serves : ServesClients numbers_now base_own mid_view.state
            (part.given ++ first.events) first.outs)
            (first_still : later ≡ true → AllStill first_after)
            (at_mid : IsAt place numbers_now mid_view.state first_after)
            (leads : LeadsTo net parts.front first_after)
            (own_open : (q : ℕ) → is_some (get base_own.clients q) ≡ true
            → open_kind_at (begin.connections q) ≡ Some kinds.Client)
            (nodes_same : base.network.nodes ≡ net.network.nodes)
            (pipes_same : base.pipes ≡ net.pipes)
            (seats_there : (x client : ℕ) → nat_eq x place ≡ false
            → new.seats x client ≡ old.seats x client)
            (seats_here : (client q : ℕ) → new.seats place client ≡ Some q
            → is_some (begin.connections q) ≡ true
            → bytes_received base.network client ≡ old.written client
            ++ unsent (begin.connections q))
            (seated : AreSeated names new base) (received : AreReceived old base)
          where
            numbers_apart : AreApart numbers_now
            numbers_apart = record {
              links = joined_now.apart place;
              clients = joined_now.one_seat place;
              kinds = joined_now.no_client place;
            }

            link_was : (y q : ℕ) → new.ends place y ≡ Some q → old.ends place y ≡ Some q
            link_was y q is = sym (ends_are place y) ∙ is

            opened : (y q : ℕ) → new.ends place y ≡ Some q → is_closed_by q second.outs ≡ false
            opened y q is =
                (or_parts (is_closed_by q first.outs) (is_closed_by q second.outs)
                (sym (is_closed_by-append q first.outs second.outs)
                ∙ links_stay joined_now ends_begin y q (link_was y q is))).1

            second_goes : Goes place numbers_now mid_view.state last.state second.events second.outs
                parts.back false first_after
            second_goes =
                all_go lines_end own_law stay alike_law names new place numbers_now numbers_apart
                (λ client q seat. seat) false second.events parts.back
                (asked_at mid_moment)
                (asked_at end) second.outs mid_view.state last.state first_after
                second.are_asked mid_view.is last.is parts.second_are
                apart.spaced.1 (none_connects mid_moment told_mid second.events second.are_news)
                second_texts (λ y q is. second_none q) opened at_mid
                first_still

            all_went : Went place numbers_now last.state outs base second_goes.after
            all_went =
                went_both place numbers_now mid_view.state last.state first.outs second.outs base
                first_after second_goes.after first_went second_goes.went
                (quiet_then numbers_now base_own mid_view.state last.state
                (part.given ++ first.events) second.events first.outs second.outs first_serves
                second_goes.clients)

            all_serves : ServesClients numbers_now base_own last.state
                ((part.given ++ first.events) ++ second.events) outs
            all_serves =
                serves_both numbers_now base_own mid_view.state last.state
                (part.given ++ first.events) second.events first.outs second.outs first_serves
                second_goes.clients

            nodes_at : (x : ℕ) → node_at base.network x ≡ node_at net.network x
            nodes_at x = ap (λ (nodes : List Node). slice_get nodes x) nodes_same

            base_pipe : (x y : ℕ) → pipe_at base.pipes x y ≡ pipe_between old x y
            base_pipe x y = ap (λ ws. pipe_at ws x y) pipes_same ∙ same.as_bytes.pipes x y

            then_followed : HasFollowed names items net new
            then_followed = record {
              last = second_goes.after;
              leads =
                  subst (λ xs. LeadsTo net xs second_goes.after) (sym parts.are)
                  (leads_both net first_after second_goes.after parts.front parts.back leads
                  second_goes.leads);
              is_as =
                  assembled joined_now ends_begin base second_goes.after base_own last.state
                  all_went
                  last.is all_serves own_open
                  (λ x two. subst (IsServerIf (numbers_at old x) (slice_get old.engines x))
                  (sym (nodes_at x)) (same.as_bytes.servers x))
                  (λ x y. ap (λ o. is_some (option_and_then (λ (node : Node). get node.queues y) o))
                  (nodes_at x) ∙ same.as_bytes.ways x y)
                  (λ y. base_pipe place y) (λ x y two other. base_pipe x y)
                  (λ x two. base_pipe x place ∙ incoming_stays joined_now ends_begin unread x two)
                  once seats_there seats_here seated received;
            }

        -- ---- nobody has come

        module _ (as_it_was : begin ≡ start) (given_none : part.given ≡ [])
            (nobody : newcomer ≡ None) where
          seats_are : new.seats ≡ old.seats
          seats_are = step.seats_are ∙ ap (seats_after old place) nobody

          seat_is : (x client : ℕ) → new.seats x client ≡ old.seats x client
          seat_is x client = ap (λ (f : ℕ → ℕ → Option ℕ). f x client) seats_are

          joined_still : AreJoined new
          joined_still = record {
            both_ways = λ x y. ways_are x y ∙ same.are_joined.both_ways x y ∙ sym (ways_are y x);
            not_itself = λ x. ends_are x x ∙ not_itself x;
            are_open = links;
            apart = λ x y z q is other. same.are_joined.apart x y z q (sym (ends_are x y) ∙ is)
                (sym (ends_are x z) ∙ other);
            no_client = λ x y client q is seat. same.are_joined.no_client x y client q
                (sym (ends_are x y) ∙ is) (sym (seat_is x client) ∙ seat);
            one_seat = λ x client other q is seat. same.are_joined.one_seat x client other q
                (sym (seat_is x client) ∙ is) (sym (seat_is x other) ∙ seat);
          }

          numbers_still : numbers_at old place ≡ numbers_now
          numbers_still =
              λ i. record { link = sym step.same_ends i place; client = sym seats_are i place }

          seated_still : AreSeated names new net
          seated_still = record {
            names_are = same.are_seated.names_are;
            came = step.came_is ∙ ap (came_after old.came) nobody ∙ same.are_seated.came;
            inboxes = same.are_seated.inboxes;
            home =
                λ x client q seat. same.are_seated.home x client q (sym (seat_is x client) ∙ seat);
            seat =
                λ x client q seat. same.are_seated.seat x client q (sym (seat_is x client) ∙ seat);
          }

          at_start : IsAt place numbers_now own.state net
          at_start = record {
            other = views.theirs;
            alike = subst (λ n. AreServersAlike n own.state views.theirs) numbers_still views.alike;
            server = server_at_place;
            tidy = same.as_bytes.tidy;
            ways = ways_here;
            homes = λ client q seat. home_here net.network.homes client
                (seated_still.home place client q seat) (seated_still.seat place client q seat);
          }

          opened_first : (y q : ℕ) → new.ends place y ≡ Some q → is_closed_by q first.outs ≡ false
          opened_first y q is =
              (or_parts (is_closed_by q first.outs) (is_closed_by q second.outs)
              (sym (is_closed_by-append q first.outs second.outs)
              ∙ links_stay joined_still ends_begin y q (sym (ends_are place y) ∙ is))).0

          goes_first : Goes place numbers_now own.state mid_view.state
              (part.given ++ first.events) first.outs parts.front later net
          goes_first =
              all_go lines_end own_law stay alike_law names new place numbers_now
              (record {
                links = joined_still.apart place;
                clients = joined_still.one_seat place;
                kinds = joined_still.no_client place;
              })
              (λ client q seat. seat) later (part.given ++ first.events) parts.front
              (asked_at begin) (asked_at mid_moment) first.outs own.state mid_view.state
              net first.are_asked own.is mid_view.is parts.first_are
              (part.is_spaced later apart.spaced.0)
              (subst (λ g. NoneConnects (g ++ first.events)) (sym given_none)
              (none_connects begin told_begin first.events first.are_news))
              (subst (λ g. AreTextsCarried (g ++ first.events)) (sym given_none) first_texts)
              (λ y q is. ap (λ g. lines_by q (g ++ first.events)) given_none ∙ first_none y q
              (sym (ends_are place y) ∙ is)) opened_first at_start either_part

          nobody_followed : HasFollowed names items net new
          nobody_followed =
              then_followed joined_still net own.state goes_first.after goes_first.went
              goes_first.clients goes_first.still
              (at_then place numbers_now own.state mid_view.state first.outs net goes_first.after
              at_start goes_first.went) goes_first.leads
              (λ q there. ap open_kind_at (still_begun q (own_clients q there))
              ∙ own_clients q there) refl refl (λ x client two. seat_is x client)
              (λ client q seat there.
              same.are_received.there place client q (sym (seat_is place client) ∙ seat)
              (ap is_some (here q ∙ sym (ap (λ (m : Moment W). m.connections q) as_it_was)) ∙ there)
              ∙ ap (λ o. old.written client ++ unsent o)
              (here q ∙ sym (ap (λ (m : Moment W). m.connections q) as_it_was)))
              seated_still same.are_received

        -- ---- the first event, where it is given

        record FirstAsked (given : List Event) : Type 0 where
          asked : AreAsked (asked_at begin) (given ++ first.events) first.outs (asked_at mid_moment)
          are : AreItems names new place (given ++ first.events) parts.front
          spaced : AreSpaced later (given ++ first.events) (asked_at begin)
              (asked_at mid_moment) first.outs asked
          still : (later || has_item (given ++ first.events)) ≡ true → AllStill net

        whole : FirstAsked part.given
        whole = record {
          asked = first.are_asked;
          are = parts.first_are;
          spaced = part.is_spaced later apart.spaced.0;
          still = either_part;
        }

        -- ---- a link is made: that is none of these turns

        no_link_item : (link : ℕ) (called : Option (List ℕ)) (item : Item)
            → IsItem names new place (LinkUp link called) item → ⊥
        no_link_item link called item (is_connect conn name host named host_is event_is item_is) =
            cc event_is
        no_link_item link called item (is_line conn client text seat event_is item_is) = cc event_is
        no_link_item link called item (is_gone conn client seat event_is item_is) = cc event_is

        no_link_first : (link : ℕ) (called : Option (List ℕ)) (rest : List Event)
            → FirstIs names new place (LinkUp link called) rest parts.front → ⊥
        no_link_first link called rest (is_link_text is_text more) = cc is_text
        no_link_first link called rest (is_first item more are is rest_are) =
            no_link_item link called item is

        not_both : (connection : Option Connection) → connection ≡ None
            → is_open_at connection ≡ true → ⊥
        not_both connection none opened = cc (sym (ap is_open_at none) ∙ opened)

        no_link_made : (link : ℕ) (called : Option (List ℕ))
            → FirstAsked (LinkUp link called ∷ []) → ⊥
        no_link_made link called f =
            no_link_first link called first.events
            (first_of names new place (LinkUp link called) first.events parts.front f.are)

        -- ---- a client has come

        module _ (room conn : ℕ) (host : List ℕ) (made : IsMade kinds.Client room conn start begin)
            (f : FirstAsked (Connect conn host ∷ []))
            (given_is : part.given ≡ Connect conn host ∷ []) (is_newcomer : newcomer ≡ Some conn)
          where
            seats_then : new.seats ≡ seat_after old place conn
            seats_then = step.seats_are ∙ ap (seats_after old place) is_newcomer

            came_then : new.came ≡ suc old.came
            came_then = step.came_is ∙ ap (came_after old.came) is_newcomer

            seat_at : (x client : ℕ) → new.seats x client ≡ seat_after old place conn x client
            seat_at x client = ap (λ (g : ℕ → ℕ → Option ℕ). g x client) seats_then

            joined_new : AreJoined new
            joined_new =
                joined_then old place conn new same.are_joined step.same_ends step.same_ways
                seats_then links
                (λ y is. not_both (start.connections conn) made.free (link_start y conn is).is_open)

            own_free : is_some (get own.state.clients conn) ≡ false
            own_free = by (is_some (get own.state.clients conn)) refl
              where
                by : (b : Bool) → is_some (get own.state.clients conn) ≡ b
                    → is_some (get own.state.clients conn) ≡ false
                by true there =
                    absurd (not_both (start.connections conn) made.free (open_of kinds.Client
                    (start.connections conn) (own_clients conn there)).is_open)
                by false none = none

            came_is : old.came ≡ length net.network.homes
            came_is = same.are_seated.came

            next_seat : (x : ℕ) → old.seats x (suc old.came) ≡ None
            next_seat x = by (old.seats x (suc old.came)) refl
              where
                by : (o : Option ℕ) → old.seats x (suc old.came) ≡ o
                    → old.seats x (suc old.came) ≡ None
                by None is = is
                by (Some q) is =
                    cc (sym (ap is_some (get_past net.network.homes old.came came_is))
                    ∙ same.are_seated.seat x (suc old.came) q is)

            numbers_new : numbers_then old place conn ≡ numbers_now
            numbers_new =
                λ i. record { link = sym step.same_ends i place; client = sym seats_then i place }

            apart_new : AreApart numbers_now
            apart_new = record {
              links = joined_new.apart place;
              clients = joined_new.one_seat place;
              kinds = joined_new.no_client place;
            }

            -- what the server does
            abbrev read_event : ReadEvent
            read_event = of_client (connects (suc old.came) host)

            abbrev mine : Served
            mine = reply own.state (of_client (connects conn host))

            served_first_is : Took own.state
                (Connect conn host) f.asked.between.server f.asked.first
            served_first_is =
                took own.state (Connect conn host) begin.server f.asked.between.server f.asked.first
                own.is f.asked.is_handled

            -- its item
            record IsConnectItem : Type 0 where
              name : Name
              named : slice_get names place ≡ Some name
              host_is : IsHost host
              more : List Item
              front_is : parts.front ≡ connect name host ∷ more
              more_are : AreItems names new place first.events more

            connect_item : IsConnectItem
            connect_item =
                by (first_of names new place (Connect conn host) first.events parts.front f.are)
              where
                of_item : (item : Item) (more : List Item) → parts.front ≡ item ∷ more
                    → AreItems names new place first.events more
                    → IsItem names new place (Connect conn host) item → IsConnectItem
                of_item item more are more_are
                    (is_connect which name from named from_is event_is item_is) =
                    let same_host : host ≡ from = ap host_of event_is in record {
                      name = name;
                      named = named;
                      host_is = subst IsHost (sym same_host) from_is;
                      more = more;
                      front_is = are ∙ ap (λ (i : Item). i ∷ more) item_is
                          ∙ ap (λ h. connect name h ∷ more) (sym same_host);
                      more_are = more_are;
                    }
                of_item item more are more_are (is_line which client text seat event_is item_is) =
                    cc event_is
                of_item item more are more_are (is_gone which client seat event_is item_is) =
                    cc event_is

                by : FirstIs names new place (Connect conn host) first.events parts.front
                    → IsConnectItem
                by (is_link_text is_text more) = cc is_text
                by (is_first item more are is more_are) = of_item item more are more_are is

            abbrev name : Name
            name = connect_item.name

            at_name : server_place net.network name ≡ Some place
            at_name = placed place name connect_item.named

            -- the network with it
            abbrev base : ByteNetwork
            base = with_one name net

            tidy_base : IsTidy base
            tidy_base = record {
              quiet = same.as_bytes.tidy.quiet;
              rows = same.as_bytes.tidy.rows;
              lean = same.as_bytes.tidy.lean;
            }

            alike_new : AreServersAlike numbers_now own.state views.theirs
            alike_new =
                subst (λ n. AreServersAlike n own.state views.theirs) numbers_new
                (alike_then old place conn own.state views.theirs views.alike own_free
                (next_seat place))

            home_of_new : home_in base.network.homes (suc old.came) ≡ Some name
            home_of_new = get_last net.network.homes name old.came came_is

            home_is : (x client q : ℕ) → SeatThen old place conn x client q
                → (slice_get names x ≡ home_in base.network.homes client)
                × (is_some (home_in base.network.homes client) ≡ true)
            home_is x client q (is_old seat two) =
                let there = same.are_seated.seat x client q seat in
                let kept = home_kept net.network.homes name client there in
                (same.are_seated.home x client q seat ∙ sym kept, ap is_some kept ∙ there)
            home_is x client q (is_new at next is) =
                let now : home_in base.network.homes client ≡ Some name =
                ap (home_in base.network.homes) next ∙ home_of_new in
                (ap (slice_get names) at ∙ connect_item.named ∙ sym now, ap is_some now)

            seated_new : AreSeated names new base
            seated_new = record {
              names_are = same.are_seated.names_are;
              came = came_then ∙ ap suc came_is ∙ sym (one_longer net.network.homes name);
              inboxes =
                  one_longer net.network.received [] ∙ ap suc same.are_seated.inboxes
                  ∙ sym (one_longer net.network.homes name);
              home = λ x client q seat. (home_is x client q
                  (seat_then old place conn x client q (sym (seat_at x client) ∙ seat))).0;
              seat = λ x client q seat. (home_is x client q
                  (seat_then old place conn x client q (sym (seat_at x client) ∙ seat))).1;
            }

            homes_here : (client q : ℕ) → new.seats place client ≡ Some q
                → home_place base.network client ≡ Some place
            homes_here client q seat =
                home_here base.network.homes client (seated_new.home place client q seat)
                (seated_new.seat place client q seat)

            happens_new : numbers_now.client (suc old.came) ≡ Some conn
            happens_new = seat_at place (suc old.came) ∙ seat_of_new old place conn

            abbrev item : Item
            item = connect name host

            abbrev given_net : ByteNetwork
            given_net = (item_given item net).state

            given_so : given_net ≡ queues_written
                (item_kept item (node_asked place read_event (begun base.network))).state base.pipes
            given_so = given_connect net place (suc old.came) name host at_name
                (next_is net.network.homes old.came came_is)

            went_first : Went place numbers_now mine.state [] base given_net
            went_first =
                subst (λ os. Went place numbers_now mine.state os base given_net)
                (nothing_said own.state conn host)
                (subst (Went place numbers_now mine.state mine.out base) (sym given_so)
                (item_went lines_end own_law alike_law place numbers_now apart_new own.state
                views.theirs read_event conn happens_new alike_new
                base tidy_base server_at_place
                (ways_here) item))

            still_given : AllStill net → AllStill given_net
            still_given still x y = by (nat_eq x place) refl
              where
                by_link : (o : Option ℕ) → numbers_now.link y ≡ o
                    → pipe_at given_net.pipes place y ≡ new_pipe
                by_link None none = went_first.no_way y none ∙ still place y
                by_link (Some q) link =
                    went_first.pipes_here y q link refl ∙ ap (pipe_behind []) (still place y)

                by : (b : Bool) → nat_eq x place ≡ b → pipe_at given_net.pipes x y ≡ new_pipe
                by true one = ap (λ n. pipe_at given_net.pipes n y) (eqb-true x place one)
                    ∙ by_link (numbers_now.link y) refl
                by false two = went_first.pipes_there x y two ∙ still x y

            at_base : IsAt place numbers_now own.state base
            at_base = record {
              other = views.theirs;
              alike = alike_new;
              server = server_at_place;
              tidy = tidy_base;
              ways = ways_here;
              homes = homes_here;
            }

            at_given : IsAt place numbers_now mine.state given_net
            at_given =
                at_then place numbers_now own.state mine.state [] base given_net at_base went_first

            net_still : AllStill net
            net_still =
                f.still (or-true later)

            first_closed : (y q : ℕ) → new.ends place y ≡ Some q
                → is_closed_by q (f.asked.first ++ f.asked.more) ≡ false
            first_closed y q is =
                ap (is_closed_by q) (sym f.asked.outs_are)
                ∙ (or_parts (is_closed_by q first.outs) (is_closed_by q second.outs)
                (sym (is_closed_by-append q first.outs second.outs)
                ∙ links_stay joined_new ends_begin y q (sym (ends_are place y) ∙ is))).0

            more_closed : (y q : ℕ) → new.ends place y ≡ Some q
                → is_closed_by q f.asked.more ≡ false
            more_closed y q is =
                (or_parts (is_closed_by q f.asked.first) (is_closed_by q f.asked.more)
                (sym (is_closed_by-append q f.asked.first f.asked.more) ∙ first_closed y q is)).1

            goes_rest : Goes place numbers_now mine.state mid_view.state first.events f.asked.more
                connect_item.more later given_net
            goes_rest =
                all_go lines_end own_law stay alike_law names new place numbers_now apart_new
                (λ client q seat. seat) later first.events connect_item.more
                f.asked.between
                (asked_at mid_moment) f.asked.more mine.state mid_view.state given_net
                f.asked.rest_is served_first_is.server_is mid_view.is
                connect_item.more_are f.spaced.1
                (none_connects begin told_begin first.events first.are_news) first_texts
                (λ y q is. first_none y q (sym (ends_are place y) ∙ is)) more_closed at_given
                (λ is. still_given net_still)

            outs_are : first.outs ≡ f.asked.more
            outs_are = f.asked.outs_are ∙ ap (λ os. os ++ f.asked.more)
                (served_first_is.first_is ∙ nothing_said own.state conn host)

            went_new : Went place numbers_now mid_view.state first.outs base goes_rest.after
            went_new =
                subst (λ os. Went place numbers_now mid_view.state os base goes_rest.after)
                (sym outs_are)
                (went_both place numbers_now mine.state mid_view.state [] f.asked.more base
                given_net
                goes_rest.after went_first goes_rest.went
                (λ client q seat closed. cc closed))

            serves_new : ServesClients numbers_now mine.state mid_view.state
                (part.given ++ first.events) first.outs
            serves_new =
                subst (λ g. ServesClients numbers_now mine.state mid_view.state
                (g ++ first.events) first.outs) (sym given_is)
                (subst (ServesClients numbers_now mine.state mid_view.state
                (Connect conn host ∷ first.events)) (sym outs_are) (record {
                  silent = goes_rest.clients.silent;
                  still = λ client q seat there.
                      let was = goes_rest.clients.still client q seat there in record {
                        was = was.was;
                        not_closed = was.not_closed;
                        not_gone = was.not_gone;
                      };
                }))

            leads_new : LeadsTo net parts.front goes_rest.after
            leads_new =
                subst (λ xs. LeadsTo net xs goes_rest.after) (sym connect_item.front_is)
                (leads_both net given_net goes_rest.after (item ∷ []) connect_item.more
                (is_given [] item net no_more
                (none_refused net item (at_rest net net_still)
                (not_refused_here net.network place name host at_name)) connect_item.host_is)
                goes_rest.leads)

            begun_new : (q : ℕ) → nat_eq conn q ≡ true
                → begin.connections q ≡ Some (fresh_connection kinds.Client room)
            begun_new q is = made.connections q ∙ ap (λ b. if b
                then Some (fresh_connection kinds.Client room) else start.connections q) is

            begun_old : (q : ℕ) → nat_eq conn q ≡ false → begin.connections q ≡ start.connections q
            begun_old q is = made.connections q ∙ ap (λ b. if b
                then Some (fresh_connection kinds.Client room) else start.connections q) is

            free_then : (o : Option Client) → is_some o ≡ false → is_none o ≡ true
            free_then None none = refl
            free_then (Some client) none = cc none

            own_serves : serves_read_event own.state (of_client (connects conn host)) ≡ true
            own_serves = free_then (get own.state.clients conn) own_free

            own_open_new : (q : ℕ) → is_some (get mine.state.clients q) ≡ true
                → open_kind_at (begin.connections q) ≡ Some kinds.Client
            own_open_new q there = by (nat_eq conn q) refl
              where
                known : (is_some (get own.state.clients q) || nat_eq conn q) ≡ true
                known =
                    (stay own.state (of_client (connects conn host)) q own_serves
                    (ap (λ (v : View). is_some (get v.clients q))
                    (sym (view_of_served own.state conn host own_serves)) ∙ there)).was

                by : (b : Bool) → nat_eq conn q ≡ b
                    → open_kind_at (begin.connections q) ≡ Some kinds.Client
                by true is = ap open_kind_at (begun_new q is)
                by false is = ap open_kind_at (begun_old q is) ∙ own_clients q
                    (or_first (is_some (get own.state.clients q)) (nat_eq conn q) is known)

            -- what it has received is nothing
            none_received : bytes_received net.network (suc old.came) ≡ []
            none_received =
                bytes_none net.network (suc old.came)
                (ap is_some (get_past net.network.received old.came
                (came_is ∙ sym same.are_seated.inboxes)))

            none_written : old.written (suc old.came) ≡ []
            none_written =
                let before = same.are_received.front (suc old.came) in
                front_none (old.written (suc old.came)) before.0 (before.1 ∙ none_received)

            seat_new : (client q : ℕ) → SeatThen old place conn place client q
                → is_some (begin.connections q) ≡ true → bytes_received base.network client
                ≡ old.written client ++ unsent (begin.connections q)
            seat_new client q (is_old seat two) there =
                let as_before = begun_old q (nat_eq-turned conn q ∙ two refl) in
                same_bytes name net.network client
                ∙ same.are_received.there place client q seat
                (ap is_some (here q ∙ sym as_before) ∙ there)
                ∙ ap (λ o. old.written client ++ unsent o) (here q ∙ sym as_before)
            seat_new client q (is_new at next is) there =
                same_bytes name net.network client ∙ ap (bytes_received net.network) next
                ∙ none_received ∙ sym none_written
                ∙ sym (append-nil (old.written (suc old.came)))
                ∙ ap (λ n. old.written n ++ []) (sym next)
                ∙ ap (λ o. old.written client ++ unsent o)
                (sym (begun_new q (eq-eqb conn q (sym is))))

            received_base : AreReceived old base
            received_base = record {
              there = λ x client q seat there. same_bytes name net.network client
                  ∙ same.are_received.there x client q seat there;
              front = λ client.
                  let before = same.are_received.front client in
                  (before.0, before.1 ∙ sym (same_bytes name net.network client));
            }

            client_followed : HasFollowed names items net new
            client_followed =
                then_followed joined_new base mine.state goes_rest.after went_new serves_new
                goes_rest.still
                (at_then place numbers_now mine.state mid_view.state f.asked.more given_net
                goes_rest.after at_given goes_rest.went) leads_new own_open_new refl refl
                (λ x client two. seat_at x client ∙ seat_elsewhere old place conn x client two)
                (λ client q seat there. seat_new client q (seat_then old place conn place client q
                (sym (seat_at place client) ∙ seat)) there) seated_new
                received_base

        -- ---- whoever has come

        pub followed : HasFollowed names items net new
        followed = by part.begins
          where
            by : BeginsWith start begin part.given newcomer → HasFollowed names items net new
            by (nobody_comes as_it_was given_none nobody) =
                nobody_followed as_it_was given_none nobody
            by (client_comes room conn host made given_is is) =
                client_followed room conn host made (subst FirstAsked given_is whole) given_is is
            by (link_comes room link called made given_is is) =
                absurd (no_link_made link called (subst FirstAsked given_is whole))
