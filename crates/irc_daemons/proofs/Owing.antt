-- Daemons of which one server is still to be told of a link: the network that is as they are, and
-- one in which it was told. So they go on, until it is told.
use Rattle.std.proofs.Common.{◌≡◌, ℕ, Bool, true, false, not, ◌||◌, ◌⊎◌, inl, inr, nat_eq, is_some}
use Rattle.std.proofs.Common.{Option, Some, List, [], ◌++◌, append-nil, length, refl, sym, ◌∙◌, ap}
use Rattle.std.proofs.Common.{subst}
use Rattle.std.proofs.lemmas.Bool.{eq-eqb, eqb-true}
use Rattle.std.specs.List.{slice_get}
use Rattle.std.proofs.lemmas.Option.{same_Some}
use Rattle.irc_line.specs.Laws.{PiecesCompleteTheSame}
use Rattle.irc_outbox.specs.Calls.{Call, taken}
use Rattle.irc_forest.specs.Forests.{place_in}
use Rattle.irc_relay.specs.Links.{Name}
use Rattle.irc_server.specs.LineEnds.{ServedLinesEnd}
use Rattle.irc_server.specs.Own.{ServedGoesToItsOwn, ServedKeepsEnds}
use Rattle.irc_server.specs.declared.event.Event.{Event}
use Rattle.irc_world.specs.Stepping.{Item}
use Rattle.irc_world.specs.World.{Setting}
use Rattle.irc_network.specs.Network.{begun, node_at}
use Rattle.irc_pipes.specs.Pipes.{LinkPipe, new_pipe, pipe_at}
use Rattle.irc_network.specs.ByteNetwork.{ByteNetwork, bytes_come}
use Rattle.irc_net.specs.Laws.{SettingsStay, StaysKept}
use Rattle.irc_daemons.specs.Alike.{ServedAlike}
use Rattle.irc_daemons.specs.AsBytes.{IsServerIf, numbers_at}
use Rattle.irc_daemons.specs.AsNetwork.{IsAsNetwork, has_come, no_more}
use Rattle.irc_daemons.specs.Clients.{ClientsStay}
use Rattle.irc_daemons.specs.Daemons.{AreLinksOpen, Daemons, IsToldOfLinks, end_at, unsent}
use Rattle.irc_daemons.specs.Doings.{taken_at}
use Rattle.irc_daemons.specs.EachStep.{ArePlaced, ReadsLink}
use Rattle.irc_daemons.specs.Items.{AreItems, has_item, is_one, is_passed, no_item}
use Rattle.irc_daemons.specs.Steps.{Steps}
use Rattle.irc_daemons.specs.Tellings.{Owing, is_lost, is_up, is_way_by, read_event_by}
use Rattle.irc_daemons.proofs.Assembly.{mid_moment, start, taken_is}
use Rattle.irc_daemons.proofs.ByLink.{BytesCame, bytes_came}
use Rattle.irc_daemons.proofs.EachStep.{reads_or_not}
use Rattle.irc_daemons.proofs.Going.{IsGoing, goes_on}
use Rattle.irc_daemons.proofs.Idle.{idle_followed}
use Rattle.irc_daemons.proofs.Lacking.{lacks_still}
use Rattle.irc_daemons.proofs.LackingWords.{LacksOne}
use Rattle.irc_daemons.proofs.Lists.{front_none}
use Rattle.irc_daemons.proofs.Owning.{all_ends, are_own}
use Rattle.irc_daemons.proofs.Aside.{IsAside, aside_still, nothing_comes}
use Rattle.irc_daemons.proofs.Single.{HasServer, has_server}
use Rattle.irc_daemons.proofs.StayApart.{front_enough}
use Rattle.irc_daemons.proofs.Turn.{came_of}

-- ---- what is still meanwhile

-- Of a link that is lost, the side of the server that is still to be told; of one that is made,
-- all but the way to it.
pub data IsStillFor (owing : Owing) (less : ByteNetwork) : Type 0 where
  side_is_still : (side : ℕ → Bool) → owing.tidings ≡ is_lost → side owing.place ≡ false
      → IsAside side less → IsStillFor owing less
  all_is_still : (called : Option Name) → owing.tidings ≡ is_up called → ((x y : ℕ)
      → (x ≡ owing.other → nat_eq y owing.place ≡ false) → pipe_at less.pipes x y ≡ new_pipe)
      → IsStillFor owing less

-- ---- daemons of which one is to be told

pub record IsHalf {W : Type 0} (settings : List Setting) (names : List Name) (items : List Item)
    (owing : Owing) (daemons : Daemons W) : Type 0 where
  pub less : ByteNetwork
  pub more : ByteNetwork
  pub going : IsGoing settings items more
  pub same : IsAsNetwork names daemons less
  pub placed : ArePlaced names less
  pub lacks : LacksOne owing.place (read_event_by owing.tidings owing.other) less more
  pub apart : nat_eq owing.place owing.other ≡ false
  pub way : daemons.ways owing.place owing.other ≡ is_way_by owing.tidings
  pub untold : is_some (daemons.ends owing.place owing.other) ≡ not (is_way_by owing.tidings)
  pub told : (x y : ℕ) → (x ≡ owing.place → nat_eq y owing.other ≡ false)
      → daemons.ways x y ≡ is_some (daemons.ends x y)
  pub still : IsStillFor owing less

pub named_once : (names : List Name) (net : ByteNetwork) → ArePlaced names net → (x y : ℕ)
    (name : Name) → slice_get names x ≡ Some name → slice_get names y ≡ Some name → x ≡ y
named_once names net placed x y name one other =
    same_Some x y (sym (placed x name one) ∙ placed y name other)

-- no item is among the events of a step that has none
pub none_among : {W : Type 0} (names : List Name) (daemons : Daemons W) (place : ℕ)
    (events : List Event) (items : List Item) → AreItems names daemons place events items
    → items ≡ [] → has_item events ≡ false
none_among names daemons place events items no_item none = refl
none_among names daemons place events items (is_passed event rest more is_link are) none =
    ap (λ b. not b || has_item rest) is_link ∙ none_among names daemons place rest more are none
none_among names daemons place events items (is_one event rest item more is are) none = cc none

-- ---- what is not on its way is not read

module _ {W : Type 0} (is_after : W → List Call → Type 0) (pieces : PiecesCompleteTheSame)
    (names : List Name) (place : ℕ) (old new : Daemons W)
    (net : ByteNetwork) (step : Steps is_after place old new) (same : IsAsNetwork names old net)
  where
    still_taken : (y q : ℕ) → old.ends place y ≡ Some q → pipe_at net.pipes y place ≡ new_pipe
        → taken q step.did.calls ≡ []
    still_taken y q link still =
        front_none (taken_at (Some q) step.did.calls) (new.transit y place)
        (ap (λ o. taken_at o step.did.calls ++ new.transit y place) (sym link) ∙ sym (step.reads y)
        ∙ front_none (old.transit y place) (unsent (end_at old y place))
        (ap (λ (w : LinkPipe). w.bytes) (sym (same.as_bytes.pipes y place) ∙ still)))

    here : HasServer (numbers_at old place) step.engine (node_at net.network place)
    here =
        has_server (numbers_at old place) step.engine (node_at net.network place)
        (subst (λ o. IsServerIf (numbers_at old place) o (node_at net.network place)) step.at
        (same.as_bytes.servers place))

    not_taken : (¬ (ReadsLink step)) → (y q : ℕ) → old.ends place y ≡ Some q
        → taken q step.did.calls ≡ []
    not_taken none y q link =
        taken_is is_after pieces names place old new step same.are_joined.not_itself
        same.clients_open here.of.in_order here.of.framers q
        ∙ came_of is_after step.engine.sizes step.turn.report
        (start is_after pieces names place old new step same.are_joined.not_itself same.clients_open
        here.of.in_order here.of.framers)
        (mid_moment is_after pieces names place old new step same.are_joined.not_itself
        same.clients_open here.of.in_order here.of.framers)
        step.turn.does.answers q
        (λ report. none (record { from = y; conn = q; is_end = link; is_read = report }))

-- ---- a step meanwhile

module _ {W : Type 0} (is_after : W → List Call → Type 0) (pieces : PiecesCompleteTheSame)
    (lines_end : ServedLinesEnd) (own_law : ServedGoesToItsOwn)
    (stay : ClientsStay) (keeps : ServedKeepsEnds) (alike_law : ServedAlike) (stays : StaysKept)
    (set_up : SettingsStay) (settings : List Setting)
    (names : List Name) (items : List Item) (owing : Owing) (place : ℕ) (old new : Daemons W)
    (half : IsHalf settings names items owing old)
    (step : Steps is_after place old new) (links : AreLinksOpen new)
    (itemless : has_item step.did.events ≡ false)
  where
    once : (x y : ℕ) (name : Name) → slice_get names x ≡ Some name
        → slice_get names y ≡ Some name → x ≡ y
    once = named_once names half.less half.placed

    ends_are : (x y : ℕ) → new.ends x y ≡ old.ends x y
    ends_are x y = ap (λ (f : ℕ → ℕ → Option ℕ). f x y) step.same_ends

    ways_are : (x y : ℕ) → new.ways x y ≡ old.ways x y
    ways_are x y = ap (λ (f : ℕ → ℕ → Bool). f x y) step.same_ways

    -- what is known of links stays
    half_with : (less more : ByteNetwork) → IsGoing settings items more
        → IsAsNetwork names new less → ArePlaced names less
        → LacksOne owing.place (read_event_by owing.tidings owing.other) less more
        → IsStillFor owing less → IsHalf settings names items owing new
    half_with less more going same placed lacks still = record {
      less = less;
      more = more;
      going = going;
      same = same;
      placed = placed;
      lacks = lacks;
      apart = half.apart;
      way = ways_are owing.place owing.other ∙ half.way;
      untold = ap is_some (ends_are owing.place owing.other) ∙ half.untold;
      told = λ x y apart. ways_are x y ∙ half.told x y apart ∙ ap is_some (sym (ends_are x y));
      still = still;
    }

    idle : ((y q : ℕ) → old.ends place y ≡ Some q → taken q step.did.calls ≡ [])
        → IsHalf settings names items owing new
    idle none =
        half_with half.less half.more half.going
        (idle_followed is_after pieces names place old new half.less step links itemless none
        half.same once) half.placed half.lacks half.still

    still_idle : ((y q : ℕ) → old.ends place y ≡ Some q
        → pipe_at half.less.pipes y place ≡ new_pipe) → IsHalf settings names items owing new
    still_idle still =
        idle (λ y q link. still_taken is_after pieces names place old new half.less step half.same y
        q link (still y q link))

    told_here : nat_eq place owing.place ≡ false → IsToldOfLinks old place
    told_here away y = half.told place y (λ is. cc (sym (eq-eqb place owing.place is) ∙ away))

    -- bytes come to another server
    comes : (from : ℕ) → nat_eq place owing.place ≡ false
        → (came : BytesCame names from place half.less new)
        → IsStillFor owing (bytes_come from place (length came.front) (begun half.less)).state
        → IsHalf settings names items owing new
    comes from away came still =
        let count : ℕ = length came.front in
        let less : ByteNetwork = (bytes_come from place count (begun half.less)).state in
        let more : ByteNetwork = (bytes_come from place count (begun half.more)).state in
        let enough = front_enough came.front came.rest
        (pipe_at half.less.pipes from place).bytes came.bytes_are in
        let lacks = lacks_still own_law stay keeps owing.place from place count
        (read_event_by owing.tidings owing.other) half.less half.more half.lacks away
        (are_own names old half.less half.same once)
        (all_ends names old half.less half.same) came.state came.at enough in
        half_with less more
        (subst (λ xs. IsGoing settings xs more) (append-nil items)
        (goes_on stays set_up settings items half.more [] more half.going
        (has_come [] from place count half.more no_more (half.lacks.ways from place ∙ came.way))))
        came.is_as
        (λ x name is.
        ap (λ ns. place_in ns name) (sym came.is_as.are_seated.names_are
        ∙ half.same.are_seated.names_are) ∙ half.placed x name is)
        lacks still

    pub still_half : IsHalf settings names items owing new
    still_half = by half.still (nat_eq place owing.place) refl
      where
        -- who is to be told that a link is up has no end of it
        linked_there : (called : Option Name) → owing.tidings ≡ is_up called → (y q : ℕ)
            → place ≡ owing.place → y ≡ owing.other → old.ends place y ≡ Some q → ⊥
        linked_there called up y q one other link =
            cc (sym (ap is_some (sym (λ i. old.ends (one i) (other i)) ∙ link)) ∙ half.untold
            ∙ ap (λ t. not (is_way_by t)) up)

        by_side : (side : ℕ → Bool) → owing.tidings ≡ is_lost → side owing.place ≡ false
            → IsAside side half.less → (b : Bool) → nat_eq place owing.place ≡ b
            → IsHalf settings names items owing new
        by_side side lost far aside true one =
            still_idle (λ y q link. nothing_comes side half.less aside place
            (ap side (eqb-true place owing.place one) ∙ far) y)
        by_side side lost far aside false away =
            read (reads_or_not is_after names place old new half.less step
            (told_here away) half.same)
          where
            read : ReadsLink step ⊎ (¬ (ReadsLink step)) → IsHalf settings names items owing new
            read (inl reads) =
                let came = bytes_came is_after pieces lines_end own_law stay alike_law names place
                old new half.less step reads itemless links (told_here away)
                half.same once in
                comes reads.from away came
                (side_is_still side lost far (aside_still side reads.from place
                (length came.front) half.less came.state aside half.lacks.tidy_less came.at))
            read (inr none) =
                idle (not_taken is_after pieces names place old new half.less step half.same none)

        by : IsStillFor owing half.less → (b : Bool) → nat_eq place owing.place ≡ b
            → IsHalf settings names items owing new
        by (side_is_still side lost far aside) b is = by_side side lost far aside b is
        by (all_is_still called up all) true one =
            still_idle (λ y q link. all y place (λ other. absurd
            (linked_there called up y q (eqb-true place owing.place one) other link)))
        by (all_is_still called up all) false away =
            still_idle (λ y q link. all y place (λ other. away))
