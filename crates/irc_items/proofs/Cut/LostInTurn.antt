-- A server loses others all at once, one after another: what it is afterwards, and what it puts
-- out.
use Rattle.std.proofs.Common.{◌≡◌, ◌≢◌, ℕ, Bool, true, false, Option, Some, None, List, [], ◌∷◌}
use Rattle.std.proofs.Common.{◌++◌, append_assoc, filter, map, nat_eq, refl, sym, ◌∙◌, ap, subst}
use Rattle.std.proofs.Common.{if◌then◌else◌}
use Rattle.std.proofs.lemmas.List.Elements.{filter_map-append}
use Rattle.std.specs.FinMap.{get}
use Rattle.std.specs.List.{AllByRecursion}
use Rattle.irc_line.specs.Messages.{line_text}
use Rattle.irc_batch.specs.Batches.{Sent}
use Rattle.irc_room.specs.effect.Effect.{Effect}
use Rattle.irc_room.specs.InTurn.{after_all, EachInTurn}
use Rattle.irc_room.specs.Invitations.{of_home}
use Rattle.irc_room.specs.OtherInvitations.{AreAlike}
use Rattle.irc_room.specs.Room.{Room, IsWellFormed}
use Rattle.irc_room.specs.Lemmas.AlikeLaw.{alike_have_alike, alike_stay_alike, alike_take_alike}
use Rattle.irc_room.specs.Lemmas.AlikeLaw.{home_is_alike}
use Rattle.irc_room.specs.Lemmas.HomeLaw.{home_follows}
use Rattle.irc_room.specs.Lemmas.HomeRooms.{home_is_well_formed}
use Rattle.irc_merge.specs.Deeds.{Deed, loses, after_deed, after_deeds, shown_by}
use Rattle.irc_merge.specs.Quits.{quits_of, users_at}
use Rattle.irc_merge.specs.Lemmas.Quitting.{quits_well}
use Rattle.irc_merge.specs.Lemmas.DeedsAlike.{alike_do_alike, home_follows_deed}
use Rattle.irc_relay.specs.Links.{Name}
use Rattle.irc_routes.specs.Known.{Known, without_server}
use Rattle.irc_burst_lines.specs.DeedLines.{squit_parts}
use Rattle.irc_stage.specs.Ways.{but, met_links}
use Rattle.irc_stage.specs.declared.clients.Client.{Client}
use Rattle.irc_stage.specs.declared.clients.Client.TheVariants.{Registering, Registered}
use Rattle.irc_stage.specs.EffectTold.{Served, all_changed, on_links}
use Rattle.irc_stage.specs.Linked.{without_row}
use Rattle.irc_stage.specs.View.{View}
use Rattle.irc_server.specs.DeedTold.{deed_told, deeds_told, losses, split_text}
use Rattle.irc_server.specs.Owed.{lines_to}
use Rattle.irc_follow.specs.Says.{lines_on}
use Rattle.irc_follow.specs.Lemmas.DeedEffects.{all_view, quits_calm, IsCounted}
use Rattle.irc_follow.specs.Lemmas.LinesOnLinks.{ends_by_all, lines_behind, none_by_all, on_these}
use Rattle.irc_follow.specs.Lemmas.LostUsers.{lost_are_of, lost_counted}
use Rattle.irc_follow.specs.Lemmas.SaidEffectShown.{all_lines, append_nil, but_links, client_along}
use Rattle.irc_items.specs.GoodLines.{closings, reason_of}
use Rattle.irc_items.proofs.Cut.Forgetting.{all_forgotten}
use Rattle.irc_items.proofs.Cut.LostUsersQuit.{quits_do}
use Rattle.irc_items.proofs.Good.PutOut.{none_closed_on_links, none_closed_by_all}
use Rattle.irc_items.proofs.Cut.Losses.{nothing_yet, staying_sees}

-- ---- no link is closed by it

closed_before : (one other : List Sent) → closings other ≡ []
    → closings (one ++ other) ≡ closings one
closed_before one other none =
    filter_map-append reason_of one other ∙ ap (λ l. closings one ++ l) none
    ∙ append_nil (closings one)

-- ---- what a client sees of some deeds

abbrev seen_first : Room → Deed → Option Client → List (List ℕ)
seen_first room deed None = []
seen_first room deed (Some (Registering pending)) = []
seen_first room deed (Some (Registered nick)) = shown_by nick room deed

seen_in_turn : (room : Room) (deed : Deed) (deeds : List Deed) (client : Option Client)
    → seen_first room deed client ++ staying_sees deeds (after_deed room deed) client
    ≡ staying_sees (deed ∷ deeds) room client
seen_in_turn room deed deeds None = refl
seen_in_turn room deed deeds (Some (Registering pending)) = refl
seen_in_turn room deed deeds (Some (Registered nick)) = refl

-- ---- the link to far is lost at t

module _ (view : View) (t far : Name) (k : ℕ) where
  abbrev pub text : List ℕ
  text = split_text t far

  abbrev pub told_line : Name → List ℕ
  told_line name = line_text (squit_parts t name text)

  -- the server with these routes, and with what it has of this room
  abbrev pub moment : Known → Room → View
  moment known room = record view { routes = known; room = of_home t room }

  abbrev pub serving : Known → Room → List Sent → Served
  serving known room out = record { state = moment known room; out = out }

  -- the links on which each loss is told
  abbrev pub other_links : List ℕ
  other_links = but (Some k) (met_links view.ends)

  -- ---- one server is lost

  module _ (known : Known) (room : Room) (out : List Sent) (name : Name) (own : known.name ≡ t)
      (two : name ≢ t) (well : IsWellFormed room) where
    abbrev deed : Deed
    deed = loses t name text

    abbrev quits : List Effect
    quits = quits_of text (users_at name room)

    abbrev own_quits : List Effect
    own_quits = quits_of text (users_at name (of_home t room))

    rooms : AreAlike (of_home t room) room
    rooms = home_is_alike t room

    same_quits : own_quits ≡ quits
    same_quits = ap (λ users. quits_of text
        (users_at name (record (of_home t room) { users = users }))) rooms.users

    counted : EachInTurn (IsCounted (moment known room)) room quits
    counted =
        lost_counted (moment known room) t name own two room text (users_at name room)
        (lost_are_of name room well) (quits_do room name text well)

    room_afterwards : after_all (of_home t room) quits ≡ of_home t (after_deed room deed)
    unfolding after_deed
    room_afterwards =
        sym (home_follows_deed home_follows t room deed well tt
        ∙ ap (after_all (of_home t room)) same_quits)

    loss_view : (deed_told (Some k) deed (serving known room out)).state
        ≡ moment (without_server name known) (after_deed room deed)
    unfolding deed_told
    loss_view =
        ap (λ effects. without_row name (all_changed effects (serving known room out)).state)
        same_quits
        ∙ ap (without_row name)
        (all_view (moment known room) quits (of_home t room) room out rooms
        (quits_calm text (users_at name room)) counted)
        ∙ ap (λ r. record view { routes = without_server name known; room = r }) room_afterwards

    loss_lines : (j : ℕ) → lines_on j (deed_told (Some k) deed (serving known room out)).out
        ≡ lines_on j out ++ map (λ _. told_line name) (filter (λ n. nat_eq n j) other_links)
    unfolding deed_told
    loss_lines j =
        let before = all_changed own_quits (serving known room out) in
        lines_behind j before.out
        (on_links (but (Some k) (met_links before.state.ends)) (squit_parts t name text))
        ∙ (λ i. none_by_all j own_quits (serving known room out) i
        ++ lines_on j (on_links (but (Some k) (met_links
        (ends_by_all own_quits (serving known room out) i))) (squit_parts t name text)))
        ∙ ap (λ l. lines_on j out ++ l) (on_these j other_links (squit_parts t name text))

    along_seen : (who : ℕ) (client : Option Client)
        → client_along who (of_home t room) own_quits client ≡ seen_first room deed client
    unfolding shown_by
    along_seen who None = refl
    along_seen who (Some (Registering pending)) = refl
    along_seen who (Some (Registered nick)) =
        (alike_do_alike alike_stay_alike alike_take_alike alike_have_alike
        (of_home t room) room deed rooms).shown nick

    loss_shown : (who : ℕ) → lines_to who (deed_told (Some k) deed (serving known room out)).out
        ≡ lines_to who out ++ seen_first room deed (get view.clients who)
    unfolding deed_told
    loss_shown who =
        let before = all_changed own_quits (serving known room out) in
        but_links who before.out (but (Some k) (met_links before.state.ends))
        (squit_parts t name text)
        ∙ ap (λ effects. lines_to who (all_changed effects (serving known room out)).out) same_quits
        ∙ all_lines who (moment known room) quits (of_home t room) room out rooms
        (quits_calm text (users_at name room)) counted
        (home_is_well_formed t room well)
        ∙ ap (λ l. lines_to who out ++ l)
        (ap (λ effects. client_along who (of_home t room) effects (get view.clients who))
        (sym same_quits)
        ∙ along_seen who (get view.clients who))

    loss_closes : closings (deed_told (Some k) deed (serving known room out)).out ≡ closings out
    unfolding deed_told
    loss_closes =
        let before = all_changed own_quits (serving known room out) in
        closed_before before.out
        (on_links (but (Some k) (met_links before.state.ends)) (squit_parts t name text))
        (none_closed_on_links (but (Some k) (met_links before.state.ends))
        (squit_parts t name text))
        ∙ none_closed_by_all own_quits (serving known room out)

    well_afterwards : IsWellFormed (after_deed room deed)
    unfolding after_deed
    well_afterwards = quits_well room text (users_at name room) well

  -- ---- all of them

  pub record HasLost (known : Known) (room : Room) (out : List Sent) (names : List Name)
      (so : Served) : Type 0 where
    pub view_is : so.state ≡ moment (all_forgotten names known)
        (after_deeds room (losses t far names))
    pub lines : (j : ℕ) (b : Bool) → filter (λ n. nat_eq n j) other_links ≡ (if b then j ∷ []
        else []) → lines_on j so.out ≡ lines_on j out ++ (if b then map told_line names else [])
    pub shown : (who : ℕ) → lines_to who so.out ≡ lines_to who out
        ++ staying_sees (losses t far names) room (get view.clients who)
    pub closes : closings so.out ≡ closings out

  lost_none : (known : Known) (room : Room) (out : List Sent)
      → HasLost known room out [] (serving known room out)
  lost_none known room out = record {
    view_is = refl;
    lines = λ j b is. by j b;
    shown = λ who. sym (ap (λ l. lines_to who out ++ l)
        (sym (nothing_yet room (get view.clients who))) ∙ append_nil (lines_to who out));
    closes = refl;
  }
    where
      by : (j : ℕ) (b : Bool) → lines_on j out ≡ lines_on j out
          ++ (if b then map told_line [] else [])
      by j true = sym (append_nil (lines_on j out))
      by j false = sym (append_nil (lines_on j out))

  one_more : (known : Known) (room : Room) (out : List Sent) (name : Name) (names : List Name)
      (so : Served) (own : known.name ≡ t) (two : name ≢ t)
      (well : IsWellFormed room)
      → HasLost (without_server name known) (after_deed room (loses t name text))
      (deed_told (Some k) (loses t name text) (serving known room out)).out names so
      → HasLost known room out (name ∷ names) so
  one_more known room out name names so own two well rest = record {
    view_is = rest.view_is;
    lines = λ j b is.
        rest.lines j b is
        ∙ ap (λ l. l ++ (if b then map told_line names else []))
        (loss_lines known room out name own two well j)
        ∙ append_assoc (lines_on j out) (map (λ _. told_line name)
        (filter (λ n. nat_eq n j) other_links)) (if b then map told_line names else [])
        ∙ ap (λ l. lines_on j out ++ l) (ap (λ links. map (λ _. told_line name) links
        ++ (if b then map told_line names else [])) is ∙ by j b);
    shown = λ who.
        rest.shown who
        ∙ ap (λ l. l ++ staying_sees (losses t far names) (after_deed room (loses t name text))
        (get view.clients who))
        (loss_shown known room out name own two well who)
        ∙ append_assoc (lines_to who out)
        (seen_first room (loses t name text) (get view.clients who))
        (staying_sees (losses t far names) (after_deed room (loses t name text))
        (get view.clients who))
        ∙ ap (λ l. lines_to who out ++ l)
        (seen_in_turn room (loses t name text) (losses t far names) (get view.clients who));
    closes = rest.closes ∙ loss_closes known room out name own two well;
  }
    where
      by : (j : ℕ) (b : Bool) → map (λ _. told_line name) (if b then j ∷ [] else [])
          ++ (if b then map told_line names else [])
          ≡ (if b then told_line name ∷ map told_line names else [])
      by j true = refl
      by j false = refl

  pub has_lost : (names : List Name) (known : Known) (room : Room) (out : List Sent) → known.name
      ≡ t → AllByRecursion (λ x. x ≢ t) names → IsWellFormed room → HasLost known room out names
      (deeds_told (Some k) (losses t far names) (serving known room out))
  has_lost [] known room out own others well = lost_none known room out
  has_lost (name ∷ names) known room out own others well =
      let first = deed_told (Some k) (loses t name text) (serving known room out) in
      one_more known room out name names _ own others.0 well
      (subst (λ (v : View). HasLost (without_server name known)
      (after_deed room (loses t name text)) first.out names
      (deeds_told (Some k) (losses t far names) (record { state = v; out = first.out })))
      (sym (loss_view known room out name own others.0 well))
      (has_lost names (without_server name known)
      (after_deed room (loses t name text)) first.out own others.1
      (well_afterwards known room out name own others.0 well)))
