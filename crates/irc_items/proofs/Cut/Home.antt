-- A link is lost: what the server at one end does. It loses all that were behind the link, tells
-- its other neighbours of each, and shows its clients who quits.
use Rattle.std.proofs.Common.{◌≡◌, ◌≢◌, ℕ, Bool, true, false, cond, Option, Some, None, List, []}
use Rattle.std.proofs.Common.{◌∷◌, map, filter, nat_eq, is_some, refl, sym, ◌∙◌, ap, subst}
use Rattle.std.proofs.Common.{if◌then◌else◌}
use Rattle.std.proofs.lemmas.Bool.{eqb-true}
use Rattle.std.specs.FinMap.{get, remove}
use Rattle.std.specs.List.{AllByRecursion}
use Rattle.std.specs.Option.{option_map_or}
use Rattle.irc_line.specs.Messages.{line_text}
use Rattle.irc_room.specs.Invitations.{of_home}
use Rattle.irc_room.specs.Room.{Room, IsWellFormed}
use Rattle.irc_merge.specs.Deeds.{loses, after_deeds}
use Rattle.irc_merge.specs.Split.{are_distinct, split}
use Rattle.irc_merge.specs.Lemmas.SplitInTurn.{squits_split}
use Rattle.irc_relay.specs.Distances.{EndsAreAmong, IsAmong}
use Rattle.irc_relay.specs.Following.{all_done}
use Rattle.irc_relay.specs.Links.{Name, Link, joined, links_without, AreJoined, AreLinked, IsForest}
use Rattle.irc_relay.specs.Links.{IsLeft}
use Rattle.irc_relay.specs.Lemmas.TellingNames.{Telling, alike, unlike, tell}
use Rattle.irc_relay.specs.Lemmas.NextHops.{linked_back, linked_joined, linked_other}
use Rattle.irc_relay.specs.Lemmas.LinkTakenOut.{taken_out, tests_tell}
use Rattle.irc_routes.specs.Known.{Known, names_behind, without_link, without_server, IsNumbered}
use Rattle.irc_burst_lines.specs.DeedLines.{squit_parts}
use Rattle.irc_stage.specs.Ends.{is_met}
use Rattle.irc_stage.specs.Ways.{but, met_links}
use Rattle.irc_stage.specs.EffectTold.{Served, in_silence}
use Rattle.irc_stage.specs.Linked.{unlinked}
use Rattle.irc_stage.specs.View.{End, View}
use Rattle.irc_stage.specs.Lemmas.Counting.{get-kept}
use Rattle.irc_stage.specs.Lemmas.Numbers.{get-without, one_number, same_number, same_number-refl}
use Rattle.irc_server.specs.DeedTold.{deeds_told, losses, lost_behind, split_text}
use Rattle.irc_server.specs.Owed.{lines_to}
use Rattle.irc_server.specs.Served.{link_down, served}
use Rattle.irc_world.specs.Stepping.{leaving_lines, servers_on_side}
use Rattle.irc_world.specs.World.{Setting, World}
use Rattle.irc_world.specs.WorldHolds.{IsWorld}
use Rattle.irc_follow.specs.AtRest.{side_state_of, AreRight}
use Rattle.irc_follow.specs.Fits.{Fits}
use Rattle.irc_follow.specs.SideState.{ItemSetting, SideState, done, is_home_of, number}
use Rattle.irc_follow.specs.SideState.{IsItemSetting}
use Rattle.irc_follow.specs.Says.{lines_on, play}
use Rattle.irc_follow.specs.Lemmas.SideAtRest.{ends_there}
use Rattle.irc_follow.specs.Lemmas.BehindLinks.{behind_is_that_side}
use Rattle.irc_follow.specs.Lemmas.LinesOnLinks.{among_met, but_another}
use Rattle.irc_follow.specs.Lemmas.Neighbours.{met_end, HasEnd}
use Rattle.irc_follow.specs.Lemmas.PlacesOfNames.{one_place}
use Rattle.irc_items.specs.GoodLines.{closings}
use Rattle.irc_items.proofs.Cut.Losses.{leaving_seen, room_lost, staying_sees}
use Rattle.irc_items.proofs.Cut.Ends.{cut_ends, stays, goes, goes_back, AreCutEnds}
use Rattle.irc_items.proofs.Cut.Sides.{cut_after, cut_side}
use Rattle.irc_items.proofs.Cut.Forgetting.{all_forgotten, nobody_behind}
use Rattle.irc_items.proofs.Cut.NamesPassing.{all_pass}
use Rattle.irc_items.proofs.Cut.LostInTurn.{has_lost, serving, HasLost}
use Rattle.irc_items.proofs.Good.MetEnds.{end_linked, linked_as_itself}
use Rattle.irc_items.proofs.Good.PutOut.{but_itself}
use Rattle.irc_items.proofs.Cut.Names.{keys_distinct}

-- ---- a link between a and b that is lost in a world at rest

pub record IsCutAt (s : ItemSetting) (world : World) (routes : Name → Known) (left : List Link)
    (a b : Name) : Type 0 where
  pub fixed : IsItemSetting s
  pub holds : IsWorld s.settings world
  pub right : AreRight s world.links routes
  pub linked_ends : AreLinked world.links a b
  pub is_left : left ≡ links_without world.links a b

-- what a server of a side knows once that has lost these
pub routes_lost : (s : ItemSetting) (client : ℕ) (a b : Name)
    (names : List Name) (w : SideState) (t : Name) → w.tree.here t ≡ true
    → (all_done (play s client) w (losses a b names)).tree.routes t
    ≡ all_forgotten names (w.tree.routes t)
unfolding done
routes_lost s client a b [] w t here = refl
routes_lost s client a b (name ∷ names) w t here =
    routes_lost s client a b names (done s w (loses a name (split_text a b))) t here
    ∙ ap (λ c. all_forgotten names (if c then without_server name (w.tree.routes t)
    else w.tree.routes t)) here

pub all_so : (P Q : Name → Type 0) → ((x : Name) → P x → Q x) → (names : List Name)
    → AllByRecursion P names → AllByRecursion Q names
all_so P Q so [] all = tt
all_so P Q so (name ∷ names) all = (so name all.0, all_so P Q so names all.1)

module _ {s : ItemSetting} {world : World} {routes : Name → Known} {left : List Link} {a b : Name}
    (cut : IsCutAt s world routes left a b) where
  pub forest : IsForest world.links
  forest = cut.holds.sound.forest

  pub all_among : EndsAreAmong s.names world.links
  all_among = ends_there s world cut.fixed cut.holds

  pub a_among : IsAmong s.names a
  a_among = all_among a b cut.linked_ends

  pub b_among : IsAmong s.names b
  b_among = all_among b a (linked_back world.links a b cut.linked_ends)

  pub rest : IsLeft left world.links a b
  rest = subst (λ ls. IsLeft ls world.links a b) (sym cut.is_left)
      (taken_out world.links a b forest cut.linked_ends)

  -- ---- who is linked without that link

  cut_off : AreCutEnds world.links left a b
  cut_off = cut_ends world.links left a b forest cut.linked_ends (sym cut.is_left)

  pub linked_before : (t u : Name) → AreLinked left t u → AreLinked world.links t u
  linked_before = cut_off.before

  pub linked_still : (t u : Name) → (t ≡ a → u ≡ b → ⊥) → (t ≡ b → u ≡ a → ⊥)
      → AreLinked world.links t u → AreLinked left t u
  linked_still t u forth back near = elim (cut_off.after t u near) [
    | stays there ↦ there
    | goes from to ↦ absurd (forth from to)
    | goes_back from to ↦ absurd (back from to)
  ]

  -- ---- who is lost

  abbrev pub lost : List Name
  lost = names_behind (routes a) (number s b)

  pub lost_are : lost ≡ servers_on_side s.settings left b
  lost_are =
      behind_is_that_side s world.links routes a b cut.fixed forest all_among cut.right
      cut.linked_ends
      ∙ ap (λ ls. servers_on_side s.settings ls b) (sym cut.is_left)

  pub lost_once : are_distinct lost ≡ true
  lost_once = subst (λ names. are_distinct names ≡ true) (sym lost_are) (keys_distinct _)

  pub lost_beyond : AllByRecursion (λ x. AreJoined left x b) lost
  lost_beyond =
      subst (AllByRecursion (λ x. AreJoined left x b)) (sym lost_are)
      (all_so (λ x. joined left b x ≡ true) (λ x. AreJoined left x b)
      (λ x is. sym ((tests_tell left b x x).1.0 is)) (servers_on_side s.settings left b)
      (all_pass (map (λ (own : Setting). own.name) s.settings) (joined left b)))

  pub lost_are_others : AllByRecursion (λ x. x ≢ a) lost
  lost_are_others =
      all_so (λ x. AreJoined left x b) (λ x. x ≢ a)
      (λ x on is. rest.parted (subst (λ v. AreJoined left v b) is on)) lost lost_beyond

  -- while the link is there they are joined to a
  pub lost_joined : (x : Name) → AreJoined left x b → AreJoined world.links x a
  lost_joined x on = (rest.kept x b on).joined ∙ sym (linked_joined world.links a b cut.linked_ends)

  pub named_a : (routes a).name ≡ a
  named_a = cut.right.named a a_among

-- what it is then, and what it puts out
pub record IsParted (s : ItemSetting) (world : World) (routes : Name → Known) (left : List Link)
    (a b : Name) (view : View) (now : Served) : Type 0 where
  pub peers : now.state.peers ≡ view.peers
  pub knows : now.state.routes ≡ (cut_after s world routes left a b).tree.routes a
  pub end_gone : get now.state.ends (number s b) ≡ None
  pub ends_stay : (k : ℕ) → k ≢ number s b → get now.state.ends k ≡ get view.ends k
  pub clients : now.state.clients ≡ view.clients
  pub room : now.state.room ≡ of_home a
      (split (split_text a b) (servers_on_side s.settings left b) (world.hall a).room)
  pub told : (u : Name) → AreLinked left a u → lines_on (number s u) now.out ≡ map
      (λ x. line_text (squit_parts a x (split_text a b))) (names_behind (routes a) (number s b))
  pub untold : (u : Name) → (AreLinked left a u → ⊥) → lines_on (number s u) now.out ≡ []
  pub shown : (client : ℕ) → lines_to client now.out
      ≡ (if is_home_of s.homes a client then leaving_lines s.settings left a b (world.hall a).room
      (get (world.hall a).clients client) else [])
  pub closes_none : closings now.out ≡ []

module _ {s : ItemSetting} {world : World} {routes : Name → Known} {left : List Link} {a b : Name}
    (cut : IsCutAt s world routes left a b) (view : View)
    (fits : Fits s a (side_state_of s world routes a) view) where
  abbrev k : ℕ
  k = number s b

  abbrev gone : List Name
  gone = names_behind (routes a) (number s b)

  abbrev room : Room
  room = (world.hall a).room

  well : IsWellFormed room
  well = cut.holds.sound.well_formed a

  -- ---- it loses them all

  met : (u : Name) → AreLinked world.links a u → HasEnd view (number s u) u
  met u near = met_end view (number s u) u
      (fits.ends u (all_among cut u a (linked_back world.links a u near))
      ∙ ap (λ c. if c then Some (if joined world.links u a then Some u else None) else None)
      ((tests_tell world.links a u u).2.1 near)
      ∙ ap (λ c. Some (if c then Some u else None))
      ((tests_tell world.links u a u).1.1 (sym (linked_joined world.links a u near))))

  own : view.routes.name ≡ a
  own = ap (λ (known : Known). known.name) fits.routes ∙ named_a cut

  loses_them : lost_behind view k (get view.ends k) ≡ losses a b gone
  loses_them =
      let its_end = met b cut.linked_ends in
      ap (lost_behind view k) its_end.there
      ∙ ap (λ o. option_map_or
      (λ far. losses view.routes.name far (names_behind view.routes k)) o []) its_end.named
      ∙ (λ i. losses (own i) b (names_behind (fits.routes i) k))

  abbrev first : Served
  first = serving view a b k (routes a) room []

  at_first : in_silence view ≡ first
  at_first =
      λ i. record { state = record view { routes = fits.routes i; room = fits.room i }; out = [] }

  abbrev so : Served
  so = deeds_told (Some k) (losses a b gone) first

  abbrev closed : Served → Served
  closed now = record now { state = unlinked k now.state }

  served_is : served view (link_down k) ≡ closed so
  unfolding served
  served_is =
      ap (λ deeds. closed (deeds_told (Some k) deeds (in_silence view))) loses_them
      ∙ ap (λ now. closed (deeds_told (Some k) (losses a b gone) now)) at_first

  has : HasLost view a b k (routes a) room [] gone so
  has = has_lost view a b k gone (routes a) room [] (named_a cut) (lost_are_others cut) well

  -- ---- its room and its routes

  room_left : after_deeds room (losses a b gone) ≡ split (split_text a b)
      (servers_on_side s.settings left b) room
  room_left = ap (λ names. after_deeds room (losses a b names)) (lost_are cut)
      ∙ room_lost squits_split s.settings left a b room well

  numbered : IsNumbered (routes a)
  numbered = cut.right.numbered a (a_among cut)

  forgets_them : (closed so).state.routes ≡ all_forgotten gone (routes a)
  forgets_them =
      ap (λ (v : View). without_link k v.routes) has.view_is ∙ nobody_behind (routes a) k numbered

  -- ---- what it puts out on its links

  not_back : (u : Name) → u ≢ b → nat_eq k (number s u) ≡ false
  not_back u two = by (nat_eq k (number s u)) refl
    where
      by : (c : Bool) → nat_eq k (number s u) ≡ c → c ≡ false
      by false is = refl
      by true is =
          absurd (two (sym (one_place s.names b u (b_among cut) (eqb-true k (number s u) is))))

  on_met : (u : Name) → u ≢ b
      → filter (λ n. nat_eq n (number s u)) (but (Some k) (met_links view.ends))
      ≡ (if option_map_or is_met (get view.ends (number s u)) false then number s u ∷ [] else [])
  on_met u two = but_another (number s u) k (not_back u two) (met_links view.ends)
      ∙ among_met (number s u) view.ends

  told_it : (u : Name) → AreLinked left a u
      → lines_on (number s u) so.out ≡ map (λ x. line_text (squit_parts a x (split_text a b))) gone
  told_it u near = has.lines (number s u) true
      (on_met u (λ e. rest_of.parted (linked_joined left a b (subst (AreLinked left a) e near)))
      ∙ ap (λ o. if option_map_or is_met o false then number s u ∷ [] else []) its_end.there
      ∙ ap (λ o. if is_some o then number s u ∷ [] else []) its_end.named)
    where
      rest_of : IsLeft left world.links a b
      rest_of = rest cut

      its_end : HasEnd view (number s u) u
      its_end = met u (linked_before cut a u near)

  told_nobody_else : (u : Name) → (AreLinked left a u → ⊥) → lines_on (number s u) so.out ≡ []
  told_nobody_else u apart = has.lines (number s u) false (by (tell u b))
    where
      no_end : u ≢ b → (o : Option End) → get view.ends (number s u) ≡ o
          → option_map_or is_met o false ≡ false
      no_end two None there = refl
      no_end two (Some end) there =
          absurd (apart (linked_still cut a u (λ e f. two f)
          (λ e f. linked_other world.links a b (forest cut) cut.linked_ends e)
          (end_linked s world.links a (side_state_of s world routes a) view fits
          (linked_as_itself world.links a) u end there)))

      by : Telling u b
          → filter (λ n. nat_eq n (number s u)) (but (Some k) (met_links view.ends)) ≡ []
      by (alike _ e) =
          ap (λ v. filter (λ n. nat_eq n (number s v)) (but (Some k) (met_links view.ends))) e
          ∙ but_itself k (met_links view.ends)
      by (unlike _ two) =
          on_met u two ∙ ap (λ c. if c then number s u ∷ [] else [])
          (no_end two (get view.ends (number s u)) refl)

  -- ---- what it shows

  shown_there : (client : ℕ) → staying_sees (losses a b gone) room (get view.clients client)
      ≡ (if is_home_of s.homes a client
      then leaving_lines s.settings left a b room (get (world.hall a).clients client) else [])
  shown_there client =
      ap (staying_sees (losses a b gone) room) (ap (λ clients. get clients client) fits.clients
      ∙ get-kept (world.hall a).clients (is_home_of s.homes a) client)
      ∙ by (is_home_of s.homes a client)
    where
      by : (c : Bool)
          → staying_sees (losses a b gone) room (cond c (get (world.hall a).clients client) None)
          ≡ (if c then leaving_lines s.settings left a b room (get (world.hall a).clients client)
          else [])
      by true =
          ap (λ names. staying_sees (losses a b names) room (get (world.hall a).clients client))
          (lost_are cut)
          ∙ leaving_seen squits_split s.settings left a b room well
          (get (world.hall a).clients client)
      by false = refl

  -- ----

  ends_now : (q : ℕ) → get (closed so).state.ends q ≡ cond (same_number q k) None (get view.ends q)
  ends_now q = ap (λ (v : View). get (remove v.ends k) q) has.view_is ∙ get-without view.ends k q

  closed_is : IsParted s world routes left a b view (closed so)
  closed_is = record {
    peers = ap (λ (v : View). v.peers) has.view_is;
    knows = forgets_them ∙ sym (routes_lost s 0 a b gone (cut_side world routes left a) a
        ((tests_tell left a a a).1.1 refl));
    end_gone = ends_now k ∙ ap (λ c. cond c None (get view.ends k)) (same_number-refl k);
    ends_stay = λ q two. ends_now q ∙ by q two (same_number q k) refl;
    clients = ap (λ (v : View). v.clients) has.view_is;
    room = ap (λ (v : View). v.room) has.view_is ∙ ap (of_home a) room_left;
    told = told_it;
    untold = told_nobody_else;
    shown = λ client. has.shown client ∙ shown_there client;
    closes_none = has.closes;
  }
    where
      by : (q : ℕ) → q ≢ k → (c : Bool) → same_number q k ≡ c
          → cond c None (get view.ends q) ≡ get view.ends q
      by q two true one = absurd (two (one_number q k one))
      by q two false other = refl

  pub cut_home : IsParted s world routes left a b view (served view (link_down k))
  cut_home = subst (IsParted s world routes left a b view) (sym served_is) closed_is
