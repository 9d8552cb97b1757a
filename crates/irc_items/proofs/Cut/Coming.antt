-- What the sides of a lost link come to, once each has lost the other's servers: each server is
-- what it has to be in the world without that link, and each client has seen just what it receives
-- by that.
use Rattle.std.proofs.Common.{inl, inr, ◌≡◌, ◌≢◌, ℕ, Bool, true, false, cond, Some, None, List, []}
use Rattle.std.proofs.Common.{refl, sym, ◌∙◌, ap, subst, if◌then◌else◌}
use Rattle.std.specs.FinMap.{get, retain_keys}
use Rattle.std.specs.Option.{option_map}
use Rattle.irc_merge.specs.Split.{split}
use Rattle.irc_relay.specs.Distances.{IsAmong}
use Rattle.irc_relay.specs.Following.{all_done, all_seen}
use Rattle.irc_relay.specs.Lemmas.TellingNames.{Telling, alike, unlike, same_unless, tell}
use Rattle.irc_relay.specs.Links.{Name, Link, part, joined, linked, links_without, AreJoined}
use Rattle.irc_relay.specs.Links.{AreLinked, HasEnds}
use Rattle.irc_relay.specs.Relay.{Streams, from_near_end, streams_from, TakesFrom}
use Rattle.irc_relay.specs.Lemmas.StreamsFlow.{near_ends_cover}
use Rattle.irc_relay.specs.Lemmas.NextHops.{linked_back, linked_joined}
use Rattle.irc_relay.specs.Lemmas.LinkTakenOut.{linked_tells, without_turned}
use Rattle.irc_room.specs.Invitations.{of_home}
use Rattle.irc_routes.specs.Known.{Known, token_out}
use Rattle.irc_stage.specs.Lemmas.Numbers.{one_number, same_number, same_number-is}
use Rattle.irc_stage.specs.View.{End, View}
use Rattle.irc_world.specs.Stepping.{leaving_lines, parted, remaining, servers_on_side, split_text}
use Rattle.irc_world.specs.World.{Hall, World}
use Rattle.irc_world.specs.WorldHolds.{IsWorld}
use Rattle.irc_follow.specs.AtRest.{side_state_of, AreRight, IsOfWorld}
use Rattle.irc_follow.specs.Fits.{far_of, peers_of, Fits, IsNumberOf}
use Rattle.irc_follow.specs.SideState.{ItemSetting, info_in, is_home_of, number, IsItemSetting}
use Rattle.irc_follow.specs.SideState.{IsSoundSide}
use Rattle.irc_follow.specs.Says.{play}
use Rattle.irc_follow.specs.Tree.{shape_in}
use Rattle.irc_follow.specs.Lemmas.SideAtRest.{ends_there, joined_alike, joined_so}
use Rattle.irc_follow.specs.Lemmas.BehindLinks.{joined_test}
use Rattle.irc_follow.specs.Lemmas.NewLink.{parent_is_linked, shape_stays}
use Rattle.irc_follow.specs.Lemmas.PlacesOfNames.{one_place}
use Rattle.irc_items.proofs.Cut.Ends.{AreCutEnds, aside_joined, aside_linked, ends_unlinked}
use Rattle.irc_items.proofs.Cut.Ends.{side_linked}
use Rattle.irc_items.proofs.Cut.Halls.{hall_aside, hall_at, lines_at}
use Rattle.irc_items.proofs.Cut.Side.{IsCutSide, IsKnownOfCuts, client_remains, clients_left}
use Rattle.irc_items.proofs.Cut.Side.{clients_remaining, fits_side, room_left, side_ends, side_left}
use Rattle.irc_items.proofs.Cut.Side.{side_right, side_seen, side_tokens}
use Rattle.irc_items.proofs.Cut.Sides.{cut_after, cut_side, deeds_of_cut, routes_after_cut}
use Rattle.irc_items.proofs.Common.Ends.{both_ends, chosen_aside, chosen_at, not_both, other_end}
use Rattle.irc_items.proofs.Common.Right.{all_right, refits, right_still, same_kept}

-- the world before the link between a and b is lost, and the sources from which its lines come then
pub record IsCutWorld (s : ItemSetting) (world : World) (routes : Name → Known)
    (a b : Name) : Type 0 where
  pub fixed : IsItemSetting s
  pub holds : IsWorld s.settings world
  pub homes : s.homes ≡ world.homes
  pub linked : AreLinked world.links a b
  pub right : AreRight s world.links routes
  pub after : IsWorld s.settings (parted s.settings world (links_without world.links a b) a b).state
  pub streams : s.streams ≡ streams_from (links_without world.links a b)
      (from_near_end (links_without world.links a b) a b)
  pub sound : (e o : Name) → HasEnds (record { near = a; far = b }) e o
      → IsSoundSide s (cut_after s world routes (links_without world.links a b) e o)

-- What is known of an end of the link, which has lost the other's servers itself, and of what it
-- was before: it is not linked to the other end any more, has all its other links, and is what its
-- side is otherwise.
pub record IsCutEnd (s : ItemSetting) (world : World) (routes : Name → Known) (left : List Link)
    (a b : Name) (view : View) : Type 0 where
  pub streams : Streams
  pub before : View
  pub fitted : Fits (record s { streams = streams }) a (side_state_of s world routes a) before
  pub peers : view.peers ≡ peers_of s.settings a
  pub known : view.routes ≡ (cut_after s world routes left a b).tree.routes a
  pub room : view.room ≡ of_home a
      (split (split_text a b) (servers_on_side s.settings left b) (world.hall a).room)
  pub clients : view.clients ≡ retain_keys (world.hall a).clients (is_home_of s.homes a)
  pub lost : get view.ends (number s b) ≡ None
  pub others : (k : ℕ) → k ≢ number s b → get view.ends k ≡ get before.ends k

-- Once a server has followed the losses, it is what it has to be in the world without the link; so
-- is the end itself, which lost them. Servers of other parts are it as they are, wherever lines
-- came from before. Each client has seen what it receives.
pub record ComesToCut (s : ItemSetting) (world : World) (routes : Name → Known) (left : List Link)
    (a b : Name) : Type 0 where
  pub right : AreRight s left (routes_after_cut s world routes left a b)
  pub comes : (e o : Name) → HasEnds (record { near = a; far = b }) e o → (client : ℕ)
      (t : Name) (view : View) → IsAmong s.names t → AreJoined left t e → t ≢ e → Fits s t
      (all_done (play s client) (cut_side world routes left t) (deeds_of_cut s routes e o)) view
      → Fits s t (side_state_of s (parted s.settings world left a b).state
      (routes_after_cut s world routes left a b) t) view
  pub end_comes : (e o : Name) → HasEnds (record { near = a; far = b }) e o
      → (view : View) → IsCutEnd s world routes left e o view → Fits s e (side_state_of s
      (parted s.settings world left a b).state (routes_after_cut s world routes left a b) e) view
  pub others : (streams : Streams) (t : Name) (view : View) → IsAmong s.names t
      → ((e o : Name) → HasEnds (record { near = a; far = b }) e o → AreJoined left t e → ⊥) → Fits
      (record s { streams = streams }) t (side_state_of s world routes t) view
      → Fits s t (side_state_of s
      (parted s.settings world left a b).state (routes_after_cut s world routes left a b) t) view
  pub seen : (e o : Name) → HasEnds (record { near = a; far = b }) e o → (client : ℕ) (t : Name)
      → IsAmong s.names t → AreJoined left t e → is_home_of s.homes t client ≡ true
      → all_seen (play s client) t (cut_side world routes left t) (deeds_of_cut s routes e o)
      ≡ (parted s.settings world left a b).out client
  pub home_seen : (e o : Name) → HasEnds (record { near = a; far = b }) e o → (client : ℕ)
      → is_home_of s.homes e client ≡ true → leaving_lines s.settings left e o (world.hall e).room
      (get (world.hall e).clients client) ≡ (parted s.settings world left a b).out client
  pub aside_seen : (client : ℕ) (t : Name)
      → ((e o : Name) → HasEnds (record { near = a; far = b }) e o → AreJoined left t e → ⊥)
      → is_home_of s.homes t client ≡ true → (parted s.settings world left a b).out client ≡ []

module _ (law : IsKnownOfCuts) {s : ItemSetting} {world : World} {routes : Name → Known}
    {a b : Name}
    (so : IsCutWorld s world routes a b) where
  abbrev left : List Link
  left = links_without world.links a b

  abbrev l : Link
  l = record { near = a; far = b }

  side : (e o : Name) → HasEnds l e o → IsCutSide s world routes left e o
  side e o ends = record {
    fixed = so.fixed;
    holds = so.holds;
    homes = so.homes;
    right = so.right;
    linked = both_ends l (AreLinked world.links) so.linked
        (linked_back world.links a b so.linked) e o ends;
    is_left = both_ends l (λ e o. links_without world.links e o ≡ left) refl
        (without_turned world.links b a) e o ends;
    sound = so.sound e o ends;
  }

  of_side : (e o : Name) → HasEnds l e o → AreCutEnds world.links left e o
  of_side e o ends = side_ends law (side e o ends)

  near_ends : AreCutEnds world.links left a b
  near_ends = of_side a b (inl (refl, refl))

  apart : AreJoined left a b → ⊥
  apart on = near_ends.apart (sym on)

  end_among : (e o : Name) → HasEnds l e o → IsAmong s.names e
  end_among e o ends = ends_there s world so.fixed so.holds e o (side e o ends).linked

  abbrev routes_now : Name → Known
  routes_now = routes_after_cut s world routes left a b

  abbrev side_routes : Name → Name → Name → Known
  side_routes e o = (cut_after s world routes left e o).tree.routes

  -- ---- what each server knows by then

  side_is : (t e o : Name) → HasEnds l e o → AreJoined left t e → routes_now t ≡ side_routes e o t
  side_is t e o ends on = chosen_at l left apart (λ e o. side_routes e o t) (routes t) t e o ends on

  aside_is : (t : Name) → ((e o : Name) → HasEnds l e o → AreJoined left t e → ⊥)
      → routes_now t ≡ routes t
  aside_is t none = chosen_aside l left t (λ e o. side_routes e o t) (routes t) none

  away_joined : (t : Name) → ((e o : Name) → HasEnds l e o → AreJoined left t e → ⊥) → (x : Name)
      → joined world.links x t ≡ joined left x t
  away_joined t none = aside_joined world.links left a b near_ends t (none a b (inl (refl, refl)))
      (none b a (inr (refl, refl)))

  stays : (t x : Name) → AreJoined left x t → shape_in s.names (info_in s.settings) world.links t x
      ≡ shape_in s.names (info_in s.settings) left t x
  stays t x together = sym (shape_stays s.names (info_in s.settings) left world.links t x
      (near_ends.kept t x (sym together)) (near_ends.kept x t together))

  right_now : AreRight s left routes_now
  right_now = all_right s left left l side_routes routes apart
      (λ e o ends t among on. side_right law (side e o ends) t among on)
      (λ t none among. right_still so.right among (λ x. sym (away_joined t none x))
      (λ x before. stays t x
      (joined_so left x t (sym (away_joined t none x) ∙ joined_test world.links x t before))))
      (λ e o ends t u x r on linked there link.
      ap (λ known. token_out known x) (side_is t e o ends (linked_joined left t u linked ∙ on))
      ∙ side_tokens law (side e o ends) t u x r on linked there link)
      (λ t u x r none among linked there link.
      ap (λ known. token_out known x)
      (aside_is t (λ e o ends on. none e o ends (sym (linked_joined left t u linked) ∙ on)))
      ∙ so.right.tokens t u x r among (near_ends.before t u linked) there link)

  -- ---- the world without the link

  abbrev now : World
  now = (parted s.settings world left a b).state

  of_world : IsOfWorld s now
  of_world = record {
    homes = so.homes;
    parents = λ t p takes. parent_is_linked left (from_near_end left a b) t p near_ends.forest
        (near_ends_cover left a b)
        (subst (λ streams. TakesFrom streams t p) so.streams takes);
  }

  -- clients of other sides are not there
  none_remains : (t : Name) (client : ℕ) (e o : Name) → HasEnds l e o
      → (AreJoined left t e → ⊥) → is_home_of s.homes t client ≡ true
      → get (remaining s.settings world left e o).clients client ≡ None
  none_remains t client e o ends two home =
      clients_remaining law (side e o ends) t client home
      ∙ ap (λ c. cond c (get (world.hall e).clients client) None)
      (same_unless (part left e) (part left t) (λ one. two (sym one)))

  -- ---- one end's side: e is the end, and o the other

  module _ (e o : Name) (ends : HasEnds l e o) where
    comes : (client : ℕ) (t : Name) (view : View) → IsAmong s.names t → AreJoined left t e
        → t ≢ e → Fits s t (all_done (play s client) (cut_side world routes left t)
        (deeds_of_cut s routes e o)) view → Fits s t (side_state_of s now routes_now t) view
    comes client t view among here away after =
        refits s.streams (fits_side law (side e o ends) client t view here after)
        (joined_test left t t refl)
        (law.at_rest s now routes_now t so.fixed of_world so.after right_now among)
        (sym (side_is t e o ends here))
        (λ x x_among i. if side_linked world.links left e o (of_side e o ends) t x here
        (λ is _. away is) i
        then Some (if sym (joined_alike left x t e here) i then Some x else None) else None)
        (same_kept s.homes t (side_left law (side e o ends)).hall.clients
        (remaining s.settings world left e o).clients
        (clients_left law (side e o ends) t among here)
        ∙ ap (λ (hall : Hall). retain_keys hall.clients (is_home_of s.homes t)) (sym hall_is))
        (ap (of_home t) (room_left law (side e o ends)
        ∙ ap (λ (hall : Hall). hall.room) (sym hall_is)))
      where
        hall_is : now.hall t ≡ remaining s.settings world left e o
        hall_is = hall_at s.settings world left l apart t e o ends here

    -- ---- the end itself

    still_named : (x : Name) (c : Bool) → linked left e x ≡ c
        → (if c then Some (if joined world.links x e then Some x else None) else None)
        ≡ (if c then Some (if joined left x e then Some x else None) else None)
    still_named x false so_linked = refl
    still_named x true so_linked =
        let one : AreJoined left x e =
        sym (linked_joined left e x ((linked_tells left e x).0 so_linked)) in
        ap (λ c. Some (if c then Some x else None)) (joined_test world.links x e
        ((of_side e o ends).kept x e one).joined ∙ sym (joined_test left x e one))

    end_named : (view : View) → IsCutEnd s world routes left e o view → (x : Name)
        → IsAmong s.names x → Telling x o → option_map far_of (get view.ends (number s x))
        ≡ (if linked left e x then Some (if joined left x e then Some x else None) else None)
    end_named view end x among (alike _ is) =
        ap (λ y. option_map far_of (get view.ends (number s y))) is
        ∙ ap (option_map far_of) end.lost
        ∙ sym (ap (λ c. if c then Some (if joined left x e then Some x else None) else None)
        (ap (linked left e) is ∙ ends_unlinked world.links left e o (of_side e o ends)))
    end_named view end x among (unlike _ two) =
        ap (option_map far_of)
        (end.others (number s x) (λ one. two (one_place s.names x o among one)))
        ∙ end.fitted.ends x among
        ∙ ap (λ c. if c then Some (if joined world.links x e then Some x else None) else None)
        (side_linked world.links left e o (of_side e o ends) e x refl (λ _ is. two is))
        ∙ still_named x (linked left e x) refl

    end_numbers : (view : View) → IsCutEnd s world routes left e o view → (k : ℕ) (there : End)
        → get view.ends k ≡ Some there → IsNumberOf s k
    end_numbers view end k there is = by (same_number k (number s o)) refl
      where
        by : (c : Bool) → same_number k (number s o) ≡ c → IsNumberOf s k
        by true one =
            absurd (cc (sym is ∙ ap (get view.ends) (one_number k (number s o) one) ∙ end.lost))
        by false two =
            let other : k ≢ number s o = λ one. cc (sym two ∙ same_number-is k (number s o) one) in
            let at = end.fitted.no_others k there (sym (end.others k other) ∙ is) in
            record { server = at.server; among = at.among; is = at.is }

    end_comes : (view : View) → IsCutEnd s world routes left e o view
        → Fits s e (side_state_of s now routes_now e) view
    end_comes view end = record {
      here = joined_test left e e refl;
      sound =
          law.at_rest s now routes_now e so.fixed of_world so.after right_now (end_among e o ends);
      peers = end.peers;
      routes = end.known ∙ sym (side_is e e o ends refl);
      ends = λ x x_among. end_named view end x x_among (tell x o);
      no_others = end_numbers view end;
      clients = end.clients
          ∙ same_kept s.homes e (world.hall e).clients (remaining s.settings world left e o).clients
          (λ q home. sym (client_remains law (side e o ends) e q refl home))
          ∙ ap (λ (hall : Hall). retain_keys hall.clients (is_home_of s.homes e)) (sym hall_is);
      room = end.room ∙ ap (λ (hall : Hall). of_home e hall.room) (sym hall_is);
    }
      where
        hall_is : now.hall e ≡ remaining s.settings world left e o
        hall_is = hall_at s.settings world left l apart e e o ends refl

    -- ---- what clients have seen

    lines_are : (client : ℕ) (t : Name) → AreJoined left t e → is_home_of s.homes t client ≡ true
        → (parted s.settings world left a b).out client ≡ leaving_lines s.settings left e o
        (world.hall e).room (get (world.hall e).clients client)
    lines_are client t here home =
        lines_at s.settings world left l apart client e o ends
        (none_remains t client o e (other_end l e o ends)
        (λ there. not_both l left apart t e o ends here there) home)
        ∙ ap (leaving_lines s.settings left e o (world.hall e).room)
        (client_remains law (side e o ends) t client here home)

  -- ---- servers of other parts

  others : (streams : Streams) (t : Name) (view : View) → IsAmong s.names t
      → ((e o : Name) → HasEnds l e o → AreJoined left t e → ⊥)
      → Fits (record s { streams = streams }) t (side_state_of s world routes t) view
      → Fits s t (side_state_of s now routes_now t) view
  others streams t view among none fits =
      refits streams fits (joined_test left t t refl) (law.at_rest s now routes_now t so.fixed
      of_world so.after right_now among) (sym (aside_is t none))
      (λ x x_among i. if aside_linked world.links left a b near_ends t (none a b (inl (refl, refl)))
      (none b a (inr (refl, refl))) x i
      then Some (if away_joined t none x i then Some x else None) else None)
      (ap (λ (hall : Hall). retain_keys hall.clients (is_home_of s.homes t)) (sym hall_still))
      (ap (λ (hall : Hall). of_home t hall.room) (sym hall_still))
    where
      hall_still : now.hall t ≡ world.hall t
      hall_still = hall_aside s.settings world left l apart t none

  pub comes_to_cut : ComesToCut s world routes left a b
  comes_to_cut = record {
    right = right_now;
    comes = comes;
    end_comes = end_comes;
    others = others;
    seen = λ e o ends client t among here home.
        side_seen law (side e o ends) client t among here home
        ∙ sym (lines_are e o ends client t here home);
    home_seen = λ e o ends client home. sym (lines_are e o ends client e refl home);
    aside_seen = λ client t none home.
        lines_at s.settings world left l apart client a b (inl (refl, refl))
        (none_remains t client b a (inr (refl, refl)) (none b a (inr (refl, refl))) home)
        ∙ ap (leaving_lines s.settings left a b (world.hall a).room)
        (none_remains t client a b (inl (refl, refl)) (none a b (inl (refl, refl))) home);
  }

pub cut_comes_to : IsKnownOfCuts → (s : ItemSetting) (world : World)
    (routes : Name → Known) (a b : Name) → IsCutWorld s world routes a b
    → ComesToCut s world routes (links_without world.links a b) a b
cut_comes_to law s world routes a b so = comes_to_cut law so
