-- What the sides of a new link come to, once each knows the other: each server is what it has to be
-- in the world with that link, and each client has seen what it receives by it. Whoever has a
-- nickname that is on both sides is killed, on both.
use Rattle.std.proofs.Common.{◌≡◌, inl, inr, ℕ, true, Some, None, [], ◌∷◌, refl, sym, ◌∙◌, ap}
use Rattle.std.proofs.Common.{if◌then◌else◌}
use Rattle.std.specs.FinMap.{get, retain_keys}
use Rattle.std.specs.List.{AllByRecursion}
use Rattle.irc_merge.specs.Deeds.{after_deeds}
use Rattle.irc_merge.specs.Laws.{BurstReadIsMerge, MergeIsEven, ShownIsMergeShown}
use Rattle.irc_merge.specs.LimitLaws.{WithinLimitsIsTold}
use Rattle.irc_merge.specs.Merge.{merge}
use Rattle.irc_relay.specs.Distances.{EndsAreAmong, IsAmong}
use Rattle.irc_relay.specs.Following.{all_done, all_seen}
use Rattle.irc_relay.specs.Links.{Name, Link, part, joined, linked, AreJoined, AreLinked, IsForest}
use Rattle.irc_relay.specs.Links.{within, over, back, HasEnds}
use Rattle.irc_relay.specs.Lemmas.TellingNames.{same_unless}
use Rattle.irc_relay.specs.Relay.{Streams}
use Rattle.irc_relay.specs.Lemmas.NextHops.{linked_joined}
use Rattle.irc_relay.specs.Lemmas.JoiningParts.{joined_within}
use Rattle.irc_relay.specs.Lemmas.LinkTakenOut.{made}
use Rattle.irc_room.specs.Invitations.{of_home}
use Rattle.irc_routes.specs.declared.server_row.ServerRow.{ServerRow}
use Rattle.irc_routes.specs.Known.{Known, row_of, token_out}
use Rattle.irc_stage.specs.View.{View}
use Rattle.irc_world.specs.Stepping.{link_made, merged}
use Rattle.irc_world.specs.World.{Hall, World}
use Rattle.irc_world.specs.WorldHolds.{IsWorld}
use Rattle.irc_follow.specs.AtRest.{side_state_of, AreRight, IsOfWorld, SideAtRestIsSound}
use Rattle.irc_follow.specs.Fits.{Fits}
use Rattle.irc_follow.specs.SideState.{ItemSetting, info_in, is_home_of, IsItemSetting, IsSoundSide}
use Rattle.irc_follow.specs.Says.{play}
use Rattle.irc_follow.specs.Tree.{index_in, shape_in}
use Rattle.irc_follow.specs.Lemmas.SideAtRest.{ends_there}
use Rattle.irc_follow.specs.Lemmas.BehindLinks.{joined_test}
use Rattle.irc_follow.specs.Lemmas.NewLink.{shape_stays}
use Rattle.irc_items.proofs.Link.Ends.{AreEnds, aside_joined, aside_links, far_ends, near_ends}
use Rattle.irc_items.proofs.Link.Gains.{hall_left}
use Rattle.irc_items.proofs.Link.Halls.{none_there, one_survives, other_survives, room_read}
use Rattle.irc_items.proofs.Link.Halls.{side_survives, surviving_in}
use Rattle.irc_items.proofs.Link.Shown.{aside_receives, side_receives, side_seen}
use Rattle.irc_items.proofs.Link.Side.{end_tokens, fits_side, side_right, side_sound, side_tokens}
use Rattle.irc_items.proofs.Link.Sides.{IsReadDeed, deeds_of_link, room_deeds, routes_after}
use Rattle.irc_items.proofs.Link.Sides.{side_after, side_of}
use Rattle.irc_items.proofs.Common.Ends.{both_ends, chosen_aside, chosen_at, not_both, other_end}
use Rattle.irc_items.proofs.Common.Right.{all_right, refits, right_still, same_kept}

-- The world before a link is made between two parts. Each line that the one tells of its room is
-- read at the other as what it says, or as the KILL of a user there.
pub record IsLinkedWorld (s : ItemSetting) (l : Link) (world : World)
    (routes : Name → Known) : Type 0 where
  pub fixed : IsItemSetting s
  pub holds : IsWorld s.settings world
  pub homes : s.homes ≡ world.homes
  pub apart : AreJoined world.links l.near l.far → ⊥
  pub among : (e o : Name) → HasEnds l e o → IsAmong s.names e
  pub right : AreRight s world.links routes
  pub read : (e o : Name) → HasEnds l e o → AllByRecursion (IsReadDeed e) (room_deeds world e o)
  pub after : IsWorld s.settings (link_made world l.near l.far).state
  pub sound : (e o : Name) → HasEnds l e o → IsSoundSide s
      (all_done (play s 0) (side_of s l world routes e) (deeds_of_link s world routes e o))

-- Once a server has followed the deeds of the link, it is what it has to be in the world with that
-- link, and each of its clients has seen what it receives.
-- Servers of other parts are it as they are, wherever lines came from before, and their clients
-- receive nothing.
pub record ComesToLinked (s : ItemSetting) (l : Link) (world : World)
    (routes : Name → Known) : Type 0 where
  pub right : AreRight s (l ∷ world.links) (routes_after s l world routes)
  pub comes : (e o : Name) → HasEnds l e o → (client : ℕ) (t : Name) (view : View)
      → IsAmong s.names t → AreJoined world.links t e → Fits s t (all_done (play s client)
      (side_of s l world routes t) (deeds_of_link s world routes e o)) view → Fits s t
      (side_state_of s (link_made world l.near l.far).state (routes_after s l world routes) t) view
  pub others : (streams : Streams) (t : Name) (view : View) → IsAmong s.names t
      → ((e o : Name) → HasEnds l e o → AreJoined world.links t e → ⊥)
      → Fits (record s { streams = streams }) t (side_state_of s world routes t) view → Fits s t
      (side_state_of s (link_made world l.near l.far).state (routes_after s l world routes) t) view
  pub seen : (e o : Name) → HasEnds l e o → (client : ℕ) (t : Name)
      → AreJoined world.links t e → is_home_of s.homes t client ≡ true
      → all_seen (play s client) t (side_of s l world routes t) (deeds_of_link s world routes e o)
      ≡ (link_made world l.near l.far).out client
  pub aside_seen : (client : ℕ) (t : Name) → is_home_of s.homes t client ≡ true
      → ((e o : Name) → HasEnds l e o → AreJoined world.links t e → ⊥)
      → (link_made world l.near l.far).out client ≡ []

pub record IsKnownOfLinks : Type 0 where
  pub at_rest : SideAtRestIsSound
  pub reads : BurstReadIsMerge
  pub shows : ShownIsMergeShown
  pub even : MergeIsEven
  pub told : WithinLimitsIsTold

module _ (s : ItemSetting) (l : Link) (world : World) (routes : Name → Known)
    (so : IsLinkedWorld s l world routes) where
  forest : IsForest world.links
  forest = so.holds.sound.forest

  known_ends : EndsAreAmong s.names world.links
  known_ends = ends_there s world so.fixed so.holds

  are_ends : (e o : Name) → HasEnds l e o → AreEnds l world.links e o
  are_ends = both_ends l (AreEnds l world.links) (near_ends l world.links forest so.apart)
      (far_ends l world.links forest so.apart)

  apart_from : (t e o : Name) → HasEnds l e o → AreJoined world.links t e
      → AreJoined world.links t o → ⊥
  apart_from = not_both l world.links so.apart

  abbrev routes_now : Name → Known
  routes_now = routes_after s l world routes

  abbrev side_routes : Name → Name → Name → Known
  side_routes e o = (side_after s l world routes e o).tree.routes

  -- ---- what each server knows by then

  side_is : (t e o : Name) → HasEnds l e o → AreJoined world.links t e
      → routes_now t ≡ side_routes e o t
  side_is t e o ends on =
      chosen_at l world.links so.apart (λ e o. side_routes e o t) (routes t) t e o ends on

  aside_is : (t : Name) → ((e o : Name) → HasEnds l e o → AreJoined world.links t e → ⊥)
      → routes_now t ≡ routes t
  aside_is t none = chosen_aside l world.links t (λ e o. side_routes e o t) (routes t) none

  -- a server of another part is joined to whom it was joined to
  module _ (t : Name) (none : (e o : Name) → HasEnds l e o → AreJoined world.links t e → ⊥) where
    away_joined : (x : Name) → joined (l ∷ world.links) x t ≡ joined world.links x t
    away_joined = aside_joined l world.links forest so.apart t
        (none l.near l.far (inl (refl, refl))) (none l.far l.near (inr (refl, refl)))

    away_linked : (x : Name) → linked (l ∷ world.links) t x ≡ linked world.links t x
    away_linked = aside_links l world.links forest so.apart t (none l.near l.far (inl (refl, refl)))
        (none l.far l.near (inr (refl, refl)))

    stays : (x : Name) → AreJoined world.links x t → shape_in s.names (info_in s.settings)
        world.links t x ≡ shape_in s.names (info_in s.settings) (l ∷ world.links) t x
    stays x together = shape_stays s.names (info_in s.settings) world.links (l ∷ world.links) t x
        ((made l world.links forest so.apart).kept t x (sym together))
        ((made l world.links forest so.apart).kept x t together)

  -- across the new link the other end had that number from the beginning
  at_end : (t u : Name) → HasEnds l t u → (x : Name) (r : ServerRow) → row_of (side_routes u t u) x
      ≡ Some r → r.link ≡ index_in s.names t → token_out (routes_now t) x ≡ Some r.token
  at_end t u ends x r there link =
      let back = other_end l t u ends in
      ap (λ known. token_out known x) (side_is t t u ends refl)
      ∙ end_tokens s l world routes u t forest known_ends so.right (are_ends u t back)
      (so.among t u ends) (so.read u t back) (so.sound u t back) x r there link

  tokens_at : (e o : Name) → HasEnds l e o → (t u x : Name) (r : ServerRow)
      → AreJoined world.links u e → AreLinked (l ∷ world.links) t u → row_of (side_routes e o u) x
      ≡ Some r → r.link ≡ index_in s.names t → token_out (routes_now t) x ≡ Some r.token
  tokens_at e o ends t u x r on (inl its) there link =
      at_end t u its x r
      (sym (ap (λ known. row_of known x) (side_is u u t (other_end l t u its) refl))
      ∙ ap (λ known. row_of known x) (side_is u e o ends on) ∙ there)
      link
  tokens_at e o ends t u x r on (inr linked) there link =
      ap (λ known. token_out known x)
      (side_is t e o ends (linked_joined world.links t u linked ∙ on))
      ∙ side_tokens s l world routes e o forest known_ends so.right (are_ends e o ends)
      (so.among o e (other_end l e o ends)) (so.read e o ends)
      (so.sound e o ends) t u x r on (inr linked) there link

  tokens_aside : (t u x : Name) (r : ServerRow)
      → ((e o : Name) → HasEnds l e o → AreJoined world.links u e → ⊥) → IsAmong s.names u
      → AreLinked (l ∷ world.links) t u → row_of (routes u) x ≡ Some r → r.link ≡ index_in s.names t
      → token_out (routes_now t) x ≡ Some r.token
  tokens_aside t u x r none among (inl its) there link =
      absurd (none u t (other_end l t u its) refl)
  tokens_aside t u x r none among (inr linked) there link =
      ap (λ known. token_out known x) (aside_is t
      (λ e o ends on. none e o ends (sym (linked_joined world.links t u linked) ∙ on)))
      ∙ so.right.tokens t u x r among linked there link

  right_now : AreRight s (l ∷ world.links) routes_now
  right_now = all_right s (l ∷ world.links) world.links l side_routes routes so.apart
      (λ e o ends t among on. side_right s l world routes e o forest known_ends so.right
      (are_ends e o ends) (so.among o e (other_end l e o ends))
      (so.read e o ends) (so.sound e o ends) t among on)
      (λ t none among. right_still so.right among (away_joined t none) (stays t none)) tokens_at
      tokens_aside

  -- ---- the world with the link

  abbrev now : World
  now = (link_made world l.near l.far).state

  abbrev both : Hall
  both = merged (world.hall l.near) (world.hall l.far)

  of_world : IsOfWorld s now
  of_world = record {
    homes = so.homes;
    parents = (side_sound s l world routes l.near l.far forest known_ends so.right
        (are_ends l.near l.far (inl (refl, refl)))
        (so.among l.far l.near (inr (refl, refl))) (so.read l.near l.far (inl (refl, refl)))
        (so.sound l.near l.far (inl (refl, refl)))).parents;
  }

  hall_now : (t e o : Name) → HasEnds l e o → AreJoined world.links t e → now.hall t ≡ both
  hall_now t e o ends on = ap (λ b. if b then both else world.hall t)
      (joined_test (l ∷ world.links) t l.near (together e o ends on))
    where
      together : (e o : Name) → HasEnds l e o → AreJoined world.links t e
          → AreJoined (l ∷ world.links) t l.near
      together = both_ends l (λ e o. AreJoined world.links t e
          → AreJoined (l ∷ world.links) t l.near) (joined_within l world.links t l.near)
          (λ there. joined_within l world.links t l.far there
          ∙ sym (made l world.links forest so.apart).joined)

  none_at : (server t : Name) (q : ℕ) → (AreJoined world.links t server → ⊥)
      → is_home_of s.homes t q ≡ true → get (world.hall server).clients q ≡ None
  none_at = none_there s.settings world so.holds s.homes so.homes

  -- what is left of a client of its side is what is left of it in both
  kept_at : (e o : Name) → HasEnds l e o → (t : Name)
      → AreJoined world.links t e → (q : ℕ) → is_home_of s.homes t q ≡ true
      → get (hall_left (room_deeds world e o) (world.hall e)).clients q ≡ get both.clients q
  kept_at e o ends t on q home =
      side_survives s.settings world so.holds e o q
      ∙ sym (both_ends l (λ e o. AreJoined world.links t e → get both.clients q
      ≡ surviving_in (world.hall o).room (get (world.hall e).clients q))
      (λ here. one_survives (world.hall l.near) (world.hall l.far) q
      (none_at l.far t q (λ there. apart_from t l.near l.far (inl (refl, refl)) here there) home))
      (λ there. other_survives (world.hall l.near) (world.hall l.far) q
      (none_at l.near t q (λ here. apart_from t l.near l.far (inl (refl, refl)) here there) home)) e
      o ends on)

  module _ (known : IsKnownOfLinks) where
    -- what each side's servers have of the room by then is what they have to have of the room of
    -- both
    room_at : (e o : Name) → HasEnds l e o → (t : Name) → AreJoined world.links t e
        → of_home t (after_deeds (world.hall e).room (room_deeds world e o)) ≡ of_home t both.room
    room_at e o ends t on =
        room_read s.settings world so.holds e o
        (are_ends e o ends).apart known.reads known.told t on
        ∙ both_ends l (λ e o. of_home t (merge (world.hall e).room (world.hall o).room)
        ≡ of_home t both.room) refl
        (ap (of_home t) (sym (known.even (world.hall l.near).room (world.hall l.far).room
        (so.holds.sound.well_formed l.near)
        (so.holds.sound.well_formed l.far)))) e o ends

    -- ---- one end's side

    comes : (e o : Name) → HasEnds l e o → (client : ℕ) (t : Name) (view : View)
        → IsAmong s.names t → AreJoined world.links t e → Fits s t (all_done (play s client)
        (side_of s l world routes t) (deeds_of_link s world routes e o)) view
        → Fits s t (side_state_of s now routes_now t) view
    comes e o ends client t view among on follows =
        refits s.streams
        (fits_side s l world routes e o forest known_ends so.right (are_ends e o ends)
        (so.among o e (other_end l e o ends)) (so.read e o ends)
        client t view on (so.holds.sound.one_hall t e on) follows)
        (joined_test (l ∷ world.links) t t refl) (known.at_rest s now routes_now t so.fixed of_world
        so.after right_now among) (sym (side_is t e o ends on))
        (λ x x_among. ap (λ c. if linked (l ∷ world.links) t x then Some
        (if c then Some x else None) else None) (sym ((are_ends e o ends).joined x t on)))
        (same_kept s.homes t (hall_left (room_deeds world e o) (world.hall e)).clients both.clients
        (kept_at e o ends t on)
        ∙ ap (λ (hall : Hall). retain_keys hall.clients (is_home_of s.homes t))
        (sym (hall_now t e o ends on)))
        (room_at e o ends t on
        ∙ ap (λ (hall : Hall). of_home t hall.room) (sym (hall_now t e o ends on)))

    -- ---- servers of other parts

    others : (streams : Streams) (t : Name) (view : View) → IsAmong s.names t
        → ((e o : Name) → HasEnds l e o → AreJoined world.links t e → ⊥)
        → Fits (record s { streams = streams }) t (side_state_of s world routes t) view
        → Fits s t (side_state_of s now routes_now t) view
    others streams t view among none fits =
        refits streams fits (joined_test (l ∷ world.links) t t refl)
        (known.at_rest s now routes_now t so.fixed of_world so.after right_now among)
        (sym (aside_is t none))
        (λ x x_among i. if sym (away_linked t none x) i
        then Some (if sym (away_joined t none x) i then Some x else None) else None)
        (ap (λ (hall : Hall). retain_keys hall.clients (is_home_of s.homes t)) (sym hall_still))
        (ap (λ (hall : Hall). of_home t hall.room) (sym hall_still))
      where
        hall_still : now.hall t ≡ world.hall t
        hall_still = ap (λ b. if b then both else world.hall t)
            (same_unless (part (l ∷ world.links) t) (part (l ∷ world.links) l.near) (λ together.
            elim ((made l world.links forest so.apart).meets t l.near together) [
              | within here ↦ none l.near l.far (inl (refl, refl)) here
              | over here there ↦ none l.near l.far (inl (refl, refl)) here
              | back there here ↦ none l.far l.near (inr (refl, refl)) there
            ]))

    pub comes_to_linked : ComesToLinked s l world routes
    comes_to_linked = record {
      right = right_now;
      comes = comes;
      others = others;
      seen = λ e o ends client t on home.
          side_seen known.shows known.told s l world routes so.holds e o (are_ends e o ends).apart
          (so.read e o ends) client t on home
          ∙ side_receives s l world so.holds so.homes client t home e o ends
          (λ there. apart_from t e o ends on there);
      aside_seen = λ client t home none. aside_receives s l world so.holds so.homes client t home
          (none l.near l.far (inl (refl, refl))) (none l.far l.near (inr (refl, refl)));
    }

pub link_comes_to : IsKnownOfLinks → (s : ItemSetting) (l : Link) (world : World)
    (routes : Name → Known) → IsLinkedWorld s l world routes → ComesToLinked s l world routes
link_comes_to known s l world routes so = comes_to_linked s l world routes so known
