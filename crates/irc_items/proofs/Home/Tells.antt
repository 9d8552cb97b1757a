-- What a client's own server puts on its links by what the client does tells its neighbours of the
-- effects in turn; nothing of it goes elsewhere.
use Rattle.std.proofs.Common.{◌≡◌, ℕ, ◌<◌, ◌≤◌, true, List, [], ◌∷◌, ◌++◌, length, map, refl, sym}
use Rattle.std.proofs.Common.{◌∙◌, ap, subst, arith}
use Rattle.std.specs.Cmp.Lexicographic.{bytes_decides}
use Rattle.std.specs.FinMap.{empty, get-empty, retain_keys}
use Rattle.std.specs.Ordering.{nat_cmp}
use Rattle.irc_room.specs.effect.Effect.{Effect}
use Rattle.irc_room.specs.effect.Effect.TheVariants.{AddUser}
use Rattle.irc_room.specs.After.{after}
use Rattle.irc_room.specs.Effects.{IsPossible}
use Rattle.irc_room.specs.InTurn.{EachInTurn}
use Rattle.irc_room.specs.Invitations.{of_home}
use Rattle.irc_merge.specs.Deeds.{Deed, does}
use Rattle.irc_relay.specs.Distances.{IsAmong}
use Rattle.irc_relay.specs.Following.{Tells, nothing, by_line, passing_by}
use Rattle.irc_relay.specs.Links.{Name, Link, part, joined, same, distance, toward, AreJoined}
use Rattle.irc_relay.specs.Links.{AreLinked, IsForest, IsNextHop}
use Rattle.irc_relay.specs.Relay.{from_one, streams_from, Streams, TakesFrom}
use Rattle.irc_relay.specs.Lemmas.TellingNames.{same_when}
use Rattle.irc_relay.specs.Lemmas.StreamsFlow.{source_is_one}
use Rattle.irc_relay.specs.Lemmas.NextHops.{linked_back, linked_joined, linked_other, next_hop}
use Rattle.irc_relay.specs.Lemmas.NextHops.{toward_linked}
use Rattle.irc_relay.specs.Lemmas.LinkTakenOut.{tests_tell}
use Rattle.irc_routes.specs.Known.{Known, place_of}
use Rattle.irc_stage.specs.declared.clients.Client.{Client}
use Rattle.irc_stage.specs.ClientTold.{client_told}
use Rattle.irc_stage.specs.EffectTold.{room_after}
use Rattle.irc_stage.specs.Handle.{ClientEvent, says}
use Rattle.irc_stage.specs.RoomMachine.{RoomMachine}
use Rattle.irc_stage.specs.View.{View}
use Rattle.irc_readback.specs.EachReadBack.{EachIsReadBack}
use Rattle.irc_world.specs.Bounds.{effects_at}
use Rattle.irc_world.specs.World.{World, machine_at, place_at}
use Rattle.irc_world.specs.WorldHolds.{IsWorld}
use Rattle.irc_follow.specs.AtRest.{side_state_of}
use Rattle.irc_follow.specs.Fits.{Fits}
use Rattle.irc_follow.specs.Laws.{DoneStaysSound, GoesOn, told, passed}
use Rattle.irc_follow.specs.SideState.{ItemSetting, done, is_home_of, number, IsItemSetting}
use Rattle.irc_follow.specs.SideState as of_side
use Rattle.irc_follow.specs.Relinked.{BehindSourceIsFar}
use Rattle.irc_follow.specs.Says.{neighbour_served, lines_on, machine, play, ComesFar}
use Rattle.irc_follow.specs.Says.{IsDoableEffect, IsFar}
use Rattle.irc_follow.specs.SideFlows.{IsToldOf, SourceTells}
use Rattle.irc_follow.specs.Lemmas.SidesFollowed.{IsKnownOfLine}
use Rattle.irc_items.specs.GoodLines.{no_answers}
use Rattle.irc_items.proofs.Client.Begins.{IsToldByHome}
use Rattle.irc_items.proofs.Client.Due.{IsDueAtHome, client_in}
use Rattle.irc_items.proofs.Good.GoodLines.{good_terms, IsWithinSide}
use Rattle.irc_items.proofs.Good.MetEnds.{linked_as_itself}
use Rattle.irc_items.proofs.Home.Along.{few_along, in_room, lines_along, told_along}
use Rattle.irc_items.proofs.Home.Doable.{effects_told, same_effects, AreSpokenLaws, IsClientWithin}
use Rattle.irc_items.proofs.Home.Doable.{IsOwnTold, IsSaidWell}
use Rattle.irc_items.proofs.Home.Effects.{room_now, KnowsWays}
use Rattle.irc_items.proofs.Home.Events.{IsHomeOf}
use Rattle.irc_items.proofs.Home.Fits.{due_mine, home_so, ways_known}
use Rattle.irc_items.proofs.Home.Lines.{goes_there, lines_there, no_line_there}
use Rattle.irc_items.proofs.Common.SourceFacts.{farther}

pub record AreTellingLaws : Type 0 where
  pub spoken : AreSpokenLaws
  pub read_back : EachIsReadBack
  pub line : IsKnownOfLine
  pub done : DoneStaysSound
  pub source : SourceTells
  pub far : BehindSourceIsFar

-- who is linked to the source takes lines from it
next_takes : (links : List Link) (h u : Name) → IsForest links → AreLinked links h u
    → TakesFrom (streams_from links (from_one links h)) u h
next_takes links h u forest there = record {
  parent = ap (toward links u) source ∙ toward_linked links u h forest back;
  below = subst (λ n. 0 < n) (sym (ap (distance links u) source ∙ hop.nearer)) (omega arith);
}
  where
    back : AreLinked links u h
    back = linked_back links h u there

    source : from_one links h u ≡ h
    source = source_is_one links h u (linked_joined links u h back)

    hop : IsNextHop links u h (toward links u h)
    hop = next_hop links u h forest (linked_joined links u h back)
        (linked_other links u h forest back)

module _ (laws : AreTellingLaws) (s : ItemSetting) (fixed : IsItemSetting s) (links : List Link)
    (h : Name)
    (view : View) where
  -- the server, but for its clients, at a moment of its side
  abbrev twin : of_side.SideState → View
  twin w = record view {
    clients = retain_keys w.hall.clients (is_home_of s.homes h);
    room = of_home h w.hall.room;
  }

  -- the side whose source the server is, after some of the effects
  record IsTelling (w : of_side.SideState) : Type 0 where
    pub writer : Fits s h w (twin w)
    pub far : IsFar s w h
    pub everybody : (x p : Name) → TakesFrom s.streams x p → w.tree.here x ≡ true
    pub side : IsWithinSide s links w
    pub ways : KnowsWays h (is_home_of s.homes h) view w.tree.knows

  comes_far : (w : of_side.SideState) → IsTelling w → (effect : Effect)
      → IsOwnTold h w.hall.room effect → ComesFar s w effect
  comes_far w telling (AddUser user) its =
      let at_home : h ≡ user.home = sym ((bytes_decides user.home h).0 its.step.own) in
      record {
        known = ap w.tree.knows (sym at_home)
            ∙ telling.writer.sound.tree.here_known h telling.writer.here;
        far = subst (IsFar s w) at_home telling.far;
      }
  comes_far w telling effect its = tt

  doable_now : (w : of_side.SideState) → IsTelling w → (effect : Effect)
      → IsOwnTold h w.hall.room effect → IsDoableEffect s w effect
  doable_now w telling effect its = record {
    possible = its.step.possible;
    busy = its.busy;
    sendable = its.sendable;
    doer_far =
        λ nick home doer is. subst (IsFar s w) (sym (its.doer nick home doer is)) telling.far;
    comes = comes_far w telling effect its;
    everybody = λ homes is x p takes. telling.everybody x p takes;
  }

  still_tells : (w : of_side.SideState) (effect : Effect) → IsTelling w → IsDoableEffect s w effect
      → IsTelling (done s w (does effect))
  unfolding done
  still_tells w effect telling doable = record {
    writer = record {
      here = telling.writer.here;
      sound = laws.done s w (does effect) fixed telling.writer.sound doable;
      peers = telling.writer.peers;
      routes = telling.writer.routes;
      ends = telling.writer.ends;
      no_others = telling.writer.no_others;
      clients = refl;
      room = refl;
    };
    far = telling.far;
    everybody = telling.everybody;
    side = record { alike = telling.side.alike; here = telling.side.here };
    ways = telling.ways;
  }

  room_so : (w : of_side.SideState) (effect : Effect) → IsTelling w → IsPossible w.hall.room effect
      → room_after (in_room view (of_home h w.hall.room)) effect
      ≡ of_home h (after w.hall.room effect)
  room_so w effect telling possible =
      room_now h (is_home_of s.homes h) view w.tree.knows telling.ways nobody (record {
        well = telling.writer.sound.well;
        at_known = telling.writer.sound.at_known;
        own = λ q nick mine there. absurd (cc (sym (get-empty {X = Client} nat_cmp q) ∙ there));
      }) effect possible
    where
      nobody : RoomMachine
      nobody = record { place = place_of view.routes; clients = empty; room = w.hall.room }

  -- ---- a neighbour that takes its lines, in a world that has the same links

  module _ (later : World) (same_links : later.links ≡ links) (routes : Name → Known) (client : ℕ)
      (u : Name) (next : TakesFrom s.streams u h) where
    abbrev AreToldTo : of_side.SideState → View → List Deed → List (List ℕ) → Type 0
    AreToldTo w other deeds lines = Tells (machine s client) (play s client)
        (good_terms s no_answers later routes) h u w other deeds lines

    one_more : (w : of_side.SideState) (other : View) (effect : Effect) (deeds : List Deed)
        (first more : List (List ℕ)) → IsWithinSide s links w → Fits s u w other
        → GoesOn s h u w other (does effect) first → ((now : View) → Fits s u
        (done s w (does effect)) now → AreToldTo (done s w (does effect)) now deeds more)
        → AreToldTo w other (does effect ∷ deeds) (first ++ more)
    one_more w other effect deeds first more side reader (told line is said) rest =
        subst (λ lines. AreToldTo w other (does effect ∷ deeds) (lines ++ more)) (sym is)
        (by_line (record {
          says = said;
          may = tt;
          side = subst (λ all. IsWithinSide s all w) (sym same_links) side;
        })
        (rest (neighbour_served s h other line).state
        (laws.line.fits s h u w other (does effect) line fixed next reader said)))
    one_more w other effect deeds first more side reader (passed is passes) rest =
        subst (λ lines. AreToldTo w other (does effect ∷ deeds) (lines ++ more)) (sym is)
        (passing_by passes
        (rest other ((laws.line.passed s u w (does effect) passes).fits other reader)))

    tells_along : (effects : List Effect) (w : of_side.SideState) (other : View) → IsTelling w
        → Fits s u w other → EachInTurn (IsOwnTold h) w.hall.room effects → AreToldTo w other
        (map does effects) (lines_along (number s u) view (of_home h w.hall.room) effects)
    unfolding done
    tells_along [] w other telling reader each = nothing
    tells_along (effect ∷ effects) w other telling reader each =
        let doable = doable_now w telling effect each.now in
        subst (λ room. AreToldTo w other (does effect ∷ map does effects)
        (lines_there telling.writer u effect ++ lines_along (number s u) view room effects)) (sym
        (room_so w effect telling each.now.step.possible))
        (one_more w other effect (map does effects) _ (lines_along (number s u) view
        (of_home h (after w.hall.room effect)) effects) telling.side reader
        (goes_there telling.writer u laws.read_back fixed other next reader effect doable)
        (λ now fits. tells_along effects (done s w (does effect)) now
        (still_tells w effect telling doable) fits each.later))

  -- ---- a server that it is not linked to

  none_along : (v : Name) (effects : List Effect) (w : of_side.SideState)
      → (AreLinked w.tree.forest h v → ⊥) → IsTelling w
      → EachInTurn (IsOwnTold h) w.hall.room effects
      → lines_along (number s v) view (of_home h w.hall.room) effects ≡ []
  unfolding done
  none_along v [] w apart telling each = refl
  none_along v (effect ∷ effects) w apart telling each =
      let doable = doable_now w telling effect each.now in
      (λ i. no_line_there telling.writer v apart effect i
      ++ lines_along (number s v) view (room_so w effect telling each.now.step.possible i) effects)
      ∙ none_along v effects (done s w (does effect)) apart
      (still_tells w effect telling doable) each.later

-- ---- the server at rest, by a client's event

module _ (laws : AreTellingLaws) (s : ItemSetting) (world : World) (routes : Name → Known)
    (h : Name)
    (view : View) (client_event : ClientEvent) (fixed : IsItemSetting s)
    (forest : IsForest world.links) (streams : s.streams ≡ streams_from world.links
    (from_one world.links h)) (is_world : IsWorld s.settings world)
    (fits : Fits s h (side_state_of s world routes h) view)
    (place : place_of (routes h) ≡ place_at s.settings world.links h)
    (due : IsDueAtHome s world h client_event) where
  abbrev here : of_side.SideState
  here = side_state_of s world routes h

  abbrev effects : List Effect
  effects = effects_at (machine_at s.settings world h) client_event

  taking : (x p : Name) → TakesFrom s.streams x p
      → TakesFrom (streams_from world.links (from_one world.links h)) x p
  taking x p = subst (λ (st : Streams). TakesFrom st x p) streams

  joined_here : (x p : Name) → TakesFrom s.streams x p → joined world.links x h ≡ true
  joined_here x p takes = same_when (part world.links x) (part world.links h)
      (farther world.links forest h x (taking x p takes).below).joined_to

  behind : IsToldOf world.links (from_one world.links h) here.tree h
  behind = laws.source here.tree h forest (λ t. (tests_tell world.links t h t).1)

  begins : IsTelling laws s fixed world.links h view here
  begins = record {
    writer = record {
      here = fits.here;
      sound = fits.sound;
      peers = fits.peers;
      routes = fits.routes;
      ends = fits.ends;
      no_others = fits.no_others;
      clients = refl;
      room = refl;
    };
    far = λ t p there takes. laws.far s here world.links
        (from_one world.links h) h forest behind.along behind.behind t p there (taking t p takes);
    everybody = joined_here;
    side = record {
      alike = λ t p there takes. linked_as_itself world.links t;
      here = λ t p u there takes linked apart.
          same_when (part world.links u) (part world.links h) (sym
          (linked_joined world.links t u linked) ∙ (tests_tell world.links t h t).1.0 there);
    };
    ways = ways_known s world routes h view fits;
  }

  h_among : IsAmong s.names h
  h_among = fits.sound.tree.known_among h (fits.sound.tree.here_known h fits.here)

  home : IsHomeOf h (is_home_of s.homes h) (λ x. joined world.links x h) view
      (machine_at s.settings world h)
  home = home_so s world routes h view fits place

  mine : is_home_of s.homes h (client_in client_event) ≡ true
  mine = due_mine s world h client_event due

  within : IsClientWithin (machine_at s.settings world h) (client_in client_event)
  within = record {
    room = (is_world.within h).room;
    given = (is_world.within h).given (client_in client_event);
  }

  said_well : IsSaidWell client_event
  said_well = by client_event due
    where
      by : (client_event : ClientEvent) → IsDueAtHome s world h client_event
          → IsSaidWell client_event
      by (says conn read) due = due.2
      by client_event due = tt

  each : EachInTurn (IsOwnTold h) (world.hall h).room effects
  each = effects_told laws.spoken h (is_home_of s.homes h) (λ x. joined world.links x h) view
      (machine_at s.settings world h) home
      (fixed.servers.named h h_among) client_event within mine said_well

  lines_so : (k : ℕ) → lines_on k (client_told view client_event).out ≡ lines_along k view
      (of_home h (world.hall h).room) effects
  lines_so k =
      told_along k view client_event
      ∙ (λ i. lines_along k view (fits.room i)
      (same_effects laws.spoken h (is_home_of s.homes h) (λ x. joined world.links x h) view
      (machine_at s.settings world h) home client_event mine i))

  tells_next : (later : World) → later.links ≡ world.links → (client : ℕ) (u : Name) (other : View)
      → AreLinked world.links h u → Fits s u here other → Tells (machine s client) (play s client)
      (good_terms s no_answers later routes) h u here other (map does effects)
      (lines_on (number s u) (client_told view client_event).out)
  tells_next later same_links client u other there reader =
      subst (Tells (machine s client) (play s client) (good_terms s no_answers later routes) h u
      here other (map does effects)) (sym (lines_so (number s u)))
      (tells_along laws s fixed world.links h view later same_links routes client u
      (subst (λ (st : Streams). TakesFrom st u h) (sym streams)
      (next_takes world.links h u forest there)) effects here other begins reader each)

  same_part : (u : Name) → AreJoined world.links u h
      → side_state_of s world routes h ≡ side_state_of s world routes u
  same_part u together = λ i. record {
    tree = record {
      forest = world.links;
      here = λ x. same (part world.links x) (sym together i);
      knows = λ x. same (part world.links x) (sym together i);
      routes = routes;
    };
    hall = sym (is_world.sound.one_hall u h together) i;
  }

  -- all of it, as the network begins to follow
  pub tells_from_home : (later : World) → later.links ≡ world.links
      → IsToldByHome s world later routes h view client_event
  tells_from_home later same_links = record {
    told = told;
    few = λ u other there reader. subst (λ lines. length lines ≤ length effects)
        (sym (lines_so (number s u)))
        (few_along (number s u) view (of_home h (world.hall h).room) effects);
    unlinked = λ v apart. lines_so (number s v)
        ∙ none_along laws s fixed world.links h view v effects here apart begins each;
  }
    where
      told : (u : Name) (other : View) (client : ℕ) → AreLinked world.links h u
          → Fits s u (side_state_of s world routes u) other
          → Tells (machine s client) (play s client) (good_terms s no_answers later routes) h u
          (side_state_of s world routes u) other (map does effects)
          (lines_on (number s u) (client_told view client_event).out)
      told u other client there reader =
          let one =
          same_part u (linked_joined world.links u h (linked_back world.links h u there)) in
          subst (λ w. Tells (machine s client) (play s client)
          (good_terms s no_answers later routes) h u w other
          (map does effects) (lines_on (number s u) (client_told view client_event).out)) one
          (tells_next later same_links client u other there
          (subst (λ w. Fits s u w other) (sym one) reader))
