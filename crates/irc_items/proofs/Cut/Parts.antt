-- The sides of a link that is lost: each is sound, its servers fit it, and lines come to it from
-- its end.
use Rattle.std.proofs.Common.{◌≡◌, ◌≢◌, ◌<◌, true, List, map, refl, sym, ◌∙◌, ap, subst, arith}
use Rattle.irc_line.specs.Messages.{line_text}
use Rattle.irc_relay.specs.Links.{Name, Link, joined, toward, distance, AreJoined, AreLinked}
use Rattle.irc_relay.specs.Links.{IsForest, IsLeft, IsNextHop}
use Rattle.irc_relay.specs.Relay.{from_near_end, streams_from, Streams, TakesFrom}
use Rattle.irc_relay.specs.Lemmas.StreamsFlow.{sources_are}
use Rattle.irc_relay.specs.Lemmas.NextHops.{distance_self, linked_back, linked_joined, linked_other}
use Rattle.irc_relay.specs.Lemmas.NextHops.{next_hop, toward_linked}
use Rattle.irc_relay.specs.Lemmas.LinkTakenOut.{tests_tell}
use Rattle.irc_routes.specs.Known.{Known, names_behind}
use Rattle.irc_burst_lines.specs.DeedLines.{squit_parts}
use Rattle.irc_server.specs.DeedTold.{split_text}
use Rattle.irc_stage.specs.View.{View}
use Rattle.irc_world.specs.World.{World}
use Rattle.irc_follow.specs.AtRest.{side_state_of}
use Rattle.irc_follow.specs.Fits.{Fits}
use Rattle.irc_follow.specs.SideState.{ItemSetting, SideState, number, IsSoundSide}
use Rattle.irc_follow.specs.Relinked.{taking_from, FlowsAlong}
use Rattle.irc_follow.specs.SideFlows.{IsSide, IsToldOf}
use Rattle.irc_follow.specs.Lemmas.SideAtRest.{joined_alike, joined_so}
use Rattle.irc_follow.specs.Lemmas.BehindLinks.{joined_test}
use Rattle.irc_follow.specs.Lemmas.BehindSources.{behind_source_is_far, other_sources}
use Rattle.irc_follow.specs.Lemmas.Neighbours.{IsKnownOfLines}
use Rattle.irc_follow.specs.Lemmas.NewLink.{parent_is_linked}
use Rattle.irc_follow.specs.Lemmas.SideFlows.{one_side_is_left, other_side_is_left}
use Rattle.irc_items.proofs.Common.Right.{refits}
use Rattle.irc_items.proofs.Cut.Home.{forest, linked_before, rest, IsCutAt}
use Rattle.irc_items.proofs.Cut.Sides.{cut_side, deeds_of_cut}
use Rattle.irc_items.proofs.Cut.Told.{said_to, IsLossOfCut, IsToldByEnd, SaysInTurn}

-- lines come to the side of the end e from that end, and the other end o is behind it
pub record IsEnd (world : World) (routes : Name → Known) (left : List Link) (source : Name → Name)
    (e o : Name) : Type 0 where
  pub told : (x : Name) → AreJoined left x o
      → IsToldOf left source (cut_side world routes left e).tree x
  pub source_is : (t : Name) → AreJoined left t e → source t ≡ e

module _ {s : ItemSetting} {world : World} {routes : Name → Known} {left : List Link} {a b : Name}
    (cut : IsCutAt s world routes left a b) where
  side_at : (e : Name) → IsSide left e (cut_side world routes left e).tree
  side_at e = λ t. (tests_tell left t e t).1

  parted_ends : AreJoined left a b → ⊥
  parted_ends = (rest cut).parted

  pub near_is_end : IsEnd world routes left (from_near_end left a b) a b
  near_is_end = record {
    told = λ x on. subst (λ ls. IsToldOf ls (from_near_end ls a b)
        (cut_side world routes left a).tree x) (sym cut.is_left)
        (one_side_is_left (cut_side world routes left a).tree a b x (forest cut) cut.linked_ends
        (subst (λ ls. IsSide ls a (cut_side world routes left a).tree) cut.is_left (side_at a))
        (subst (λ ls. AreJoined ls x b) cut.is_left on));
    source_is = λ t on. ((sources_are left a b t parted_ends).0 on).2;
  }

  pub far_is_end : IsEnd world routes left (from_near_end left a b) b a
  far_is_end = record {
    told = λ x on. subst (λ ls. IsToldOf ls (from_near_end ls a b)
        (cut_side world routes left b).tree x) (sym cut.is_left)
        (other_side_is_left (cut_side world routes left b).tree a b x (forest cut) cut.linked_ends
        (subst (λ ls. IsSide ls b (cut_side world routes left b).tree) cut.is_left (side_at b))
        (subst (λ ls. AreJoined ls x a) cut.is_left on));
    source_is = λ t on. ((sources_are left a b t parted_ends).1 on).1;
  }

module _ {s : ItemSetting} {world : World} {routes : Name → Known} {left : List Link} {e o : Name}
    (cut : IsCutAt s world routes left e o) {source : Name → Name}
    (is_end : IsEnd world routes left source e o) where
  abbrev side : SideState
  side = cut_side world routes left e

  kept : IsLeft left world.links e o
  kept = rest cut

  world_forest : IsForest world.links
  world_forest = forest cut

  flows : FlowsAlong left source side.tree
  flows = (is_end.told o refl).along

  -- ---- the side of each of its servers

  module _ (t : Name) (on : AreJoined left t e) where
    flows_there : FlowsAlong left source (cut_side world routes left t).tree
    flows_there = record {
      forest = flows.forest;
      kept = flows.kept;
      covers = flows.covers;
      inside = λ x p here takes far.
          joined_alike left p t e on
          ∙ flows.inside x p (sym (joined_alike left x t e on) ∙ here) takes far;
    }

    joined_before : (x : Name) → joined left x t ≡ true → joined world.links x t ≡ true
    joined_before x is = joined_test world.links x t (kept.kept x t (joined_so left x t is)).joined

    -- the same side, as long as the link is known
    smaller_sound : (base : ItemSetting) → IsSoundSide base (side_state_of base world routes t)
        → IsSoundSide base (cut_side world routes left t)
    smaller_sound base sound = record {
      tree = record {
        forest = sound.tree.forest;
        ends = sound.tree.ends;
        here_known = λ x here. joined_before x here;
        known_among = sound.tree.known_among;
        joined = λ x y here known. sound.tree.joined x y (joined_before x here) known;
        rows = λ x y here. sound.tree.rows x y (joined_before x here);
        numbered = sound.tree.numbered;
        named = sound.tree.named;
        told_away = sound.tree.told_away;
        low = λ x y r here. sound.tree.low x y r (joined_before x here);
        tokens = λ x u y r here. sound.tree.tokens x u y r (joined_before u here);
      };
      parents = sound.parents;
      well = sound.well;
      within = sound.within;
      at_known = sound.at_known;
      registered = sound.registered;
    }

    pub cut_side_sound : (base : ItemSetting) → IsSoundSide base (side_state_of base world routes t)
        → IsSoundSide (taking_from left source base) (cut_side world routes left t)
    cut_side_sound base sound = other_sources base (cut_side world routes left t) left source
        (smaller_sound base sound) flows_there

    pub cut_side_fits : (base : ItemSetting) (view : View)
        → Fits base t (side_state_of base world routes t) view
        → Fits (taking_from left source base) t (cut_side world routes left t) view
    cut_side_fits base view fits =
        refits base.streams fits (joined_test left t t refl) (cut_side_sound base fits.sound) refl
        (λ x among. refl) refl refl

  -- ---- where its lines come from

  module _ (streams : s.streams ≡ streams_from left source) where
    taking : (t p : Name) → TakesFrom s.streams t p → TakesFrom (streams_from left source) t p
    taking t p = subst (λ (st : Streams). TakesFrom st t p) streams

    -- who takes lines is linked to whom it takes them from
    pub takes_left : (t p : Name) → TakesFrom s.streams t p → AreLinked left t p
    takes_left t p takes =
        parent_is_linked left source t p kept.forest flows.covers (taking t p takes)

    pub takes_linked : (t p : Name) → TakesFrom s.streams t p → AreLinked world.links t p
    takes_linked t p takes = linked_before cut t p (takes_left t p takes)

    pub taker_is_another : (t p : Name) → AreJoined left t e → TakesFrom s.streams t p → t ≢ e
    taker_is_another t p on takes is =
        let below = (taking t p takes).below in
        let none = ap (distance left t) (is_end.source_is t on ∙ sym is) ∙ distance_self left t in
        let never : ⊥ = omega arith in
        never

    parent_is : (t p : Name) → AreJoined left t e → TakesFrom s.streams t p → toward left t e ≡ p
    parent_is t p on takes =
        ap (toward left t) (sym (is_end.source_is t on)) ∙ (taking t p takes).parent

    far_over : (t p x : Name) → AreJoined left t e → TakesFrom s.streams t p → AreJoined left x o
        → toward world.links t x ≡ p
    far_over t p x on takes beyond =
        behind_source_is_far s side left source x world_forest flows
        (is_end.told x beyond).behind t p (joined_test left t e on) (taking t p takes)

    pub ways_of_end : IsToldByEnd s world left e o
    ways_of_end = record {
      far = far_over;
      end_far = λ t p on takes. sym (kept.kept t e on).toward_same ∙ parent_is t p on takes;
      not_linked = λ t p x on takes beyond near.
          kept.parted (sym (subst (λ v. AreJoined left v e)
          (parent_is t p on takes ∙ sym (far_over t p x on takes beyond)
          ∙ toward_linked world.links t x world_forest near)
          (next_hop left t e kept.forest on (taker_is_another t p on takes)).joined)
          ∙ beyond);
    }

    -- who is linked to its end takes lines from that
    pub next_takes : (u : Name) → AreLinked left e u → TakesFrom s.streams u e
    next_takes u near = subst (λ (st : Streams). TakesFrom st u e) (sym streams) (record {
      parent = ap (toward left u) source_here ∙ toward_linked left u e kept.forest back;
      below =
          subst (λ n. 0 < n) (sym (ap (distance left u) source_here ∙ hop.nearer)) (omega arith);
    })
      where
        back : AreLinked left u e
        back = linked_back left e u near

        source_here : source u ≡ e
        source_here = is_end.source_is u (linked_joined left u e back)

        hop : IsNextHop left u e (toward left u e)
        hop = next_hop left u e kept.forest (linked_joined left u e back)
            (linked_other left u e kept.forest back)

    -- and is told of all that are lost
    pub said_next : IsKnownOfLines → (u : Name) (other : View) → AreLinked left e u → Fits s u
        (cut_side world routes left u) other → SaysInTurn s e u (IsLossOfCut world.links left e)
        (cut_side world routes left u) other (deeds_of_cut s routes e o)
        (map (λ x. line_text (squit_parts e x (split_text e o)))
        (names_behind (routes e) (number s o)))
    said_next known u other near reader =
        said_to known cut ways_of_end u (next_takes u near) (cut_side world routes left u) other
        (record { forest = refl; here = λ x. joined_alike left x u e on })
        (λ x there. joined_test world.links x u (there ∙ (kept.kept e u (sym on)).joined)) reader
      where
        on : AreJoined left u e
        on = sym (linked_joined left e u near)
