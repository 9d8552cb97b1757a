-- The oldest line on a way of a sound network is the next that its reader takes, and it goes well;
-- so each that waits there is a line.
use Rattle.std.proofs.Common.{◌≡◌, ℕ, Option, Some, None, List, [], ◌∷◌, ◌++◌, is_some, ap}
use Rattle.std.proofs.Common.{append_assoc, subst, ◌∙◌, arith, unwrap_or}
use Rattle.std.specs.FinMap.{get}
use Rattle.std.specs.List.{AllByRecursion}
use Rattle.std.specs.Option.{option_and_then}
use Rattle.irc_line.specs.Lines.{IsLine}
use Rattle.irc_relay.specs.Following.{AllAlong}
use Rattle.irc_relay.specs.Links.{Name, IsForest}
use Rattle.irc_relay.specs.Relay.{at_source, coming, from_parent, from_source, under_way}
use Rattle.irc_relay.specs.Relay.{ComesInTurn, TakesFrom}
use Rattle.irc_relay.specs.Lemmas.Deliveries.{comes_in_turn}
use Rattle.irc_relay.specs.Lemmas.StreamsFlow.{covers_flows, IsFlow}
use Rattle.irc_stage.specs.View.{View}
use Rattle.irc_follow.specs.SideState.{ItemSetting}
use Rattle.irc_follow.specs.Says.{machine}
use Rattle.irc_network.specs.Network.{Network, Node, node_at}
use Rattle.irc_world.specs.WorldHolds.{TakenMakeWorld}
use Rattle.irc_items.specs.GoodLines.{IsGoodLine}
use Rattle.irc_items.specs.Laws.{NoLinkIsClosed, WaitingAreLines}
use Rattle.irc_items.specs.Relayed.{owed_to, relayed, way_at, way_between}
use Rattle.irc_items.specs.SetUp.{view_at}
use Rattle.irc_items.specs.Sound.{world_now, IsSound}
use Rattle.irc_items.proofs.Common.AtRest.{flowing, forest_now, holds_now}
use Rattle.irc_items.specs.Lemmas.SetUpFacts.{at_place, there}

module _ (net : Network) (sound : IsSound net) (forest : IsForest net.links) (p t : Name)
    (line : List ℕ) (rest : List (List ℕ))
    (waited : way_between net p t ≡ Some (line ∷ rest)) where
  abbrev s : ItemSetting
  s = flowing net sound

  abbrev view : View
  view = view_at net t

  flow : IsFlow net.links s.streams
  flow = covers_flows net.links sound.source forest sound.coming.covers

  module _ (client : ℕ) where
    -- what is coming to t begins with those lines
    pub takes : TakesFrom s.streams t p
    takes = (sound.coming.under_way client).away p t line (rest ++ owed_to s (view_at net p) t)
        (ap (λ o. unwrap_or o [] ++ owed_to s (view_at net p) t) waited)

    record BeginsWith : Type 0 where
      more : List (List ℕ)
      is : coming (machine s client) s.streams (relayed s net client) t ≡ line ∷ (rest ++ more)

    begins_with : BeginsWith
    begins_with =
        by (comes_in_turn (machine s client) net.links s.streams (relayed s net client) t flow)
      where
        first : under_way (relayed s net client) (s.streams.parent t) t
            ≡ line ∷ (rest ++ owed_to s (view_at net p) t)
        first = ap (λ q. under_way (relayed s net client) q t) takes.parent
            ∙ ap (λ o. unwrap_or o [] ++ owed_to s (view_at net p) t) waited

        begins_in : (more : List (List ℕ))
            → coming (machine s client) s.streams (relayed s net client) t
            ≡ under_way (relayed s net client) (s.streams.parent t) t ++ more → BeginsWith
        begins_in more is = record {
          more = owed_to s (view_at net p) t ++ more;
          is = is ∙ ap (λ lines. lines ++ more) first
              ∙ ap (λ lines. line ∷ lines) (append_assoc rest (owed_to s (view_at net p) t) more);
        }

        by : ComesInTurn (machine s client) s.streams (relayed s net client) t → BeginsWith
        by (at_source none _) = absurd (let below = takes.below in let no : ⊥ = omega arith in no)
        by (from_source _ is) = record { more = owed_to s (view_at net p) t; is = is ∙ first }
        by (from_parent _ _ is) = begins_in _ is

    all_well : AllAlong (machine s client) (IsGoodLine s sound.asks (world_now net) sound.routes) p
        t view (line ∷ (rest ++ begins_with.more))
    all_well =
        subst (λ lines. AllAlong (machine s client)
        (IsGoodLine s sound.asks (world_now net) sound.routes) p t view lines) begins_with.is
        (subst (λ q. AllAlong (machine s client)
        (IsGoodLine s sound.asks (world_now net) sound.routes) q t view
        (coming (machine s client) s.streams (relayed s net client) t)) takes.parent
        ((sound.coming.under_way client).well t))

    pub goes_well : IsGoodLine s sound.asks (world_now net) sound.routes p t view line
    goes_well = all_well.0

    each_line : (now : View) (lines more : List (List ℕ)) → AllAlong (machine s client)
        (IsGoodLine s sound.asks (world_now net) sound.routes) p t now (lines ++ more)
        → AllByRecursion IsLine lines
    each_line now [] more all = tt
    each_line now (first ∷ lines) more all =
        (all.0.is_line, each_line ((machine s client).step t p now first) lines more all.1)

    pub are_lines : AllByRecursion IsLine (line ∷ rest)
    are_lines = each_line view (line ∷ rest) begins_with.more all_well

pub no_link_is_closed : TakenMakeWorld → NoLinkIsClosed
no_link_is_closed world net sound from to line rest waited =
    (goes_well net sound (forest_now net sound (holds_now world net sound)) from to line rest waited
    0).good.closes_none

-- ---- all that waits on a way

module _ (net : Network) (sound : IsSound net) (forest : IsForest net.links) where
  between_are_lines : (p t : Name) (way : Option (List (List ℕ))) → way_between net p t ≡ way
      → AllByRecursion IsLine (unwrap_or way [])
  between_are_lines p t None is = tt
  between_are_lines p t (Some []) is = tt
  between_are_lines p t (Some (line ∷ rest)) is = are_lines net sound forest p t line rest is 0

  from_are_lines : (p : Name) (to : ℕ) (way : Option (List (List ℕ))) → way_at net p to ≡ way
      → AllByRecursion IsLine (unwrap_or way [])
  from_are_lines p to None is = tt
  from_are_lines p to (Some lines) is =
      let reader = sound.to_servers p to (ap is_some is) in
      between_are_lines p reader.server (Some lines) (ap (way_at net p) reader.is ∙ is)

pub waiting_are_lines : TakenMakeWorld → WaitingAreLines
waiting_are_lines world net place to node sound at =
    let writer = at_place net sound.set_up place node at in
    let here = there net sound.set_up writer.server writer.among in
    from_are_lines net sound (forest_now net sound (holds_now world net sound)) writer.server to
    (get node.queues to)
    (ap (λ o. option_and_then (λ (x : Node). get x.queues to) (option_and_then (node_at net) o))
    here.place
    ∙ ap (λ n. option_and_then (λ (x : Node). get x.queues to) (node_at net n)) writer.is
    ∙ ap (option_and_then (λ (x : Node). get x.queues to)) at)
