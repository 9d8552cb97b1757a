-- An item that is given, whatever it is: what is known of the network before it and after it, where
-- its lines bring the servers, and that the network is sound by then.
use Rattle.std.proofs.Common.{◌≡◌, ◌⊎◌, ℕ, ◌+◌, ◌≤◌, true, None, is_some, List, [], ◌∷◌, ◌++◌}
use Rattle.std.proofs.Common.{length, sym, ap, subst, ◌∙◌, arith}
use Rattle.std.specs.FinMap.{get}
use Rattle.std.specs.List.{AllByRecursion}
use Rattle.std.specs.Option.{option_and_then}
use Rattle.irc_relay.specs.Distances.{IsAmong}
use Rattle.irc_relay.specs.Links.{Name, Link, linked, AreLinked}
use Rattle.irc_relay.specs.Relay.{streams_from, lines_pending, Covers}
use Rattle.irc_routes.specs.Known.{Known}
use Rattle.irc_world.specs.Bounds.{most}
use Rattle.irc_world.specs.Bystanders.{OnlyConnectedReceive}
use Rattle.irc_world.specs.Owed.{owed_by_network, world_of}
use Rattle.irc_world.specs.Refused.{refused}
use Rattle.irc_world.specs.Sound.{AreTaken}
use Rattle.irc_world.specs.Stepping.{Item, Stepped, step}
use Rattle.irc_world.specs.WithinLimits.{IsItemWithin}
use Rattle.irc_world.specs.World.{World, home_in, new_world}
use Rattle.irc_world.specs.WorldHolds.{IsWorld, StepKeepsWorld}
use Rattle.irc_follow.specs.AtRest.{AreRight}
use Rattle.irc_follow.specs.SideState.{ItemSetting}
use Rattle.irc_follow.specs.Says.{machine}
use Rattle.irc_follow.specs.Tree.{index_in}
use Rattle.irc_network.specs.Network.{Network, is_at_rest}
use Rattle.irc_network.specs.Refusing.{fault_at_rest}
use Rattle.irc_items.specs.GoodLines.{Answering}
use Rattle.irc_items.specs.Laws.{RefusalsAreTheWorlds}
use Rattle.irc_items.specs.OneRoom.{IsOneRoom}
use Rattle.irc_items.specs.Relayed.{setting_of_item, relayed, way_at, way_between}
use Rattle.irc_items.specs.SetUp.{settings_of, IsSetUp}
use Rattle.irc_items.specs.Sound.{most_now, most_of_last, owed_now, world_now, AreCalled, HasCalled}
use Rattle.irc_items.specs.Sound.{IsPlaceOf, IsSound, IsSoundFrom, IsUnderWay}
use Rattle.irc_items.proofs.Common.ItemsMore.{each_more, most_more, owed_more, taken_more}
use Rattle.irc_items.proofs.Common.ItemsMore.{world_more}
use Rattle.irc_items.specs.Lemmas.SetUpFacts.{servers_named}

-- The network has taken an item: no line of it is delivered yet. Else only its servers, its ways
-- and what clients have received may be different.
pub record HasTaken (net new : Network) (item : Item) (at_homes : List Name)
    (along : List Link) : Type 0 where
  pub names : new.names ≡ net.names
  pub homes : new.homes ≡ at_homes
  pub links : new.links ≡ along
  pub items : new.items ≡ net.items ++ item ∷ []
  pub taken : new.taken ≡ 0
  pub inboxes : length new.received ≡ length new.homes
  pub settings : settings_of new ≡ settings_of net
  pub set_up : IsSetUp new

-- What is known of an item that is given at rest, whatever it is. It does `after` to the world.
pub record IsStep (net new : Network) (item : Item) (homes : List Name)
    (after : Stepped) : Type 0 where
  pub sound : IsSound net
  pub rest : is_at_rest net ≡ true
  pub one : IsOneRoom net
  pub holds : IsWorld (settings_of net) (world_now net)
  pub holds_after : IsWorld (settings_of net) after.state
  pub not_refused : refused (settings_of net) (world_now net) item ≡ None
  pub within : IsItemWithin item
  pub stepped : step (settings_of net) (world_now net) item ≡ after
  pub taken : HasTaken net new item homes after.state.links
  pub homes_after : homes ≡ after.state.homes
  pub homes_before : (client : ℕ) → home_in homes client ≡ None → home_in net.homes client ≡ None

-- what is asked of worlds for it
pub record AreStepLaws : Type 0 where
  pub step_keeps : StepKeepsWorld
  pub refusals : RefusalsAreTheWorlds

module _ (laws : AreStepLaws) (net : Network) (sound : IsSound net) (rest : is_at_rest net ≡ true)
    (one : IsOneRoom net)
    (holds : IsWorld (settings_of net) (world_now net)) (item : Item)
    (taken : fault_at_rest net item ≡ None) (within : IsItemWithin item) where
  not_refused : refused (settings_of net) (world_now net) item ≡ None
  not_refused = sym (laws.refusals net item sound rest) ∙ taken

  pub is_step : (new : Network) (homes : List Name) (after : Stepped)
      → step (settings_of net) (world_now net) item ≡ after
      → HasTaken net new item homes after.state.links → homes ≡ after.state.homes
      → ((client : ℕ) → home_in homes client ≡ None → home_in net.homes client ≡ None)
      → IsStep net new item homes after
  is_step new homes after stepped has_taken homes_after homes_before = record {
    sound = sound;
    rest = rest;
    one = one;
    holds = holds;
    holds_after = subst (λ (st : Stepped). IsWorld (settings_of net) st.state) stepped
        (laws.step_keeps (settings_of net) (world_now net) item
        (servers_named net sound.set_up) holds within not_refused);
    not_refused = not_refused;
    within = within;
    stepped = stepped;
    taken = has_taken;
    homes_after = homes_after;
    homes_before = homes_before;
  }

-- what stays while the item's lines are delivered, which come along these links from these sources
abbrev pub step_setting : Network → List Name → List Link → (Name → Name) → ItemSetting
step_setting net homes links source = record {
  settings = settings_of net;
  names = net.names;
  homes = homes;
  streams = streams_from links source;
}

-- Where the item's lines bring the network: that is what there is to prove of an item.
pub record ComesTo (net new : Network) (item : Item) (homes : List Name) (after : Stepped)
    (source : Name → Name) (routes : Name → Known) (asks : Answering)
    : Type 0 where
  pub covers : Covers after.state.links source
  pub right : AreRight (step_setting net homes after.state.links source) after.state.links routes
  pub called : (x y : Name) → AreLinked after.state.links x y
      → HasCalled (step_setting net homes after.state.links source) new x y
      ⊎ HasCalled (step_setting net homes after.state.links source) new y x
  pub under_way : (client : ℕ) → IsUnderWay (step_setting net homes after.state.links source) asks
      after.state routes new client (owed_now net client ++ after.out client)
  pub few : (client : ℕ)
      → lines_pending (machine (step_setting net homes after.state.links source) client)
      (streams_from after.state.links source)
      (relayed (step_setting net homes after.state.links source) new client) net.names asks.answered
      asks.one asks.other
      ≤ most (settings_of net) (world_now net) item
  pub ways : (x y : Name)
      → is_some (way_at new x (index_in net.names y)) ≡ linked after.state.links x y
  pub to_servers : (x : Name) (place : ℕ) → is_some (way_at new x place) ≡ true
      → IsPlaceOf net place

module _ {net new : Network} {item : Item} {homes : List Name} {after : Stepped}
    {source : Name → Name} {routes : Name → Known} {asks : Answering}
    (only_connected : OnlyConnectedReceive) (given : IsStep net new item homes after)
    (comes : ComesTo net new item homes after source routes asks) where
  abbrev s : ItemSetting
  s = step_setting net homes after.state.links source

  fixed_same : setting_of_item new (streams_from new.links source) ≡ s
  fixed_same i = record {
    settings = given.taken.settings i;
    names = given.taken.names i;
    homes = given.taken.homes i;
    streams = streams_from (given.taken.links i) source;
  }

  world_is : world_now new ≡ after.state
  world_is =
      ap (λ settings. world_of settings new.items) given.taken.settings
      ∙ ap (λ items. world_of (settings_of net) items) given.taken.items
      ∙ world_more (settings_of net) net.items item ∙ ap (λ (st : Stepped). st.state) given.stepped

  owed_is : (client : ℕ) → owed_now new client ≡ owed_now net client ++ after.out client
  owed_is client =
      ap (λ settings. owed_by_network settings new.items client) given.taken.settings
      ∙ ap (λ items. owed_by_network (settings_of net) items client) given.taken.items
      ∙ owed_more (settings_of net) net.items item client
      ∙ ap (λ (st : Stepped). owed_now net client ++ st.out client) given.stepped

  most_is : most_now new ≡ most (settings_of net) (world_now net) item
  most_is =
      ap (λ settings. most_of_last settings new_world new.items) given.taken.settings
      ∙ ap (λ items. most_of_last (settings_of net) new_world items) given.taken.items
      ∙ most_more (settings_of net) net.items item

  few_now : (client : ℕ) → new.taken + lines_pending (machine s client) s.streams
      (relayed s new client) new.names asks.answered asks.one asks.other ≤ most_now new
  few_now client =
      let here = comes.few client in
      let none = given.taken.taken in
      let names = ap (λ names. lines_pending (machine s client) s.streams
      (relayed s new client) names asks.answered asks.one asks.other) given.taken.names in
      let most = most_is in
      omega arith

  called : AreCalled s new
  called x y l = comes.called x y (subst (λ links. AreLinked links x y) given.taken.links l)

  coming_now : IsSoundFrom source routes asks new s
  coming_now = record {
    covers = subst (λ links. Covers links source) (sym given.taken.links) comes.covers;
    right = subst (λ links. AreRight s links routes) (sym given.taken.links) comes.right;
    called = called;
    under_way = λ client. subst (λ w. IsUnderWay s asks w routes new client (owed_now new client))
        (sym world_is)
        (subst (IsUnderWay s asks after.state routes new client) (sym (owed_is client))
        (comes.under_way client));
    few = few_now;
  }

  ways_now : (x y : Name) → is_some (way_between new x y) ≡ linked new.links x y
  ways_now x y =
      ap (λ names. is_some (way_at new x (index_in names y))) given.taken.names
      ∙ comes.ways x y
      ∙ ap (λ links. linked links x y) (sym given.taken.links)

  place_now : (place : ℕ) → IsPlaceOf net place → IsPlaceOf new place
  place_now place p = record {
    server = p.server;
    among = subst (λ names. IsAmong names p.server) (sym given.taken.names) p.among;
    is = ap (λ names. index_in names p.server) given.taken.names ∙ p.is;
  }

  nobody_now : (client : ℕ) → home_in new.homes client ≡ None → owed_now new client ≡ []
  nobody_now client none =
      owed_is client
      ∙ ap (λ more. owed_now net client ++ more)
      (sym (ap (λ (st : Stepped). st.out client) given.stepped) ∙ lines_none)
      ∙ ap (λ before. before ++ []) (given.sound.nobody client no_home)
    where
      no_home : home_in net.homes client ≡ None
      no_home = given.homes_before client
          (sym (ap (λ homes. home_in homes client) given.taken.homes) ∙ none)

      lines_none : (step (settings_of net) (world_now net) item).out client ≡ []
      lines_none = only_connected (settings_of net)
          (world_now net) item client given.holds.sound given.not_refused
          (ap (option_and_then (λ home. get ((world_now net).hall home).clients client))
          (ap (λ homes. home_in homes client) (sym given.sound.homes) ∙ no_home))

  -- Whatever the item, the network is sound once it is given.
  pub item_sound : IsSound new
  item_sound = record {
    set_up = given.taken.set_up;
    taken = subst (λ settings. AreTaken settings new_world new.items) (sym given.taken.settings)
        (subst (AreTaken (settings_of net) new_world) (sym given.taken.items)
        (taken_more (settings_of net) net.items item given.sound.taken given.not_refused));
    within = subst (AllByRecursion IsItemWithin) (sym given.taken.items)
        (each_more IsItemWithin net.items item given.sound.within given.within);
    links = given.taken.links ∙ sym (ap (λ (w : World). w.links) world_is);
    homes = given.taken.homes ∙ given.homes_after ∙ sym (ap (λ (w : World). w.homes) world_is);
    inboxes = given.taken.inboxes;
    ways = ways_now;
    to_servers = λ x place there. place_now place (comes.to_servers x place there);
    nobody = nobody_now;
    source = source;
    routes = routes;
    asks = asks;
    coming = subst (IsSoundFrom source routes asks new) (sym fixed_same) coming_now;
  }
