-- What always holds of a network of servers, whatever is on its way: all that was given was taken;
-- once all lines that are coming to each server are taken, it is what it has to be in the world
-- that the items make, and each client has received just what it is owed.
use Rattle.std.specs.Prelude.{◌≡◌, ◌⊎◌, ℕ, ◌+◌, ◌≤◌, true, Some, None, is_some, List, [], ◌∷◌, ◌++◌}
use Rattle.std.specs.Prelude.{length}
use Rattle.std.specs.List.{AllByRecursion}
use Rattle.irc_line.specs.Messages.{line_text}
use Rattle.irc_link_words.specs.GreetingLines.{greeting}
use Rattle.irc_relay.specs.Distances.{IsAmong}
use Rattle.irc_relay.specs.Following.{GoesWell}
use Rattle.irc_relay.specs.Links.{Name, linked, AreLinked}
use Rattle.irc_relay.specs.Relay.{streams_from, Covers, GoesAway, final, lines_pending, final_shown}
use Rattle.irc_routes.specs.Known.{Known}
use Rattle.irc_world.specs.Bounds.{most}
use Rattle.irc_world.specs.Owed.{owed_by_network, world_of}
use Rattle.irc_world.specs.Sound.{AreTaken}
use Rattle.irc_world.specs.Stepping.{Item, step}
use Rattle.irc_world.specs.WithinLimits.{IsItemWithin}
use Rattle.irc_world.specs.World.{Setting, World, new_world, home_in}
use Rattle.irc_follow.specs.AtRest.{side_state_of, AreRight}
use Rattle.irc_follow.specs.Fits.{Fits}
use Rattle.irc_follow.specs.SideState.{ItemSetting, is_home_of}
use Rattle.irc_follow.specs.Says.{machine}
use Rattle.irc_follow.specs.Tree.{index_in}
use Rattle.irc_network.specs.Network.{Network}
use Rattle.irc_items.specs.GoodLines.{Answering, IsGoodLine}
use Rattle.irc_items.specs.Relayed.{setting_of_item, is_met_with, relayed, way_at, way_between}
use Rattle.irc_items.specs.SetUp.{settings_of, view_at, IsSetUp}

-- ---- what the items make

abbrev pub world_now : Network → World
world_now net = world_of (settings_of net) net.items

abbrev pub owed_now : Network → ℕ → List (List ℕ)
owed_now net client = owed_by_network (settings_of net) net.items client

-- how many lines servers need at most for the last of these items
abbrev pub most_of_last : List Setting → World → List Item → ℕ
most_of_last settings world [] = 0
most_of_last settings world (item ∷ []) = most settings world item
most_of_last settings world (item ∷ next ∷ items) =
    most_of_last settings (step settings world item).state (next ∷ items)

abbrev pub most_now : Network → ℕ
most_now net = most_of_last (settings_of net) new_world net.items

-- ---- what is on its way

-- Once a server has taken all that is coming to it, it is what it is to be in this world, where
-- servers know these of each other.
abbrev pub WillFit : ItemSetting → World → (Name → Known) → Network → ℕ → Type 0
WillFit s world routes net client = (t : Name) → IsAmong s.names t
    → Fits s t (side_state_of s world routes t)
    (final (machine s client) s.streams (relayed s net client) t)

-- By then a client has received at its home all that it is owed.
abbrev pub WillReceive : ItemSetting → Network → ℕ → List (List ℕ) → Type 0
WillReceive s net client owed =
    (home : Name) → is_home_of s.homes home client ≡ true
    → final_shown (machine s client) s.streams (relayed s net client) home ≡ owed

-- as one client sees it
pub record IsUnderWay (s : ItemSetting) (asks : Answering) (world : World) (routes : Name → Known)
    (net : Network) (client : ℕ) (owed : List (List ℕ)) : Type 0 where
  pub away : GoesAway s.streams (relayed s net client)
  pub fits : WillFit s world routes net client
  pub told : WillReceive s net client owed
  pub well : GoesWell (machine s client) s.streams (IsGoodLine s asks world routes)
      (relayed s net client)

-- ---- what always holds

-- One server has named itself to another, or the line by which it does is on its way.
pub data HasCalled (s : ItemSetting) (net : Network) (x y : Name) : Type 0 where
  is_met : is_met_with s (view_at net y) x ≡ true → HasCalled s net x y
  is_calling : (before behind : List (List ℕ)) → way_between net x y
      ≡ Some (before ++ line_text (greeting (view_at net x).routes) ∷ behind) → HasCalled s net x y

-- of the two ends of a link one has called the other
abbrev pub AreCalled : ItemSetting → Network → Type 0
AreCalled s net = (x y : Name) → AreLinked net.links x y → HasCalled s net x y ⊎ HasCalled s net y x

-- Lines come along the links from these sources. Those that may be answered count twice.
pub record IsSoundFrom (source : Name → Name) (routes : Name → Known) (asks : Answering)
    (net : Network) (s : ItemSetting) : Type 0 where
  pub covers : Covers net.links source
  pub right : AreRight s net.links routes
  pub called : AreCalled s net
  pub under_way : (client : ℕ)
      → IsUnderWay s asks (world_now net) routes net client (owed_now net client)
  pub few : (client : ℕ) → net.taken + lines_pending (machine s client) s.streams
      (relayed s net client) net.names asks.answered asks.one asks.other ≤ most_now net

-- a place at which a server is
pub record IsPlaceOf (net : Network) (place : ℕ) : Type 0 where
  pub server : Name
  pub among : IsAmong net.names server
  pub is : index_in net.names server ≡ place

pub record IsSound (net : Network) : Type 0 where
  pub set_up : IsSetUp net
  pub taken : AreTaken (settings_of net) new_world net.items
  pub within : AllByRecursion IsItemWithin net.items
  pub links : net.links ≡ (world_now net).links
  pub homes : net.homes ≡ (world_now net).homes
  pub inboxes : length net.received ≡ length net.homes
  pub ways : (x y : Name) → is_some (way_between net x y) ≡ linked net.links x y
  pub to_servers : (x : Name) (place : ℕ) → is_some (way_at net x place) ≡ true
      → IsPlaceOf net place
  pub nobody : (client : ℕ) → home_in net.homes client ≡ None → owed_now net client ≡ []
  pub source : Name → Name
  pub routes : Name → Known
  pub asks : Answering
  pub coming : IsSoundFrom source routes asks net
      (setting_of_item net (streams_from net.links source))
