-- What is read of a network that was made of some configurations and was given some items since,
-- one after another, with bytes that came in between.
use Rattle.std.specs.Prelude.{◌≡◌, ⊤, ℕ, ◌≤◌, true, None, Some, Option, Result, Ok, Err, List, []}
use Rattle.std.specs.Prelude.{◌∷◌, ◌++◌}
use Rattle.std.specs.Option.{option_map}
use Rattle.irc_net.specs.ByteNetwork.{is_byte_rest, net_in_lines}
use Rattle.irc_net.specs.ItemLaws.{ClosesNoLink, OpensBothEnds}
use Rattle.irc_net.specs.RoomsAtRest.{IsOneRoom}
use Rattle.irc_net.specs.Sound.{most_of_last, IsSound}
use Rattle.irc_net.specs.declared.answer.Answer.{Answer}
use Rattle.irc_net.specs.declared.fault.NetFault.{NetFault}
use Rattle.irc_net.specs.declared.fault.NetFault.TheVariants.{Memory}
use Rattle.irc_net.specs.declared.making.NetConfigFault.{NetConfigFault}
use Rattle.irc_net.specs.Calls.{NetView}
use Rattle.irc_net.specs.Faults.{fault_by, item_fault}
use Rattle.irc_net.specs.Making.{AreSettingsOf}
use Rattle.irc_net.specs.Running.{HasRun}
use Rattle.irc_net.specs.Network.{received_by}
use Rattle.irc_net.specs.Refusing.{fault_at_rest}
use Rattle.irc_net.specs.Links.{Name}
use Rattle.irc_net.specs.Relay.{IsFront}
use Rattle.irc_net.specs.config.Config.{Config}
use Rattle.irc_net.specs.Owed.{owed_by_network, world_of}
use Rattle.irc_net.specs.Refused.{Refusal, refused}
use Rattle.irc_net.specs.Stepping.{Item, link}
use Rattle.irc_net.specs.WithinLimits.{IsItemWithin}
use Rattle.irc_net.specs.World.{Setting, new_world}
use Rattle.irc_routes.specs.declared.programs.Programs.{Programs}

-- what is so of a network, whatever configurations and items it has come from, and whoever has
-- what programs expect
abbrev pub OfEachRun : NetView → ((Name → Programs) → List Config → List Item → Type 0) → Type 0
OfEachRun net Is = (programs : Name → Programs) (configs : List Config) (items : List Item) → HasRun programs configs items net
    → Is programs configs items

-- ---- what is done

abbrev pub Begins : (Name → Programs) → List Config → Result NetView NetConfigFault → Type 0
Begins programs configs (Ok net) = HasRun programs configs [] net
Begins programs configs (Err fault) = ⊤

abbrev pub GoesOn : NetView → NetView → Type 0
GoesOn old new = OfEachRun old (λ programs configs items. HasRun programs configs items new)

-- an item that is taken stands behind those before it
abbrev pub PlaysOn : NetView → Item → Result Answer NetFault → NetView → Type 0
PlaysOn old item (Ok answer) new =
    IsItemWithin item → OfEachRun old (λ programs configs items. HasRun programs configs (items ++ item ∷ []) new)
PlaysOn old item (Err fault) new = ⊤

-- an item is refused for this cause, or taken if there is none and memory is there
abbrev pub Answered : Option Refusal → Result Answer NetFault → Type 0
Answered None (Ok answer) = ⊤
Answered None (Err fault) = fault ≡ Memory
Answered (Some refusal) (Ok answer) = ⊥
Answered (Some refusal) (Err fault) = fault ≡ fault_by refusal

pub record IsAnswered (item : Item) (result : Result Answer NetFault) (programs : Name → Programs) (configs : List Config)
    (items : List Item) : Type 0 where
  pub settings : List Setting
  pub are_settings : AreSettingsOf programs configs settings
  pub answered : Answered (refused settings (world_of settings items) item) result

abbrev pub AnswersAsOwed : NetView → Item → Result Answer NetFault → Type 0
AnswersAsOwed net item result =
    is_byte_rest net.network ≡ true → OfEachRun net (IsAnswered item result)

-- it is refused so by a network at rest
pub record IsRefusedSo (net : NetView) (item : Item) (programs : Name → Programs) (configs : List Config)
    (items : List Item) : Type 0 where
  pub settings : List Setting
  pub are_settings : AreSettingsOf programs configs settings
  pub refused_so : item_fault net.network item ≡ option_map fault_by
      (refused settings (world_of settings items) item)

-- ---- what is read

pub record AreOwed (net : NetView) (client : ℕ) (lines : List (List ℕ)) (programs : Name → Programs) (configs : List Config)
    (items : List Item) : Type 0 where
  pub settings : List Setting
  pub are_settings : AreSettingsOf programs configs settings
  pub front : IsFront lines (owed_by_network settings items client)
  pub all : is_byte_rest net.network ≡ true → lines ≡ owed_by_network settings items client

abbrev pub ReadsOwed : NetView → ℕ → List (List ℕ) → Type 0
ReadsOwed net client lines = OfEachRun net (AreOwed net client lines)

pub record IsFew (count : ℕ) (programs : Name → Programs) (configs : List Config) (items : List Item) : Type 0 where
  pub settings : List Setting
  pub are_settings : AreSettingsOf programs configs settings
  pub few : count ≤ most_of_last settings new_world items

abbrev pub TookFew : NetView → ℕ → Type 0
TookFew net count = OfEachRun net (IsFew count)

pub record IsWholeRoom (net : NetView) (programs : Name → Programs) (configs : List Config) (items : List Item) : Type 0 where
  pub settings : List Setting
  pub are_settings : AreSettingsOf programs configs settings
  pub received : is_byte_rest net.network ≡ true → (client : ℕ)
      → received_by net.network.network client ≡ owed_by_network settings items client
  pub servers : is_byte_rest net.network ≡ true → IsOneRoom net.network.network
  pub coming : IsSound (net_in_lines net.network)
  pub closes_none : ClosesNoLink (net_in_lines net.network)
  pub opens : (near far : Name) → fault_at_rest (net_in_lines net.network) (link near far) ≡ None
      → OpensBothEnds (net_in_lines net.network) near far

abbrev pub IsWhole : NetView → Type 0
IsWhole net = OfEachRun net (IsWholeRoom net)

-- ---- of any run

pub record RunIsOwed (net : NetView) (programs : Name → Programs) (configs : List Config) (items : List Item) : Type 0 where
  pub owed : (client : ℕ)
      → AreOwed net client (received_by net.network.network client) programs configs items
  pub few : IsFew net.network.network.taken programs configs items
  pub refused_so : is_byte_rest net.network ≡ true → (item : Item)
      → IsRefusedSo net item programs configs items
  pub whole : IsWholeRoom net programs configs items

abbrev pub RunsAreOwed : Type 0
RunsAreOwed = (net : NetView) → OfEachRun net (RunIsOwed net)
