-- By an item each client receives what one room sends it, in whatever order lines are delivered.
use Rattle.std.proofs.Common.{◌≡◌, ℕ, [], ◌∷◌, ◌++◌, refl, sym, ap, ◌∙◌}
use Rattle.irc_world.specs.Owed.{owed_by_network}
use Rattle.irc_world.specs.Stepping.{Item, step}
use Rattle.irc_network.specs.Network.{Network, begun, given}
use Rattle.irc_items.specs.InAnyOrder.{none_yet, one_more, IsReached, ItemIsReceived}
use Rattle.irc_items.specs.Laws.{DeliveryKeepsSettings, DeliveryStaysSound, GivenKeepsSettings}
use Rattle.irc_items.specs.Laws.{GivenStaysSound, RestIsOneRoom}
use Rattle.irc_items.specs.SetUp.{settings_of}
use Rattle.irc_items.specs.Sound.{owed_now, world_now, IsSound}
use Rattle.irc_items.proofs.Common.ItemsMore.{owed_more}
use Rattle.irc_items.proofs.KeptSound.{delivered_one}

pub record AreReceivingLaws : Type 0 where
  pub stays : GivenStaysSound
  pub delivery : DeliveryStaysSound
  pub rest : RestIsOneRoom
  pub given_settings : GivenKeepsSettings
  pub delivered_settings : DeliveryKeepsSettings
  pub items : (item : Item) (net : Network) → (given item net).state.items ≡ net.items ++ item ∷ []

-- what is so of a network once lines of it are delivered
pub record IsLater (first last : Network) : Type 0 where
  pub sound : IsSound last
  pub settings : settings_of last ≡ settings_of first
  pub items : last.items ≡ first.items

module _ (laws : AreReceivingLaws) where
  pub later : (first last : Network) → IsSound first → IsReached first last → IsLater first last
  later first last sound none_yet = record { sound = sound; settings = refl; items = refl }
  later first last sound (one_more {between = mid} {last = progress} from to before is) =
      let so = later first mid sound before in
      record {
        sound = laws.delivery from to (begun mid) progress so.sound is;
        settings = laws.delivered_settings from to (begun mid) progress is ∙ so.settings;
        items = (delivered_one from to (begun mid) progress is).items ∙ so.items;
      }

  owed_alike : (one other : Network) (client : ℕ) → settings_of other ≡ settings_of one
      → other.items ≡ one.items → owed_now other client ≡ owed_now one client
  owed_alike one other client settings items =
      ap (λ ss. owed_by_network ss other.items client) settings
      ∙ ap (λ is. owed_by_network (settings_of one) is client) items

  pub item_is_received : ItemIsReceived
  item_is_received net new item client through =
      (laws.rest new after.sound through.rest).received client
      ∙ owed_alike (given item net).state new client after.settings after.items
      ∙ ap (λ ss. owed_by_network ss (given item net).state.items client)
      (laws.given_settings net item)
      ∙ ap (λ is. owed_by_network (settings_of net) is client) (laws.items item net)
      ∙ owed_more (settings_of net) net.items item client
      ∙ ap (λ before. before ++ (step (settings_of net) (world_now net) item).out client)
      (sym ((laws.rest net through.sound through.given_so.at_rest).received client))
    where
      after : IsLater (given item net).state new
      after = later (given item net).state new
          (laws.stays net item through.sound through.given_so) through.reached
