-- What a network does by each kind of step.
use Rattle.std.specs.Prelude.{◌≡◌, ℕ, true, false, Some, List}
use Rattle.std.specs.List.{slice_get}
use Rattle.irc_outbox.specs.declared.wire.Ready.TheVariants.{Readable}
use Rattle.irc_outbox.specs.Calls.{Call}
use Rattle.irc_relay.specs.Links.{Name}
use Rattle.irc_world.specs.Stepping.{Item}
use Rattle.irc_network.specs.Network.{server_place}
use Rattle.irc_network.specs.ByteNetwork.{ByteNetwork}
use Rattle.irc_daemons.specs.AsNetwork.{HasFollowed, IsAsNetwork}
use Rattle.irc_daemons.specs.Daemons.{AreLinksOpen, Daemons, IsToldOfLinks}
use Rattle.irc_daemons.specs.Items.{AreItems, IsApartStep, has_item}
use Rattle.irc_daemons.specs.Steps.{Steps}

-- the end of a link is read
pub record ReadsLink {W : Type 0} {is_after : W → List Call → Type 0} {place : ℕ}
    {old new : Daemons W} (step : Steps is_after place old new) : Type 0 where
  pub from : ℕ
  pub conn : ℕ
  pub is_end : old.ends place from ≡ Some conn
  pub is_read : step.turn.report ≡ Readable conn

-- each server is at the place of its name
abbrev pub ArePlaced : List Name → ByteNetwork → Type 0
ArePlaced names net = (place : ℕ) (name : Name) → slice_get names place ≡ Some name
    → server_place net.network name ≡ Some place

-- Steps of a kind are followed by the network, where links stay open and items do not overlap, and
-- the server has been told of its links.
abbrev pub AreFollowed : {W : Type 0} (is_after : W → List Call → Type 0)
    → ((place : ℕ) (old new : Daemons W) → Steps is_after place old new → Type 0) → Type 0
AreFollowed {W} is_after IsOfKind =
    (names : List Name) (place : ℕ) (items : List Item) (old new : Daemons W) (net : ByteNetwork)
    (step : Steps is_after place old new) → IsOfKind place old new step → AreLinksOpen new
    → AreItems names new place step.did.events items
    → IsApartStep step → IsToldOfLinks old place → ArePlaced names net → IsAsNetwork names old net
    → HasFollowed names items net new

-- There are three kinds: with items, without any where a link's end is read, and all others.
pub record EachStep {W : Type 0} (is_after : W → List Call → Type 0) : Type 0 where
  pub with_items : AreFollowed is_after (λ place old new step. has_item step.did.events ≡ true)
  pub by_link : AreFollowed is_after (λ place old new step. ReadsLink step
      × (has_item step.did.events ≡ false))
  pub by_nobody : AreFollowed is_after (λ place old new step. (¬ (ReadsLink step))
      × (has_item step.did.events ≡ false))
