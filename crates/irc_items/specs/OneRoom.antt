-- A network at rest is one room: each server is what it has to be in the world that the items make,
-- and each client has received just what it is owed.
use Rattle.std.specs.Prelude.{◌≡◌, ℕ}
use Rattle.irc_relay.specs.Distances.{IsAmong}
use Rattle.irc_relay.specs.Links.{Name}
use Rattle.irc_relay.specs.Relay.{streams_from}
use Rattle.irc_follow.specs.AtRest.{side_state_of, AreRight}
use Rattle.irc_follow.specs.Fits.{Fits}
use Rattle.irc_follow.specs.SideState.{ItemSetting}
use Rattle.irc_network.specs.Network.{Network, received_by}
use Rattle.irc_items.specs.Relayed.{setting_of_item}
use Rattle.irc_items.specs.SetUp.{routes_in, view_at}
use Rattle.irc_items.specs.Sound.{owed_now, world_now}

-- no server takes a line
abbrev pub at_rest_of : Network → ItemSetting
at_rest_of net = setting_of_item net (streams_from net.links (λ server. server))

pub record IsOneRoom (net : Network) : Type 0 where
  pub right : AreRight (at_rest_of net) net.links (routes_in net)
  pub servers : (t : Name) → IsAmong net.names t → Fits (at_rest_of net) t
      (side_state_of (at_rest_of net) (world_now net) (routes_in net) t) (view_at net t)
  pub received : (client : ℕ) → received_by net client ≡ owed_now net client
