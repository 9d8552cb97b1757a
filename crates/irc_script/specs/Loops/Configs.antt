-- The configurations of a script's servers, as the code has them.
use Rattle.std.specs.Prelude.{◌≡◌, List, ◌++◌, map, option_to_list, Vec}
use Rattle.std.specs.List.{AllByRecursion}
use Rattle.std.specs.declared.alloc.Global.{Global}
use Rattle.irc_net.specs.Making.{config_name}
use Rattle.irc_relay.specs.Links.{Name}
use Rattle.irc_net.specs.config.Config.{Config}
use Rattle.irc_net.specs.peer.Peer.{Peer}
use Rattle.irc_net.specs.View.{known_peer}
use Rattle.irc_routes.specs.About.{about_of}
use Rattle.irc_script.specs.Networks.{peer_of, peers_for, script_texts}

-- a configuration is that of one of these servers
pub record IsConfigured (names : List Name) (server : Name) (config : Config) : Type 0 where
  pub name : config.own.name.items ≡ server
  pub about : about_of config.own ≡ script_texts
  pub peers : map known_peer config.peers.items ≡ peers_for server names

-- a server is among the peers of another one, behind those that were, if the two are not the same
abbrev pub AddsOther : Name → Name → Vec Peer Global → Vec Peer Global → Type 0
AddsOther server other old new =
    map known_peer new.items ≡ map known_peer old.items ++ option_to_list (peer_of server other)

abbrev pub IsOwnConfig : List Name → Config → Type 0
IsOwnConfig names config = IsConfigured names (config_name config) config

-- these are the configurations of some of them, in turn
pub record AreConfigured (names servers : List Name) (configs : List Config) : Type 0 where
  pub named : map config_name configs ≡ servers
  pub each : AllByRecursion (IsOwnConfig names) configs
