-- Configurations as the code puts them in order.
use Rattle.std.specs.Prelude.{List, [], map}
use Rattle.irc_forest.specs.Forests.{Forest}
use Rattle.irc_names.specs.Names.{IsServer}
use Rattle.irc_server.specs.declared.config.Config.{Config}
use Rattle.irc_net.specs.Making.{config_name}

-- its name is one of a server
abbrev pub IsServerConfig : Config → Type 0
IsServerConfig config = IsServer (config_name config)

-- servers in this order, and no link
abbrev pub new_forest : List Config → Forest
new_forest configs = record { names = map config_name configs; links = [] }
