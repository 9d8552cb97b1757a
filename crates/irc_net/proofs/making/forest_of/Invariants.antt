use Rattle.std.proofs.Common.{◌≡◌, map, take}
use Rattle.irc_net.specs.Making.{config_name}
use Rattle.irc_net.proofs.making.forest_of.Given as goal

abbrev pub invariant-loop-config : goal.invariant-loop-config
invariant-loop-config l = l.names.items ≡ map config_name (take l.config-index l.configs)
