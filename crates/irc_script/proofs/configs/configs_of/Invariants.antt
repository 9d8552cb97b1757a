use Rattle.std.proofs.Common.{take}
use Rattle.irc_script.specs.Loops.Configs.{AreConfigured}
use Rattle.irc_script.proofs.configs.configs_of.Given as goal

-- the servers so far are configured
abbrev pub invariant-loop-server : goal.invariant-loop-server
invariant-loop-server l = AreConfigured l.servers (take l.server-index l.servers) l.configs.items
