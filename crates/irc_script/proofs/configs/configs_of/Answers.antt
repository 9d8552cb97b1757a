use Rattle.std.proofs.Common.{[], ◌+◌, take, subst, sym}
use Rattle.irc_script.specs.Loops.Configs.{AreConfigured}
use Rattle.irc_script.proofs.Peering.{none_configured, one_configured}
use Rattle.irc_script.proofs.configs.configs_of.Goals as goal

pub loop-server-init : goal.loop-server-init
loop-server-init c = subst (λ configs. AreConfigured c.args.servers.now [] configs)
    (sym c.new-configs.ensures.items) (none_configured c.args.servers.now)

pub loop-server-preserved : goal.loop-server-preserved
loop-server-preserved c =
    subst (λ configs. AreConfigured c.args.servers.now (take (c.loop-server.server-index
    + 1) c.args.servers.now) configs) (sym c.in_ok-push.ensures.items)
    (one_configured c.args.servers.now c.loop-server.configs.items c.in_ok-config.field-0
    c.loop-server.server-index c.server-item.result c.loop-server-test.true c.server-item.is
    c.loop-server.invariant c.in_ok-config.ensures)
