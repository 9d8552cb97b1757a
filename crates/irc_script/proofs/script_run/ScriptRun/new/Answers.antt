use Rattle.irc_script.proofs.Beginning.{made_first}
use Rattle.irc_script.proofs.script_run.ScriptRun.new.Goals as goal

pub returns-in-Ok : goal.returns-in-Ok
returns-in-Ok c = made_first c.args.servers.now c.in_ok-configs.configs.items c.in-Ok.net.network
    c.in_ok-configs.ensures c.in-Ok.ensures.2
