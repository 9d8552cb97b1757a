use Rattle.std.proofs.Common.{take}
use Rattle.irc_script.specs.Loops.Steps.{RunWhole}
use Rattle.irc_script.specs.ScriptViews.{requests}
use Rattle.irc_script.specs.Sinks.{sink}
use Rattle.irc_script.proofs.sim.perform_all.Given as goal

-- the commands so far were run
abbrev pub invariant-loop-command : goal.invariant-loop-command
invariant-loop-command g l =
    RunWhole l.fn.run.net.network (requests (take l.command-index l.commands)) l.run.net.network
    (sink (g.W.Write.contents l.fn.output) l.fn.waiting.items)
    (sink (g.W.Write.contents l.output) l.waiting.items)
