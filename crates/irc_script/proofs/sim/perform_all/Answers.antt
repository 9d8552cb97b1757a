use Rattle.std.proofs.Common.{◌+◌, drop, sym, subst}
use Rattle.irc_script.specs.Loops.Steps.{RunWhole, RunInto}
use Rattle.irc_script.specs.ScriptViews.{request, requests}
use Rattle.irc_script.specs.Sinks.{sink}
use Rattle.irc_script.proofs.Playing.{run_nothing, run_more, run_into, requests_more}
use Rattle.irc_script.proofs.Playing.{requests_around, running_failed}
use Rattle.irc_script.proofs.sim.perform_all.Goals as goal

pub loop-command-init : goal.loop-command-init
loop-command-init g c = run_nothing _ _

pub loop-command-preserved : goal.loop-command-preserved
loop-command-preserved g c =
    let old = sink (g.W.Write.contents c.args.output.now) c.args.waiting.now.items in
    let new = sink (g.W.Write.contents c.perform.new.output) c.perform.new.waiting.items in
    subst
    (λ asked. RunWhole c.args.run.now.net.network asked c.perform.new.self.net.network old new)
    (sym (requests_more c.args.commands.now c.loop-command.command-index c.command-item.result
    c.loop-command-test.true c.command-item.is))
    (run_more (request c.command-item.result) c.loop-command.invariant c.in_ok-perform.ensures)

pub returns-in_err-perform : goal.returns-in_err-perform
returns-in_err-perform g c =
    let old = sink (g.W.Write.contents c.args.output.now) c.args.waiting.now.items in
    let new = sink (g.W.Write.contents c.perform.new.output) c.perform.new.waiting.items in
    running_failed _ c.in_err-perform.field-0.0 _ _ _ _ _ c.from_residual.ensures.1
    (subst (λ asked. RunInto c.in_err-perform.field-0.0 c.args.run.now.net.network asked old new)
    (sym (requests_around c.args.commands.now c.loop-command.command-index c.command-item.result
    c.loop-command-test.true c.command-item.is))
    (run_into (request c.command-item.result)
    (requests (drop (c.loop-command.command-index + 1) c.args.commands.now))
    c.loop-command.invariant c.in_err-perform.ensures))
