use Rattle.std.proofs.Common.{◌∙◌, ◌+◌, ap, sym, drop, arith, rules}
use Rattle.std.proofs.lemmas.Grind.{common_steps}
use Rattle.irc_script.specs.Scripts.{servers_behind}
use Rattle.irc_script.specs.ScriptViews.{lines_now}
use Rattle.irc_script.proofs.ScriptSteps.{one_server_more, no_server_more, all_named}
use Rattle.irc_script.proofs.script.servers_of.Goals as goal

pub returns-in_default-clause-servers : goal.returns-in_default-clause-servers
returns-in_default-clause-servers c =
    sym (c.loop-line.invariant.all
    ∙ no_server_more c.deref.result.now c.loop-line.servers.items c.another_server.result
    c.args.lines.now c.loop-line.line-index _ c.loop-line-test.true
    c.deref.ensures.value c.another_server.ensures c.in_default.is)

pub loop-line-preserved : goal.loop-line-preserved
loop-line-preserved c =
    let left = lines_now (drop (c.loop-line.line-index + 1) c.args.lines.now) in
    record {
      all = c.loop-line.invariant.all
          ∙ one_server_more c.deref.result.now c.loop-line.servers.items c.another_server.result
          c.in-Some.name c.args.lines.now c.loop-line.line-index _ c.loop-line-test.true
          c.deref.ensures.value c.another_server.ensures c.in-Some.is
          ∙ ap (λ servers. servers_behind servers left) (sym c.in_ok-push.ensures.items);
      each = search rules;
    }

pub returns-clause-servers : goal.returns-clause-servers
returns-clause-servers c = sym
    (c.loop-line.invariant.all ∙ all_named c.loop-line.servers.items c.args.lines.now
    c.loop-line.line-index (grind (arith, common_steps)))
