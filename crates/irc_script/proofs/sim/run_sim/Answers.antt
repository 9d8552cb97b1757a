use Rattle.std.proofs.Common.{[], ◌∙◌, ap, append-nil, sym, subst}
use Rattle.irc_script.specs.Loops.Steps.{RunWhole, RunInto}
use Rattle.irc_script.specs.Networks.{first_net}
use Rattle.irc_script.specs.Runs.{IsTextOf}
use Rattle.irc_script.specs.ScriptViews.{requests, script_asked}
use Rattle.irc_script.specs.Sinks.{sink}
use Rattle.irc_script.specs.Lemmas.Sinking.{whole_appended}
use Rattle.irc_script.proofs.CutShort.{ends_by, ran_early}
use Rattle.irc_script.proofs.sim.run_sim.Goals as goal

pub returns-in_err-run_all : goal.returns-in_err-run_all
returns-in_err-run_all g c =
    let old = sink (g.W.Write.contents c.args.output.now) [] in
    let new = sink (g.W.Write.contents c.run_all.new.output) [] in
    let some = subst
    (λ commands. RunInto c.in_err-run_all.field-0.0 c.in_ok-script_run.script_run.net.network
    (requests commands) old new) c.deref-3.ensures.value c.in_err-run_all.ensures in
    let from_first = subst (λ first. RunInto c.in_err-run_all.field-0.0 first
    (requests c.in_ok-script.script.commands.items) old new)
    (c.in_ok-script_run.ensures ∙ ap first_net c.deref-2.ensures.value) some in
    ran_early c.from_residual-in_err-run_all.result c.in_err-run_all.field-0.0 _ _ _
    c.from_residual-in_err-run_all.ensures.1
    (ends_by c.in_err-run_all.field-0.0 c.scripts_print_one_room.ensures c.scripts_run_on.ensures _
    _ _ c.deref.result.now (script_asked c.in_ok-script.script)
    (subst (λ text. IsTextOf text (g.R.Read.remaining c.args.input.now))
    (sym c.deref.ensures.value) c.in_ok-text.ensures) c.in_ok-script.ensures from_first)

pub returns : goal.returns
returns g c =
    let old = sink (g.W.Write.contents c.args.output.now) [] in
    let new = sink (g.W.Write.contents c.run_all.new.output) [] in
    let last = c.run_all.new.run.net.network in
    let all = subst (λ commands. RunWhole c.in_ok-script_run.script_run.net.network
    (requests commands) last old new) c.deref-3.ensures.value c.in_ok-run_all.ensures in
    let from_first =
    subst (λ first. RunWhole first (requests c.in_ok-script.script.commands.items) last old new)
    (c.in_ok-script_run.ensures ∙ ap first_net c.deref-2.ensures.value) all in
    record {
      text = c.deref.result.now;
      is_text = subst (λ text. IsTextOf text (g.R.Read.remaining c.args.input.now))
          (sym c.deref.ensures.value) c.in_ok-text.ensures;
      asked = script_asked c.in_ok-script.script;
      read = c.in_ok-script.ensures;
      last = last;
      printed = from_first.text;
      runs = from_first.runs;
      one_room =
          c.scripts_print_one_room.ensures c.deref.result.now (script_asked c.in_ok-script.script)
          (requests c.in_ok-script.script.commands.items) [] last from_first.text
          c.in_ok-script.ensures
          (sym (append-nil (requests c.in_ok-script.script.commands.items))) from_first.runs;
      appended = whole_appended _ _ _ from_first.prints;
    }
