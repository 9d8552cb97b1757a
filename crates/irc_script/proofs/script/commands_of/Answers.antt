use Rattle.std.proofs.Common.{◌∙◌, ◌++◌, ap, sym, take}
use Rattle.std.specs.List.{filter_map}
use Rattle.std.specs.Option.{option_map, option_to_list}
use Rattle.irc_script.specs.Scripts.{request_of}
use Rattle.irc_script.specs.ScriptViews.{lines_now, request}
use Rattle.irc_script.proofs.ScriptSteps.{more_found}
use Rattle.irc_script.proofs.script.commands_of.Goals as goal

pub loop-line-preserved : goal.loop-line-preserved
loop-line-preserved c =
    let before = filter_map request_of (lines_now (take c.loop-line.line-index c.args.lines.now)) in
    c.in_ok-push_found.ensures
    ∙ ap (λ found. found ++ option_to_list (option_map request c.read_command.result))
    c.loop-line.invariant
    ∙ ap (λ found. before ++ option_to_list found) c.read_command.ensures
    ∙ sym (more_found request_of c.args.lines.now c.loop-line.line-index _ c.loop-line-test.true)
