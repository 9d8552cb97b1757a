use Rattle.std.proofs.Common.{◌≡◌, take}
use Rattle.std.specs.List.{filter_map}
use Rattle.irc_script.specs.Scripts.{request_of}
use Rattle.irc_script.specs.ScriptViews.{lines_now, requests}
use Rattle.irc_script.proofs.script.commands_of.Given as goal

-- the commands so far are those of the lines so far
abbrev pub invariant-loop-line : goal.invariant-loop-line
invariant-loop-line l =
    requests l.commands.items ≡ filter_map request_of (lines_now (take l.line-index l.lines))
