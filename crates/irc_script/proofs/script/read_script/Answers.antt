use Rattle.std.proofs.Common.{◌∙◌, ap, sym, arith, take, drop, length, ◌-◌}
use Rattle.irc_script.specs.Scripts.{ended, is_bad_line}
use Rattle.irc_script.specs.ScriptViews.{lines_now}
use Rattle.irc_script.proofs.ScriptSteps.{position_now, behind_now, read_behind, bad_behind}
use Rattle.irc_script.proofs.ScriptSteps.{with_requests, good_behind}
use Rattle.irc_script.proofs.script.read_script.Goals as goal

pub returns-in-Some : goal.returns-in-Some
returns-in-Some c =
    let servers = c.in_ok-servers.servers.items in
    let lines = c.whole_lines-lines.result.now in
    let rest = take (length lines - c.len.result) (drop c.len.result lines) in
    read_behind c.args.text.now (lines_now c.in_ok-pieces.pieces.items) (lines_now lines)
    (lines_now rest) servers
    c.in_ok-pieces.ensures (c.whole_lines-lines.ensures
    ∙ ap (λ ps. ended (lines_now ps)) c.deref.ensures.value)
    c.in_ok-servers.ensures.servers
    (behind_now _ servers lines (c.len.ensures ∙ c.in_ok-servers.servers.ok.0))
    ∙ bad_behind servers (lines_now rest) c.in-Some.bad _
    (sym (c.first_bad.ensures ∙ position_now is_bad_line rest) ∙ c.in-Some.is)
    (omega (arith, c.len-in-Some.ensures, c.in_ok-servers.servers.ok.0))

pub returns : goal.returns
returns c =
    let servers = c.in_ok-servers.servers.items in
    let lines = c.whole_lines-lines.result.now in
    let rest = take (length lines - c.len.result) (drop c.len.result lines) in
    read_behind c.args.text.now (lines_now c.in_ok-pieces.pieces.items) (lines_now lines)
    (lines_now rest) servers
    c.in_ok-pieces.ensures (c.whole_lines-lines.ensures
    ∙ ap (λ ps. ended (lines_now ps)) c.deref.ensures.value)
    c.in_ok-servers.ensures.servers
    (behind_now _ servers lines (c.len.ensures ∙ c.in_ok-servers.servers.ok.0))
    ∙ good_behind servers (lines_now rest) _
    (sym (c.first_bad.ensures ∙ position_now is_bad_line rest) ∙ c.in_default.is)
    (ap (with_requests servers) c.in_ok-commands.ensures)
