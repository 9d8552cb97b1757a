use Rattle.std.proofs.Common.{◌≡◌, drop}
use Rattle.irc_burst_lines.specs.Loops.Telling.{lines_now}
use Rattle.irc_server.specs.Loops.Serving.{lines_told}
use Rattle.irc_server.proofs.serving.put_all.Given as goal

-- the lines that are left complete those that were put out
abbrev pub invariant-loop-line : goal.invariant-loop-line
invariant-loop-line l = lines_told l.link (lines_now (drop l.line-index l.lines)) l.serving
    ≡ lines_told l.link (lines_now l.lines) l.initial.serving
