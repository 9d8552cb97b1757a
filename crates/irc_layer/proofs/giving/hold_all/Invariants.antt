use Rattle.std.proofs.Common.{◌≡◌, ◌++◌, drop, map}
use Rattle.irc_batch.specs.Batches.{line_on}
use Rattle.irc_burst_lines.specs.Loops.Telling.{lines_now}
use Rattle.irc_layer.proofs.giving.hold_all.Given as goal

-- what is to be put out, with the lines that are left behind it, is all
abbrev pub invariant-loop-line : goal.invariant-loop-line
invariant-loop-line l =
    l.held.outs ++ map (line_on l.link) (lines_now (drop l.line-index l.lines))
    ≡ l.fn.held.outs ++ map (line_on l.link) (lines_now l.lines)
