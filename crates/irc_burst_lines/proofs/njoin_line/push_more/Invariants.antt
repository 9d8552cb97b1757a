use Rattle.std.proofs.Common.{◌≡◌, ◌≤◌, ◌++◌, length, drop}
use Rattle.irc_line.specs.Bytes.{cut}
use Rattle.irc_line.specs.Limits.{max_line}
use Rattle.irc_burst_lines.specs.DeedLines.{more_text}
use Rattle.irc_burst_lines.specs.Loops.Telling.{told_members}
use Rattle.irc_burst_lines.proofs.njoin_line.push_more.Given as goal

abbrev pub invariant-loop-member : goal.invariant-loop-member
invariant-loop-member l = record {
  still_cut : length l.line.items ≤ max_line;
  pushed : cut (l.line.items ++ more_text (told_members (drop l.member-index l.members)))
      ≡ cut (l.fn.line.items ++ more_text (told_members l.members));
}
