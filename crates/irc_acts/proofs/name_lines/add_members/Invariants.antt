use Rattle.std.proofs.Common.{map, take}
use Rattle.irc_tables.specs.RowViews.{row_entry}
use Rattle.irc_numerics.specs.Limits.{max_names}
use Rattle.irc_acts.specs.Names.{name_line}
use Rattle.irc_acts.specs.Loops.FilledLines.{Came}
use Rattle.irc_acts.specs.Loops.NameLines.{named_among}
use Rattle.irc_acts.proofs.name_lines.add_members.Given as goal

abbrev pub invariant-loop-row : goal.invariant-loop-row
invariant-loop-row l =
    Came max_names (name_line l.naming.channel.now) l.fn.steps.items l.fn.held.items
    (named_among l.naming (map row_entry (take l.row-index l.rows))) l.steps.items l.held.items
