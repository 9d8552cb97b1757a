use Rattle.std.proofs.Common.{◌≡◌, ◌≤◌, is_some, filter, length, take}
use Rattle.irc_tables.specs.RowViews.{row_entry}
use Rattle.irc_acts.specs.Names.{listed}
use Rattle.irc_acts.specs.Loops.NameLines.{is_shown}
use Rattle.irc_queries.proofs.list.named_among.Given as goal

abbrev pub invariant-loop-member : goal.invariant-loop-member
invariant-loop-member l = record {
  counted : l.count ≡ length (filter (λ row. is_some (listed l.room.room.users (is_shown l.all)
      (row_entry row))) (take l.member-index l.members));
  fits : l.count ≤ l.member-index;
}
