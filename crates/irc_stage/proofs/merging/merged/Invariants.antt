use Rattle.std.proofs.Common.{◌≡◌, ◌≤◌, ◌++◌, drop, length, map}
use Rattle.irc_tables.specs.RowViews.{row_entry}
use Rattle.irc_stage.specs.Loops.Merging.{merged, entries_now}
use Rattle.irc_stage.proofs.merging.merged.Given as goal

abbrev pub invariant-loop-row : goal.invariant-loop-row
invariant-loop-row l = record {
  lines : entries_now l.all.items
      ++ merged (map row_entry (drop l.row-index l.rows)) (entries_now (drop l.place l.found))
      ≡ merged (map row_entry l.rows) (entries_now l.found);
  within : l.place ≤ length l.found;
}
