use Rattle.std.proofs.Common.{◌≡◌, ◌++◌, map, take}
use Rattle.irc_tables.specs.RowViews.{row_entry}
use Rattle.irc_acts.specs.Names.{listed_names}
use Rattle.irc_acts.proofs.names.put_listed.Given as goal

abbrev pub invariant-loop-row : goal.invariant-loop-row
invariant-loop-row l =
    l.steps.items ≡ l.fn.steps.items ++ listed_names l.context.room.now.room l.context.me.now
    (map (λ e. e.1) (map row_entry (take l.row-index l.row-items)))
