use Rattle.std.proofs.Common.{◌≡◌, Some, ◌++◌, map, take}
use Rattle.irc_batch.specs.Growing.{Grew}
use Rattle.irc_tables.specs.RowViews.{row_entry}
use Rattle.irc_routes.specs.Known.{place_of}
use Rattle.irc_queries.specs.List.{listed_entries}
use Rattle.irc_queries.specs.Said.{all_said}
use Rattle.irc_queries.proofs.list.say_listed.Given as goal

abbrev pub invariant-loop-row : goal.invariant-loop-row
invariant-loop-row l = record {
  said : l.out.outs
      ≡ l.initial.out.outs ++ all_said (place_of l.context.routes.now) (Some l.context.me.now.nick)
      l.conn (listed_entries l.context.room.now.room.users l.context.me.now
      (map (λ e. e.1) (map row_entry (take l.row-index l.row-items))));
  grew : Grew l.initial.out.outs l.out.outs;
}
