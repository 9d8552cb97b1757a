use Rattle.std.proofs.Common.{◌≡◌, Some, ◌++◌, length}
use Rattle.std.specs.List.{flat_map}
use Rattle.irc_batch.specs.Growing.{Grew}
use Rattle.irc_routes.specs.Known.{place_of}
use Rattle.irc_acts.specs.CommaLists.{entries}
use Rattle.irc_queries.specs.List.{asked_entry}
use Rattle.irc_queries.specs.Said.{all_said}
use Rattle.irc_queries.proofs.list.say_list.Given as goal

-- the entries so far, and those of the rest, are those of all
abbrev pub invariant-loop-asked : goal.invariant-loop-asked
invariant-loop-asked l = record {
  said : l.out.outs ++ all_said (place_of l.context.routes.now) (Some l.context.me.now.nick) l.conn
      (flat_map (asked_entry l.context.room.now.room l.context.me.now) (entries l.rest))
      ≡ l.initial.out.outs ++ all_said (place_of l.context.routes.now) (Some l.context.me.now.nick)
      l.conn (flat_map (asked_entry l.context.room.now.room l.context.me.now) (entries l.list));
  grew : Grew l.initial.out.outs l.out.outs;
}

abbrev pub decreases-loop-asked : goal.decreases-loop-asked
decreases-loop-asked l = length l.rest
