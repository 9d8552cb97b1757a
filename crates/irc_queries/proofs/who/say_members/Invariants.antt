use Rattle.std.proofs.Common.{◌≡◌, Some, ◌++◌, map, take}
use Rattle.std.specs.List.{filter_map}
use Rattle.irc_batch.specs.Growing.{Grew}
use Rattle.irc_tables.specs.RowViews.{row_entry}
use Rattle.irc_routes.specs.Known.{place_of}
use Rattle.irc_acts.specs.Standing.{is_seen_from}
use Rattle.irc_queries.specs.Said.{all_said}
use Rattle.irc_queries.specs.Who.{member_line}
use Rattle.irc_queries.proofs.who.say_members.Given as goal

abbrev pub invariant-loop-row : goal.invariant-loop-row
invariant-loop-row l = record {
  said : l.out.outs
      ≡ l.initial.out.outs
      ++ all_said (place_of l.context.routes.now) (Some l.context.me.now.nick) l.conn
      (filter_map (member_line l.context.room.now.room (place_of l.context.routes.now) (λ user.
      is_seen_from (map (λ row. row.now.value) l.own) l.context.me.now user) l.channel)
      (map row_entry (take l.row-index l.row-items)));
  grew : Grew l.initial.out.outs l.out.outs;
}
