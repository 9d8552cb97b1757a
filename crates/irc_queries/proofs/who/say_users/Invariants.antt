use Rattle.std.proofs.Common.{◌≡◌, Some, ◌++◌, map, take}
use Rattle.irc_batch.specs.Growing.{Grew}
use Rattle.irc_routes.specs.Known.{place_of}
use Rattle.irc_acts.specs.Standing.{is_seen_from}
use Rattle.irc_queries.specs.Said.{all_said}
use Rattle.irc_queries.specs.Who.{replies_of_users}
use Rattle.irc_queries.proofs.who.say_users.Given as goal

abbrev pub invariant-loop-user : goal.invariant-loop-user
invariant-loop-user l = record {
  said : l.out.outs
      ≡ l.initial.out.outs ++ all_said (place_of l.context.routes.now)
      (Some l.context.me.now.nick) l.conn (replies_of_users (place_of l.context.routes.now)
      (λ user. is_seen_from (map (λ row. row.now.value) l.own) l.context.me.now user) l.mask
      (map (λ user. user.now) (take l.user-index l.user-items)));
  grew : Grew l.initial.out.outs l.out.outs;
}
