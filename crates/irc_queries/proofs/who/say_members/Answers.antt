use Rattle.irc_routes.specs.Known.{place_of}
use Rattle.std.proofs.Common.{Some, map}
use Rattle.std.specs.Borrow.{Bor}
use Rattle.irc_tables.specs.declared.table.Row.{Row}
use Rattle.irc_users.specs.declared.user.User.{User}
use Rattle.irc_channels.specs.declared.channel.Channel.{Channel}
use Rattle.irc_acts.specs.Standing.{is_seen_from}
use Rattle.irc_queries.specs.Said.{step_said}
use Rattle.irc_queries.specs.Who.{member_line}
use Rattle.irc_queries.proofs.FoundRows.{grew_on, said_more}
use Rattle.irc_queries.proofs.who.say_members.Goals as goal

pub loop-row-preserved : goal.loop-row-preserved
loop-row-preserved c =
    let context = c.args.context.now in
    let seen = λ (user : User). is_seen_from
    (map (λ (row : Bor (Row Channel)). row.now.value) c.args.own.now) context.me.now user in
    record {
      said =
          said_more (step_said (place_of context.routes.now) (Some context.me.now.nick) c.args.conn)
          (member_line context.room.now.room (place_of context.routes.now) seen c.args.channel.now)
          c.as_slice-row-items.result.now c.loop-row.row-index
          c.row-item.result c.loop-row-test.true c.row-item.is c.args.out.now.outs
          c.loop-row.out.outs c.say_member.new.out.outs c.loop-row.invariant.said
          c.in_ok-say_member.ensures.ok;
      grew = grew_on _ _ _ c.loop-row.invariant.grew c.in_ok-say_member.ensures.grew;
    }
