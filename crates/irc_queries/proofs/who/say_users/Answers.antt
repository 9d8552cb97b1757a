use Rattle.std.proofs.Common.{Some, ◌++◌, map, ◌∙◌, ap}
use Rattle.std.specs.Borrow.{Bor}
use Rattle.std.proofs.lemmas.List.{take_all}
use Rattle.irc_tables.specs.declared.table.Row.{Row}
use Rattle.irc_users.specs.declared.user.User.{User}
use Rattle.irc_channels.specs.declared.channel.Channel.{Channel}
use Rattle.irc_routes.specs.Known.{place_of}
use Rattle.irc_acts.specs.Standing.{is_seen_from}
use Rattle.irc_queries.specs.Said.{all_said}
use Rattle.irc_queries.specs.Who.{replies_of_users}
use Rattle.irc_queries.proofs.who.say_users.Goals as goal

pub returns-clause-ok : goal.returns-clause-ok
returns-clause-ok c =
    let context = c.args.context.now in
    let seen = λ (user : User). is_seen_from
    (map (λ (row : Bor (Row Channel)). row.now.value) c.args.own.now) context.me.now user in
    c.loop-user.invariant.said
    ∙ ap (λ users. c.args.out.now.outs
    ++ all_said (place_of context.routes.now) (Some context.me.now.nick) c.args.conn
    (replies_of_users (place_of context.routes.now) seen c.args.mask.now users))
    (ap (map (λ (user : Bor User). user.now))
    (take_all c.loop-user.user-index c.as_slice-user-items.result.now c.loop-user-test.false
    ∙ c.as_slice-user-items.ensures.value)
    ∙ c.in_ok-users.ensures)
