use Rattle.std.proofs.Common.{◌≡◌, Some, List, ◌++◌, map, ◌∙◌, ap, subst, OnOk}
use Rattle.std.specs.Borrow.{Bor}
use Rattle.irc_tables.specs.declared.table.Row.{Row}
use Rattle.irc_users.specs.declared.user.User.{User}
use Rattle.irc_channels.specs.declared.channel.Channel.{Channel}
use Rattle.irc_routes.specs.Known.{place_of}
use Rattle.irc_acts.specs.Standing.{is_seen_from}
use Rattle.irc_queries.specs.Said.{all_said}
use Rattle.irc_queries.specs.Who.{replies_of_seen}
use Rattle.irc_queries.proofs.who.say_whom.Goals as goal

pub returns-clause-ok : goal.returns-clause-ok
returns-clause-ok c =
    let context = c.args.context.now in
    let place = place_of context.routes.now in
    let value = λ (row : Bor (Row Channel)). row.now.value in
    subst (λ (own : List Channel). OnOk c.say_told.result (c.say_told.new.out.outs
    ≡ c.args.out.now.outs ++ all_said place (Some context.me.now.nick) c.args.conn
    (replies_of_seen context.room.now.room place
    (λ (user : User). is_seen_from own context.me.now user) context.me.now c.args.asked.now)))
    (ap (map value) c.as_slice.ensures.value ∙ c.in_ok-own.ensures) c.say_told.ensures.ok
