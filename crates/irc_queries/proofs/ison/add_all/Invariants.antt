use Rattle.std.proofs.Common.{◌≡◌, ◌++◌, map, take}
use Rattle.irc_line.specs.PartViews.{words_now}
use Rattle.irc_queries.specs.Ison.{users_under}
use Rattle.irc_queries.proofs.ison.add_all.Given as goal

abbrev pub invariant-loop-nick : goal.invariant-loop-nick
invariant-loop-nick l = map (λ user. user.now) l.users.items ≡ map (λ user.
    user.now) l.fn.users.items ++ users_under l.room.room (words_now (take l.nick-index l.nicks))
