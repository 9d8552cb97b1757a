use Rattle.std.proofs.Common.{◌≡◌, map, take}
use Rattle.std.specs.List.{flat_map}
use Rattle.irc_line.specs.PartViews.{words_now}
use Rattle.irc_queries.specs.Ison.{users_named}
use Rattle.irc_queries.proofs.ison.users_named.Given as goal

abbrev pub invariant-loop-words : goal.invariant-loop-words
invariant-loop-words l = map (λ user. user.now) l.users.items
    ≡ flat_map (users_named l.context.room.now.room) (words_now (take l.words-index l.params))
