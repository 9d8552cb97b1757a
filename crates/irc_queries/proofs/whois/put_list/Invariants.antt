use Rattle.irc_routes.specs.Known.{place_of}
use Rattle.std.proofs.Common.{◌≡◌, ◌++◌, length}
use Rattle.std.specs.List.{flat_map}
use Rattle.irc_acts.specs.CommaLists.{entries}
use Rattle.irc_queries.specs.Whois.{told_of_one}
use Rattle.irc_queries.proofs.whois.put_list.Given as goal

-- what was told so far, and what is told of the rest, are what is told of all
abbrev pub invariant-loop-nick : goal.invariant-loop-nick
invariant-loop-nick l =
    l.steps.items ++ flat_map (told_of_one l.context.room.now.room
    (place_of l.context.routes.now) l.context.me.now) (entries l.rest)
    ≡ l.fn.steps.items ++ flat_map (told_of_one l.context.room.now.room
    (place_of l.context.routes.now) l.context.me.now) (entries l.list)

abbrev pub decreases-loop-nick : goal.decreases-loop-nick
decreases-loop-nick l = length l.rest
