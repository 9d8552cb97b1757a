use Rattle.std.proofs.Common.{◌≡◌, ◌++◌, length}
use Rattle.std.specs.List.{flat_map}
use Rattle.irc_acts.specs.CommaLists.{entries}
use Rattle.irc_acts.specs.Names.{one_names}
use Rattle.irc_acts.proofs.names.put_list.Given as goal

-- what was named so far, and what is named by the rest, are what is named by all
abbrev pub invariant-loop-asked : goal.invariant-loop-asked
invariant-loop-asked l =
    l.steps.items ++ flat_map (one_names l.context.room.now.room l.context.me.now) (entries l.rest)
    ≡ l.fn.steps.items ++ flat_map (one_names l.context.room.now.room l.context.me.now)
    (entries l.list)

abbrev pub decreases-loop-asked : goal.decreases-loop-asked
decreases-loop-asked l = length l.rest
