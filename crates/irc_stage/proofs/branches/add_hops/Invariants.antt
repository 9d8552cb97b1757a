use Rattle.std.proofs.Common.{◌≡◌, ◌++◌, take}
use Rattle.irc_stage.specs.Loops.Branching.{hops_of}
use Rattle.irc_stage.proofs.branches.add_hops.Given as goal

abbrev pub invariant-loop-nick : goal.invariant-loop-nick
invariant-loop-nick l =
    l.links.items ≡ l.fn.links.items ++ hops_of l.room.room l.routes (take l.nick-index l.nicks)
