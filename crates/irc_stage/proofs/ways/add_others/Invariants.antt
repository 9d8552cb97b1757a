use Rattle.std.proofs.Common.{◌≡◌, ◌++◌, take}
use Rattle.irc_stage.specs.Ways.{but}
use Rattle.irc_stage.proofs.ways.add_others.Given as goal

abbrev pub invariant-loop-link : goal.invariant-loop-link
invariant-loop-link l = l.links.items ≡ l.fn.links.items ++ but l.arrival (take l.link-index l.more)
