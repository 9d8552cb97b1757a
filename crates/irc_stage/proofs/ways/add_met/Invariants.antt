use Rattle.std.proofs.Common.{◌≡◌, ◌++◌, map}
use Rattle.irc_stage.specs.Ways.{but}
use Rattle.irc_stage.specs.Loops.Branching.{met_among}
use Rattle.irc_stage.proofs.ways.add_met.Given as goal

abbrev pub invariant-loop-link : goal.invariant-loop-link
invariant-loop-link l = l.links.items ≡ l.fn.links.items
    ++ but l.arrival (met_among (map (λ e. (e.0.now, e.1.now)) l.yielded))
