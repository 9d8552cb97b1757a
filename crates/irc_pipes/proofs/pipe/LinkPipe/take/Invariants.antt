use Rattle.std.proofs.Common.{◌-◌}
use Rattle.irc_line.specs.Framed.{bytes_of}
use Rattle.irc_pipes.specs.Loops.Parts.{HasCome}
use Rattle.irc_pipes.proofs.pipe.LinkPipe.take.Given as goal

abbrev pub invariant-loop-taken : goal.invariant-loop-taken
invariant-loop-taken l =
    HasCome l.fn.count l.taken l.fn.self l.self (bytes_of l.fn.lines.items) (bytes_of l.lines.items)

abbrev pub decreases-loop-taken : goal.decreases-loop-taken
decreases-loop-taken l = l.count - l.taken
