use Rattle.irc_network.specs.Loops.Coming.{progress_of}
use Rattle.irc_network.specs.Loops.Turning.{bytes_on_way}
use Rattle.irc_network.proofs.Going.{GoesTidily}
use Rattle.irc_network.proofs.network.Network.come_to_line.Given as goal

abbrev pub invariant-loop-lines : goal.invariant-loop-lines
invariant-loop-lines g l =
    GoesTidily (progress_of l.fn.self l.fn.output.lines.items)
    (progress_of l.self l.output.lines.items)

abbrev pub decreases-loop-lines : goal.decreases-loop-lines
decreases-loop-lines g l = bytes_on_way l.self.pipes
