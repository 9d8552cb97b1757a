use Rattle.irc_items.specs.Sound.{most_now}
use Rattle.irc_network.specs.ByteNetwork.{progress_in_lines, net_in_lines}
use Rattle.irc_network.specs.Loops.Coming.{progress_of}
use Rattle.irc_net.specs.Loops.Settling.{GoesCounted}
use Rattle.irc_network.specs.Network.{lines_left}
use Rattle.irc_net.proofs.net.take_all.Given as goal

-- so many lines were completed
abbrev pub invariant-loop-lines : goal.invariant-loop-lines
invariant-loop-lines g l = GoesCounted l.count (progress_of l.fn.network l.fn.output.lines.items)
    (progress_of l.network l.output.lines.items)

abbrev pub decreases-loop-lines : goal.decreases-loop-lines
decreases-loop-lines g l = lines_left (most_now (net_in_lines l.fn.network))
    (progress_in_lines (progress_of l.network l.output.lines.items))
