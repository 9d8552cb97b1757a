use Rattle.std.proofs.Common.{◌≡◌, take}
use Rattle.irc_network.specs.ByteNetwork.{progress_without_pipes, progress_written}
use Rattle.irc_network.specs.Loops.Progress.{progress_of}
use Rattle.irc_network.specs.Network.{all_sent_out}
use Rattle.irc_network.proofs.network.Network.send_out.Given as goal

-- what was put out so far has gone its way
abbrev pub invariant-loop-at : goal.invariant-loop-at
invariant-loop-at g l =
    (progress_of l.self l.output.lines.items ≡ progress_written
    (all_sent_out l.place (take l.at l.fn.output.out.outs)
    (progress_without_pipes (progress_of l.fn.self l.fn.output.lines.items))) l.fn.self.pipes)
    × (l.output.out ≡ l.fn.output.out)
