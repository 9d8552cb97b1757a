use Rattle.std.proofs.Common.{◌≡◌}
use Rattle.std.specs.Vec.Iter.{into_iter_items, into_iter_len}
use Rattle.irc_line.specs.Framed.{bytes_of}
use Rattle.irc_network.specs.Loops.Progress.{all_heard_out, progress_of}
use Rattle.irc_network.specs.Whole.{IsTidy}
use Rattle.irc_network.proofs.network.Network.hear_all.Given as goal

-- the lines that are left will make of it what all of them make
abbrev pub invariant-loop-line : goal.invariant-loop-line
invariant-loop-line g l =
    (all_heard_out l.fn.from l.fn.to (progress_of l.self l.output.lines.items)
    (bytes_of (into_iter_items l.rest))
    ≡ all_heard_out l.fn.from l.fn.to (progress_of l.fn.self l.fn.output.lines.items)
    (bytes_of l.fn.lines.items)) × IsTidy l.self

abbrev pub decreases-loop-line : goal.decreases-loop-line
decreases-loop-line g l = into_iter_len l.rest
