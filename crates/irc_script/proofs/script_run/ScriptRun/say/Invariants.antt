use Rattle.std.specs.Vec.Iter.{into_iter_items, into_iter_len}
use Rattle.irc_script.specs.Sinks.{sink}
use Rattle.irc_script.proofs.Playing.{Going}
use Rattle.irc_script.proofs.script_run.ScriptRun.say.Given as goal

-- the lines so far were played
abbrev pub invariant-loop-line : goal.invariant-loop-line
invariant-loop-line g l =
    Going l.fn.client (into_iter_items l.initial.left)
    (into_iter_items l.left) l.fn.self.net.network l.self.net.network
    (sink (g.W.Write.contents l.fn.output) l.fn.waiting.items)
    (sink (g.W.Write.contents l.output) l.waiting.items)

abbrev pub decreases-loop-line : goal.decreases-loop-line
decreases-loop-line g l = into_iter_len l.left
