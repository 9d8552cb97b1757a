use Rattle.std.proofs.Common.{[]}
use Rattle.irc_script.specs.Sinks.{Prints, sink}
use Rattle.irc_script.proofs.sink.write_whole.Given as goal

-- what was written, and what is left
abbrev pub invariant-loop : goal.invariant-loop
invariant-loop g l = Prints (sink (g.W.Write.contents l.fn.output) l.text)
    (sink (g.W.Write.contents l.output) l.rest) []
