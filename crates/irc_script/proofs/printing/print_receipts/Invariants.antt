use Rattle.std.proofs.Common.{take}
use Rattle.irc_script.specs.Sinks.{Prints, sink}
use Rattle.irc_script.proofs.Receiving.{text_of}
use Rattle.irc_script.proofs.printing.print_receipts.Given as goal

-- what was received so far is printed
abbrev pub invariant-loop-line : goal.invariant-loop-line
invariant-loop-line g l =
    Prints (sink (g.W.Write.contents l.fn.output) l.fn.waiting.items)
    (sink (g.W.Write.contents l.output) l.waiting.items) (text_of (take l.line-index l.lines))
