use Rattle.std.proofs.Common.{take}
use Rattle.irc_line.specs.Grammar.{HasNoSpace}
use Rattle.irc_line.proofs.reading.split_word.Given as goal

abbrev pub invariant-loop-i : goal.invariant-loop-i
invariant-loop-i l = HasNoSpace (take l.i l.text)
