use Rattle.std.proofs.Common.{take}
use Rattle.irc_line.specs.Grammar.{IsGap}
use Rattle.irc_line.proofs.reading.skip_spaces.Given as goal

abbrev pub invariant-loop-i : goal.invariant-loop-i
invariant-loop-i l = IsGap (take l.i l.text)
