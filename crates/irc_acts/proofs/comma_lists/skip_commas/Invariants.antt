use Rattle.std.proofs.Common.{◌≡◌, drop}
use Rattle.irc_acts.specs.CommaLists.{entries}
use Rattle.irc_acts.proofs.comma_lists.skip_commas.Given as goal

abbrev pub invariant-loop-i : goal.invariant-loop-i
invariant-loop-i l = entries (drop l.i l.list) ≡ entries l.list
