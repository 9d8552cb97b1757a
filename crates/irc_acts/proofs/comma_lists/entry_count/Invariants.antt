use Rattle.std.proofs.Common.{◌≡◌, ◌≤◌, ◌+◌, length}
use Rattle.irc_acts.specs.CommaLists.{entries}
use Rattle.irc_acts.proofs.comma_lists.entry_count.Given as goal

-- what is counted so far, and what is left, are all
abbrev pub invariant-loop-behind : goal.invariant-loop-behind
invariant-loop-behind l = record {
  counted : l.count + length (entries l.rest) ≡ length (entries l.list);
  fits : l.count + length l.rest ≤ length l.list;
}

abbrev pub decreases-loop-behind : goal.decreases-loop-behind
decreases-loop-behind l = length l.rest
