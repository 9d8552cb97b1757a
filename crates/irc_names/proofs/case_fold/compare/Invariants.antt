use Rattle.std.proofs.Common.{◌≡◌, length}
use Rattle.irc_names.specs.Fold.{name_cmp}
use Rattle.irc_names.proofs.case_fold.compare.Given as goal

-- what is left compares as the whole does
abbrev pub invariant-loop-first : goal.invariant-loop-first
invariant-loop-first l = name_cmp l.mine l.theirs ≡ name_cmp l.fn.left l.fn.right

abbrev pub decreases-loop-first : goal.decreases-loop-first
decreases-loop-first l = length l.mine
