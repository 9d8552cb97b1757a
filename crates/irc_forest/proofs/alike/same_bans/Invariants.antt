use Rattle.std.proofs.Common.{◌≡◌, length}
use Rattle.std.specs.Cmp.Lexicographic.{pointwise}
use Rattle.irc_names.specs.Spellings.{exactly_same}
use Rattle.irc_forest.proofs.alike.same_bans.Given as goal

-- what is left compares as the whole does
abbrev pub invariant-loop-ban : goal.invariant-loop-ban
invariant-loop-ban l =
    pointwise exactly_same l.mine l.theirs ≡ pointwise exactly_same l.fn.one l.fn.other

abbrev pub decreases-loop-ban : goal.decreases-loop-ban
decreases-loop-ban l = length l.mine
