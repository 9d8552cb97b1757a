use Rattle.std.proofs.Common.{length}
use Rattle.irc_entrance.proofs.RangesRead.{Left}
use Rattle.irc_entrance.proofs.address_range.read_ranges.Given as goal

-- the ranges of those that are left, behind the ranges so far, are those of all
abbrev pub invariant-loop-text : goal.invariant-loop-text
invariant-loop-text l = Left l.rest l.texts l.ranges.items

abbrev pub decreases-loop-text : goal.decreases-loop-text
decreases-loop-text l = length l.rest
