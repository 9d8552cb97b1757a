use Rattle.std.proofs.Common.{length}
use Rattle.irc_names.proofs.MaskSteps.{Seeks}
use Rattle.irc_names.proofs.matching.first_place.Given as goal

-- the mask matches some end of the text just where it matches some end of what is left
abbrev pub invariant-loop-reached : goal.invariant-loop-reached
invariant-loop-reached l = Seeks l.fn.mask l.fn.text l.rest

abbrev pub decreases-loop-reached : goal.decreases-loop-reached
decreases-loop-reached l = length l.rest
