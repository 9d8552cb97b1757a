use Rattle.std.proofs.Common.{length}
use Rattle.irc_names.proofs.MaskSteps.{Follows}
use Rattle.irc_names.proofs.matching.follow.Given as goal

-- mask and text match just where what is left of both does
abbrev pub invariant-loop-part : goal.invariant-loop-part
invariant-loop-part l = Follows l.fn.mask l.fn.text l.mask_left l.text_left

abbrev pub decreases-loop-part : goal.decreases-loop-part
decreases-loop-part l = length l.mask_left
