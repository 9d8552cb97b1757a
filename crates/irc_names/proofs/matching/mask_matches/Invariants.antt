use Rattle.irc_names.specs.Masks.{Matches}
use Rattle.irc_names.specs.Loops.Walks.{Tells}
use Rattle.irc_names.proofs.MaskSteps.{length_left}
use Rattle.irc_names.proofs.matching.mask_matches.Given as goal

-- what is left decides the whole
abbrev pub invariant-loop-reached : goal.invariant-loop-reached
invariant-loop-reached l = Tells l.reached (Matches l.fn.mask l.fn.text)

abbrev pub decreases-loop-reached : goal.decreases-loop-reached
decreases-loop-reached l = length_left l.reached
