use Rattle.irc_crossed_edits.proofs.ComputedExamples.{kick_is_followed}
use Rattle.irc_crossed_edits.proofs.laws.kick_is_followed.Goals as goal

pub returns : goal.returns
returns c = kick_is_followed
