use Rattle.irc_crossed_edits.proofs.ComputedExamples.{two_take_one_name}
use Rattle.irc_crossed_edits.proofs.laws.two_take_one_name.Goals as goal

pub returns : goal.returns
returns c = two_take_one_name
