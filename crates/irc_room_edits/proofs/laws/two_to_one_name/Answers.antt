use Rattle.irc_room_edits.proofs.ComputedExamples.{two_to_one_name}
use Rattle.irc_room_edits.proofs.laws.two_to_one_name.Goals as goal

pub returns : goal.returns
returns c = two_to_one_name
