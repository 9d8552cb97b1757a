use Rattle.irc_room_edits.proofs.ComputedExamples.{topics_cross}
use Rattle.irc_room_edits.proofs.laws.topics_cross.Goals as goal

pub returns : goal.returns
returns c = topics_cross
