use Rattle.irc_room_edits.proofs.ComputedExamples.{modes_are_set}
use Rattle.irc_room_edits.proofs.laws.modes_are_set.Goals as goal

pub returns : goal.returns
returns c = modes_are_set
