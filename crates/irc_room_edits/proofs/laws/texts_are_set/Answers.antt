use Rattle.irc_room_edits.proofs.ComputedExamples.{texts_are_set}
use Rattle.irc_room_edits.proofs.laws.texts_are_set.Goals as goal

pub returns : goal.returns
returns c = texts_are_set
