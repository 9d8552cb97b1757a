use Rattle.irc_room_edits.proofs.ComputedExamples.{names_are_followed}
use Rattle.irc_room_edits.proofs.laws.names_are_followed.Goals as goal

pub returns : goal.returns
returns c = names_are_followed
