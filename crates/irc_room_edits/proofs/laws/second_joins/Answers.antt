use Rattle.irc_room_edits.proofs.ComputedExamples.{second_joins}
use Rattle.irc_room_edits.proofs.laws.second_joins.Goals as goal

pub returns : goal.returns
returns c = second_joins
