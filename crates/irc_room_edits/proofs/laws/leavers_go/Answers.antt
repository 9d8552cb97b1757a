use Rattle.irc_room_edits.proofs.ComputedExamples.{leavers_go}
use Rattle.irc_room_edits.proofs.laws.leavers_go.Goals as goal

pub returns : goal.returns
returns c = leavers_go
