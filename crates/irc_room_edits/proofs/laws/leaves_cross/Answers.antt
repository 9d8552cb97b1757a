use Rattle.irc_room_edits.proofs.ComputedExamples.{leaves_cross}
use Rattle.irc_room_edits.proofs.laws.leaves_cross.Goals as goal

pub returns : goal.returns
returns c = leaves_cross
