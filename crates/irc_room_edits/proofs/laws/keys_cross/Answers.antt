use Rattle.irc_room_edits.proofs.ComputedExamples.{keys_cross}
use Rattle.irc_room_edits.proofs.laws.keys_cross.Goals as goal

pub returns : goal.returns
returns c = keys_cross
