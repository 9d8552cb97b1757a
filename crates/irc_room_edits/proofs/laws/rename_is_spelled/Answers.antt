use Rattle.irc_room_edits.proofs.ComputedExamples.{rename_is_spelled}
use Rattle.irc_room_edits.proofs.laws.rename_is_spelled.Goals as goal

pub returns : goal.returns
returns c = rename_is_spelled
