use Rattle.irc_room_edits.proofs.ComputedExamples.{no_change_is_written}
use Rattle.irc_room_edits.proofs.laws.no_change_is_written.Goals as goal

pub returns : goal.returns
returns c = no_change_is_written
