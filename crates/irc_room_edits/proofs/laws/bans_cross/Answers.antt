use Rattle.irc_room_edits.proofs.ComputedExamples.{bans_cross}
use Rattle.irc_room_edits.proofs.laws.bans_cross.Goals as goal

pub returns : goal.returns
returns c = bans_cross
