use Rattle.irc_room_edits.proofs.ComputedExamples.{join_makes_channel}
use Rattle.irc_room_edits.proofs.laws.join_makes_channel.Goals as goal

pub returns : goal.returns
returns c = join_makes_channel
