use Rattle.irc_room_edits.proofs.ComputedExamples.{both_make_channel}
use Rattle.irc_room_edits.proofs.laws.both_make_channel.Goals as goal

pub returns : goal.returns
returns c = both_make_channel
