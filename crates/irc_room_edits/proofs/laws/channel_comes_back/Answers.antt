use Rattle.irc_room_edits.proofs.ComputedExamples.{channel_comes_back}
use Rattle.irc_room_edits.proofs.laws.channel_comes_back.Goals as goal

pub returns : goal.returns
returns c = channel_comes_back
