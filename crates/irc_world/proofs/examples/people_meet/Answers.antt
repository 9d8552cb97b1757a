use Rattle.irc_world.proofs.NetworksProved.{people_meet}
use Rattle.irc_world.proofs.examples.people_meet.Goals as goal

pub returns : goal.returns
returns c = people_meet
