use Rattle.irc_brakes.proofs.FollowingWaits.{no_wait_round}
use Rattle.irc_brakes.proofs.laws.no_wait_round.Goals as goal

pub returns : goal.returns
returns c = no_wait_round c.no_walk_round.ensures
