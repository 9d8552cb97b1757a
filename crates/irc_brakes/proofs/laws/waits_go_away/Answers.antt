use Rattle.irc_brakes.proofs.FollowingWaits.{waits_go_away}
use Rattle.irc_brakes.proofs.laws.waits_go_away.Goals as goal

pub returns : goal.returns
returns c = waits_go_away c.walk_is_the_way.ensures
