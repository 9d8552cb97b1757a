use Rattle.irc_brakes.proofs.FollowingWaits.{waits_are_short}
use Rattle.irc_brakes.proofs.laws.waits_are_short.Goals as goal

pub returns : goal.returns
returns c = waits_are_short c.walk_is_the_way.ensures c.walks_join.ensures
