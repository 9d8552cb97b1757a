use Rattle.irc_world.proofs.HoldingWays.{parts_hold_ways}
use Rattle.irc_world.proofs.laws.parts_hold_ways.Goals as goal

pub returns : goal.returns
returns c = parts_hold_ways c.ways_are_short.ensures
