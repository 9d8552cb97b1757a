use Rattle.irc_items.proofs.Delivery.TurnsAreFew.{turn_leaves_fewer}
use Rattle.irc_items.proofs.laws.turn_leaves_fewer.Goals as goal

pub returns : goal.returns
returns c = turn_leaves_fewer c.turns_are_few.ensures
