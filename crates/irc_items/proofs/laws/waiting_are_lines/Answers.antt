use Rattle.irc_items.proofs.Delivery.FirstOnWay.{waiting_are_lines}
use Rattle.irc_items.proofs.laws.waiting_are_lines.Goals as goal

pub returns : goal.returns
returns c = waiting_are_lines c.taken_make_world.ensures
