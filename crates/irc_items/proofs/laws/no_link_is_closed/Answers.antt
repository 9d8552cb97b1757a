use Rattle.irc_items.proofs.Delivery.FirstOnWay.{no_link_is_closed}
use Rattle.irc_items.proofs.laws.no_link_is_closed.Goals as goal

pub returns : goal.returns
returns c = no_link_is_closed c.taken_make_world.ensures
