use Rattle.irc_world.proofs.StandingBy.{waiting_stay}
use Rattle.irc_world.proofs.laws.waiting_stay.Goals as goal

pub returns : goal.returns
returns c = waiting_stay c.tests_tell.ensures c.link_between_parts.ensures c.link_taken_out.ensures
