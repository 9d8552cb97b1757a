use Rattle.irc_world.proofs.StandingBy.{other_parts_stay}
use Rattle.irc_world.proofs.laws.other_parts_stay.Goals as goal

pub returns : goal.returns
returns c = other_parts_stay c.tests_tell.ensures c.links_join.ensures c.link_between_parts.ensures
    c.link_taken_out.ensures c.joined_over_link.ensures
