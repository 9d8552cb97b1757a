use Rattle.irc_world.proofs.EitherConnects.{cut_is_even}
use Rattle.irc_world.proofs.laws.cut_is_even.Goals as goal

pub returns : goal.returns
returns c = cut_is_even c.turned_are_the_same.ensures c.taken_out_either_way.ensures
    c.tests_tell.ensures c.link_taken_out.ensures
