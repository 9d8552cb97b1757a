use Rattle.irc_world.proofs.EitherConnects.{link_is_even}
use Rattle.irc_world.proofs.laws.link_is_even.Goals as goal

pub returns : goal.returns
returns c =
    link_is_even c.turned_are_the_same.ensures c.link_between_parts.ensures c.merge_is_even.ensures
