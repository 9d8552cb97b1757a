use Rattle.irc_world.proofs.SameWorlds.{same_worlds_go_on}
use Rattle.irc_world.proofs.laws.same_worlds_go_on.Goals as goal

pub returns : goal.returns
returns c = same_worlds_go_on c.turned_are_the_same.ensures c.tests_tell.ensures
    c.link_between_parts.ensures c.link_taken_out.ensures c.step_stays_sound.ensures
