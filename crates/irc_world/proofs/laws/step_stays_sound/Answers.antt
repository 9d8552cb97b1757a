use Rattle.irc_world.proofs.StaysSound.{step_stays_sound}
use Rattle.irc_world.proofs.laws.step_stays_sound.Goals as goal

pub returns : goal.returns
returns c =
    step_stays_sound c.tests_tell.ensures c.link_between_parts.ensures c.link_taken_out.ensures
    c.joined_over_link.ensures c.decided_is_possible.ensures
    c.registering_is_possible.ensures c.merge_is_well_formed.ensures c.split_is_well_formed.ensures
