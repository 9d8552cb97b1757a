use Rattle.irc_world.proofs.HomesJoined.{step_keeps_homes_joined}
use Rattle.irc_world.proofs.laws.step_keeps_homes_joined.Goals as goal

pub returns : goal.returns
returns c =
    step_keeps_homes_joined c.tests_tell.ensures c.link_between_parts.ensures
    c.link_taken_out.ensures c.joined_over_link.ensures
    c.clients_bring_own_users.ensures c.merge_has_nothing_new.ensures
    c.split_has_nothing_new.ensures
