use Rattle.irc_world.proofs.HallsMatch.{step_keeps_matched}
use Rattle.irc_world.proofs.laws.step_keeps_matched.Goals as goal

pub returns : goal.returns
returns c =
    let users = c.users_come_and_go.ensures in
    step_keeps_matched c.tests_tell.ensures c.link_taken_out.ensures c.joined_over_link.ensures
    users.possible users.stays users.closes users.registering
    users.added users.unregistered users.registered
