use Rattle.irc_stage.specs.Lemmas.MatchedEvents.{stays_matched}
use Rattle.irc_server.proofs.OneMachine.{served_stays_matched}
use Rattle.irc_server.proofs.laws.stays_matched.Goals as goal

pub returns-clause-machine : goal.returns-clause-machine
returns-clause-machine c =
    let users = c.users_come_and_go.ensures in
    stays_matched users.possible users.stays users.closes users.registering users.added
    users.unregistered users.registered

pub returns-clause-server : goal.returns-clause-server
returns-clause-server c =
    let users = c.users_come_and_go.ensures in
    served_stays_matched c.alike_stay_alike.ensures
    (stays_matched users.possible users.stays users.closes users.registering users.added
    users.unregistered users.registered)
