use Rattle.ircd.specs.Serving.{unread}
use Rattle.ircd.proofs.rereading.read_again.Goals as goal

pub returns-in-Ok : goal.returns-in-Ok
returns-in-Ok g c = c.change_to.ensures c.in-Ok.ensures.read

pub returns-in-Err : goal.returns-in-Err
returns-in-Err g c = unread c.in-Err.why _ c.in-Err.ensures.refused c.say_rereading.ensures
