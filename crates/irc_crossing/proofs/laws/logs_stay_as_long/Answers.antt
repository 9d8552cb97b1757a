use Rattle.irc_crossing.proofs.Nothing.{logs_stay_as_long}
use Rattle.irc_crossing.proofs.laws.logs_stay_as_long.Goals as goal

pub returns : goal.returns
returns c = logs_stay_as_long
