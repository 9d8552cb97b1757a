use Rattle.irc_crossing.proofs.Examples.{met_goes, met_is_given, met_is_killed}
use Rattle.irc_crossing.proofs.laws.met_lines.Goals as goal

pub returns-clause-given : goal.returns-clause-given
returns-clause-given c = met_is_given

pub returns-clause-goes : goal.returns-clause-goes
returns-clause-goes c = met_goes

pub returns-clause-killed : goal.returns-clause-killed
returns-clause-killed c = met_is_killed
