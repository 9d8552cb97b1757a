use Rattle.irc_burst_lines.specs.Lemmas.WholeLines.{server_fits, squit_fits, kill_fits, members_fit}
use Rattle.irc_burst_lines.specs.Lemmas.WholeLines.{members_are_short, fitting_is_whole}
use Rattle.irc_burst_lines.proofs.laws.lines_fit.Goals as goal

pub returns-clause-servers : goal.returns-clause-servers
returns-clause-servers c = server_fits

pub returns-clause-squits : goal.returns-clause-squits
returns-clause-squits c = squit_fits

pub returns-clause-kills : goal.returns-clause-kills
returns-clause-kills c = kill_fits

pub returns-clause-members : goal.returns-clause-members
returns-clause-members c = members_fit

pub returns-clause-longest : goal.returns-clause-longest
returns-clause-longest c = members_are_short

pub returns-clause-whole : goal.returns-clause-whole
returns-clause-whole c = fitting_is_whole
