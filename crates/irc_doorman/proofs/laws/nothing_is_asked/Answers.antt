use Rattle.irc_doorman.proofs.Plainly.{passes_all, watches_nobody}
use Rattle.irc_doorman.proofs.laws.nothing_is_asked.Goals as goal

pub returns-clause-events : goal.returns-clause-events
returns-clause-events g c = passes_all g.M.Machine.server_of g.M.Machine.handles

pub returns-clause-dues : goal.returns-clause-dues
returns-clause-dues g c =
    watches_nobody g.M.Machine.server_of g.M.Machine.handles g.M.Machine.dues
