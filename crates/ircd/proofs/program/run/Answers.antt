use Rattle.std.proofs.Common.{Err}
use Rattle.irc_endings.specs.declared.fault.Stop.TheVariants.{Usage}
use Rattle.ircd.proofs.program.run.Goals as goal

pub returns-in-None-clause-status : goal.returns-in-None-clause-status
returns-in-None-clause-status g c = (Err Usage, c.stop_with.ensures.status)
