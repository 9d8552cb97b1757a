use Rattle.std.proofs.Common.{Err}
use Rattle.ircd.proofs.run_given.Goals as goal

pub returns-in-Err : goal.returns-in-Err
returns-in-Err c = (Err c.in-Err.stop, c.stop_with.ensures.status)
