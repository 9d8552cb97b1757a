use Rattle.irc_brakes.proofs.ComputedWaits.{triangle_waits}
use Rattle.irc_brakes.proofs.laws.triangle_waits.Goals as goal

pub returns : goal.returns
returns c = triangle_waits
