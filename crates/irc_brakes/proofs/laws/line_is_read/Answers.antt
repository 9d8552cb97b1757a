use Rattle.irc_brakes.proofs.ComputedWaits.{line_is_read}
use Rattle.irc_brakes.proofs.laws.line_is_read.Goals as goal

pub returns : goal.returns
returns c = line_is_read
