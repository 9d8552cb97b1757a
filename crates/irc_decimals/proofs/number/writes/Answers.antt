use Rattle.std.proofs.Common.{rules}
use Rattle.irc_decimals.proofs.number.writes.Goals as goal

pub returns : goal.returns
returns c = search rules
