use Rattle.irc_crossing.proofs.Examples.{killed_is_followed}
use Rattle.irc_crossing.proofs.laws.log_lines.Goals as goal

pub returns : goal.returns
returns c = killed_is_followed
