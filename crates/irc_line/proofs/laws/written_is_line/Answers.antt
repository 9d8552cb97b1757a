use Rattle.irc_line.proofs.Completed.{written_is_line}
use Rattle.irc_line.proofs.laws.written_is_line.Goals as goal

pub returns : goal.returns
returns c = written_is_line
