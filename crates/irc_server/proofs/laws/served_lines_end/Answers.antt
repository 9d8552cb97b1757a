use Rattle.irc_server.proofs.LinesEnd.{lines_end}
use Rattle.irc_server.proofs.laws.served_lines_end.Goals as goal

pub returns : goal.returns
returns c = lines_end
