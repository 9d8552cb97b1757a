use Rattle.irc_server.proofs.LinesEnd.{set_lines_end}
use Rattle.irc_server.proofs.laws.set_lines_end.Goals as goal

pub returns : goal.returns
returns c = set_lines_end
