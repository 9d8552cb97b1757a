use Rattle.irc_line.proofs.LinesRead.{every_line_is_read, is_read_so_alone}
use Rattle.irc_line.proofs.laws.every_line_is_read.Goals as goal

pub returns-clause-so : goal.returns-clause-so
returns-clause-so c = every_line_is_read

pub returns-clause-alone : goal.returns-clause-alone
returns-clause-alone c = is_read_so_alone
