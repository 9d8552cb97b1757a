use Rattle.irc_entrance.proofs.Examples.{bytes_are_read, lines_are_wanted}
use Rattle.irc_entrance.proofs.laws.headers_are_read.Goals as goal

pub returns-clause-lines : goal.returns-clause-lines
returns-clause-lines c = lines_are_wanted

pub returns-clause-bytes : goal.returns-clause-bytes
returns-clause-bytes c = bytes_are_read
