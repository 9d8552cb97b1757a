use Rattle.irc_line.proofs.RoundTrip.{written_is_read}
use Rattle.irc_line.proofs.laws.written_is_read.Goals as goal

pub returns : goal.returns
returns c = written_is_read
