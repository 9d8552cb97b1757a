use Rattle.irc_modes.specs.Lemmas.WrittenRead.{written_is_read}
use Rattle.irc_modes.proofs.laws.written_is_read.Goals as goal

pub returns : goal.returns
returns c = written_is_read
