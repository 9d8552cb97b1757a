use Rattle.irc_readback.specs.Lemmas.ModesRead.{written_changes_are_read}
use Rattle.irc_readback.proofs.laws.written_changes_are_read.Goals as goal

pub returns : goal.returns
returns c = written_changes_are_read c.written_is_read.ensures c.names_are_line_words.ensures
