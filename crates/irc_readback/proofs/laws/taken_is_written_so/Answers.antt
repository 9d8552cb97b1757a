use Rattle.irc_readback.specs.Lemmas.ModesRead.{otherwise_written_is_refused, taken_is_read_again}
use Rattle.irc_readback.specs.Lemmas.ModesRead.{taken_is_written_so}
use Rattle.irc_readback.proofs.laws.taken_is_written_so.Goals as goal

pub returns-clause-taken : goal.returns-clause-taken
returns-clause-taken c = taken_is_written_so

pub returns-clause-refused : goal.returns-clause-refused
returns-clause-refused c = otherwise_written_is_refused

pub returns-clause-again : goal.returns-clause-again
returns-clause-again c = taken_is_read_again
