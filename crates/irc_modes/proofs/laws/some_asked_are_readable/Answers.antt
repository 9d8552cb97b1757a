use Rattle.irc_modes.specs.Lemmas.FewRead.{some_asked_are_readable}
use Rattle.irc_modes.proofs.laws.some_asked_are_readable.Goals as goal

pub returns : goal.returns
returns c = some_asked_are_readable
