use Rattle.irc_modes.specs.Lemmas.FewRead.{left_is_readable}
use Rattle.irc_modes.proofs.laws.left_is_readable.Goals as goal

pub returns : goal.returns
returns c = left_is_readable
