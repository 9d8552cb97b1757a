use Rattle.irc_modes.specs.Lemmas.FewRead.{read_changes_are_few}
use Rattle.irc_modes.proofs.laws.read_changes_are_few.Goals as goal

pub returns : goal.returns
returns c = read_changes_are_few
