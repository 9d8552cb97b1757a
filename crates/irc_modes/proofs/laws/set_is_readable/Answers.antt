use Rattle.irc_modes.specs.Lemmas.SetReadable.{set_is_readable}
use Rattle.irc_modes.proofs.laws.set_is_readable.Goals as goal

pub returns : goal.returns
returns c = set_is_readable
