use Rattle.irc_modes.specs.Lemmas.SetReadable.{bans_are_readable}
use Rattle.irc_modes.proofs.laws.bans_are_readable.Goals as goal

pub returns : goal.returns
returns c = bans_are_readable
