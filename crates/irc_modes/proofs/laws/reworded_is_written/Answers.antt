use Rattle.irc_modes.proofs.Reworded.{reworded_is_written}
use Rattle.irc_modes.proofs.laws.reworded_is_written.Goals as goal

pub returns : goal.returns
returns c = reworded_is_written
