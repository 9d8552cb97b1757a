use Rattle.irc_follow.proofs.SaidFits.{done_stays_sound}
use Rattle.irc_follow.proofs.laws.done_stays_sound.Goals as goal

pub returns : goal.returns
returns c = done_stays_sound
