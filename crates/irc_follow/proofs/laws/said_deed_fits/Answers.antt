use Rattle.irc_follow.proofs.SaidFits.{said_deed_fits}
use Rattle.irc_follow.proofs.laws.said_deed_fits.Goals as goal

pub returns : goal.returns
returns c = said_deed_fits
