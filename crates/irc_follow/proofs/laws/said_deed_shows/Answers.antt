use Rattle.irc_follow.proofs.SaidDeedShows.{said_deed_shows}
use Rattle.irc_follow.proofs.laws.said_deed_shows.Goals as goal

pub returns : goal.returns
returns c = said_deed_shows
