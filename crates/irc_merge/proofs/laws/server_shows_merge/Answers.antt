use Rattle.irc_merge.proofs.OwnInvitations.{server_shows_merge}
use Rattle.irc_merge.proofs.laws.server_shows_merge.Goals as goal

pub returns : goal.returns
returns c = server_shows_merge
