use Rattle.irc_secrets.proofs.Shown.{channel_shows_nothing}
use Rattle.irc_secrets.proofs.laws.channel_shows_nothing.Goals as goal

pub returns : goal.returns
returns c = channel_shows_nothing
