use Rattle.irc_net.proofs.Played.{play_is_run}
use Rattle.irc_net.proofs.laws.play_is_run.Goals as goal

pub returns : goal.returns
returns c = play_is_run
