use Rattle.irc_net.proofs.Running.{every_run}
use Rattle.irc_net.proofs.laws.every_run_is_kept.Goals as goal

pub returns : goal.returns
returns c = every_run c.networks_stay_sound.ensures c.settings_stay.ensures
