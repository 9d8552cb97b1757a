use Rattle.irc_script.proofs.RunningOn.{script_runs_on}
use Rattle.irc_script.proofs.laws.scripts_run_on.Goals as goal

pub returns : goal.returns
returns c = script_runs_on
    (record { keeping = c.networks_stay_sound.ensures; settles = c.each_settles.ensures })
