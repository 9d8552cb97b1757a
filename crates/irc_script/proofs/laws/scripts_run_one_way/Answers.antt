use Rattle.irc_script.proofs.OneRun.{runs_one_way}
use Rattle.irc_script.proofs.RunningOn.{script_runs}
use Rattle.irc_script.proofs.laws.scripts_run_one_way.Goals as goal

pub returns-clause-each : goal.returns-clause-each
returns-clause-each c = script_runs
    (record { keeping = c.networks_stay_sound.ensures; settles = c.each_settles.ensures })

pub returns-clause-one_way : goal.returns-clause-one_way
returns-clause-one_way c = runs_one_way
