use Rattle.irc_script.specs.declared.fault.Trouble.TheVariants.{Device}
use Rattle.irc_script.proofs.Playing.{run_closed, run_ended, run_unwritten, running_failed}
use Rattle.irc_script.proofs.sim.run_all.Goals as goal

pub returns-in_err-write_waiting : goal.returns-in_err-write_waiting
returns-in_err-write_waiting g c =
    running_failed _ Device _ _ _ _ _ c.from_residual.ensures.1
    (run_unwritten c.perform_all-performed.result _ _ _ _ _ _ _ _ _ c.new-waiting.ensures
    c.write_waiting.ensures.none c.perform_all-performed.ensures
    c.in_err-write_waiting.ensures.prints)

pub returns-in_err-performed : goal.returns-in_err-performed
returns-in_err-performed g c =
    running_failed _ _ _ _ _ _ _ c.from_residual-in_err-performed.ensures.1
    (run_closed _ _ _ _ _ _ _ _ _ c.new-waiting.ensures c.write_waiting.ensures.none
    c.in_err-performed.ensures c.in_ok-write_waiting.ensures.prints)

pub returns : goal.returns
returns g c =
    run_ended c.written.result c.flush.result _ _ _ _ _ _ _ _ _ _ c.written.ensures
    c.new-waiting.ensures c.write_waiting.ensures.none
    c.in_ok-performed.ensures c.in_ok-write_waiting.ensures.prints c.flush.ensures
