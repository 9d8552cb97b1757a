use Rattle.irc_script.proofs.Moving.{delivered_played, undelivered_played}
use Rattle.irc_script.proofs.Playing.{put_as}
use Rattle.irc_script.proofs.script_run.ScriptRun.deliver.Goals as goal

pub returns-in-Ok : goal.returns-in-Ok
returns-in-Ok g c =
    delivered_played c.written.result _ _ _ _ c.in-Ok.was_taken
    c.count_taken-count.result c.in-Ok.lines.items c.deref.result.now _
    _ c.in-Ok.ensures c.count_taken-count.ensures c.deref.ensures.value
    (put_as c.written.result c.print_taken.result _ _ _ c.written.ensures c.print_taken.ensures)

pub returns-in-Err : goal.returns-in-Err
returns-in-Err g c = undelivered_played c.print_fault.result _ _ _ _ c.in-Err.fault _ _
    c.in-Err.ensures c.print_fault.ensures
