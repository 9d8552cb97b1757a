use Rattle.irc_script.proofs.Moving.{bytes_played, no_bytes_played}
use Rattle.irc_script.proofs.Playing.{put_as}
use Rattle.irc_script.proofs.script_run.ScriptRun.deliver_bytes.Goals as goal

pub returns-in-Ok : goal.returns-in-Ok
returns-in-Ok g c =
    bytes_played c.written.result _ _ _ _ _ c.in-Ok.came c.in-Ok.lines.items
    c.deref.result.now _ _ c.in-Ok.ensures c.deref.ensures.value
    (put_as c.written.result c.print_taken.result _ _ _ c.written.ensures c.print_taken.ensures)

pub returns-in-Err : goal.returns-in-Err
returns-in-Err g c = no_bytes_played c.print_fault.result _ _ _ _ _ c.in-Err.fault _ _
    c.in-Err.ensures c.print_fault.ensures
