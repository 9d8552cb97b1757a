use Rattle.irc_script.proofs.Moving.{settled_played}
use Rattle.irc_script.specs.declared.fault.Trouble.TheVariants.{Memory}
use Rattle.irc_script.proofs.Playing.{breaks_first, put_as}
use Rattle.irc_script.proofs.script_run.ScriptRun.settle.Goals as goal

pub returns-in-Ok : goal.returns-in-Ok
returns-in-Ok g c =
    settled_played c.written.result _ _ c.in-Ok.count c.in-Ok.lines.items
    c.deref.result.now _ _ c.in-Ok.ensures.settled c.deref.ensures.value
    (put_as c.written.result c.print_taken.result _ _ _ c.written.ensures c.print_taken.ensures)

pub returns-in-Err : goal.returns-in-Err
returns-in-Err g c = breaks_first Memory _ _ _
