use Rattle.irc_net.specs.NetworkViews.{item_of}
use Rattle.irc_script.proofs.Moving.{given_played, refusal_played}
use Rattle.irc_script.proofs.Playing.{put_as}
use Rattle.irc_script.proofs.script_run.ScriptRun.give.Goals as goal

pub returns-in-Ok : goal.returns-in-Ok
returns-in-Ok g c =
    given_played c.written.result _ _ (item_of c.args.item) c.in-Ok.answer c.deref.result.now _ _
    c.in-Ok.ensures.given c.deref.ensures.value (put_as c.written.result c.print_receipts.result
    _ _ _ c.written.ensures c.print_receipts.ensures)

pub returns-in-Err : goal.returns-in-Err
returns-in-Err g c =
    refusal_played _ _ _
    (item_of c.args.item) c.in-Err.fault _ _ c.in-Err.ensures.given c.print_fault.ensures
