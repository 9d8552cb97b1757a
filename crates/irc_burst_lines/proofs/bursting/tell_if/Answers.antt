use Rattle.std.proofs.Common.{subst, sym}
use Rattle.std.specs.Option.{option_copied}
use Rattle.irc_burst_lines.specs.Loops.Telling.{told_if, Writes}
use Rattle.irc_burst_lines.proofs.Told.{nothing_told}
use Rattle.irc_burst_lines.proofs.bursting.tell_if.Goals as goal

pub returns-in-None : goal.returns-in-None
returns-in-None c =
    let lines = c.args.lines.now.items in
    subst (λ channel. Writes (told_if c.args.routes.now c.args.link c.args.room.now.room
    (option_copied channel)) lines lines) (sym c.in-None.is) (nothing_told lines)
