use Rattle.std.proofs.Common.{arith}
use Rattle.std.proofs.lemmas.Grind.{common_steps}
use Rattle.irc_link_writer.specs.Lemmas.ModeLines.{mode_written}
use Rattle.irc_link_writer.proofs.mode_line.mode_line.Goals as goal

pub returns : goal.returns
returns c = mode_written _ _ _ _ _ _ _ c.push_head.ensures.head c.push_changes.ensures.pushed
    (grind (arith, common_steps))
