use Rattle.std.proofs.Common.{arith}
use Rattle.std.proofs.lemmas.Grind.{common_steps}
use Rattle.irc_line.specs.PartViews.{sender}
use Rattle.irc_room.proofs.ModeLine.{mode_written}
use Rattle.irc_room.proofs.lines.mode_text.Goals as goal

pub returns : goal.returns
returns c =
    mode_written (sender c.args.doer) c.args.channel.now _ _ _ _ _ _ _ _ _ c.new-line.ensures
    c.push_prefix.ensures.pushed c.push_cut.ensures.appended
    c.push_cut-2.ensures.appended c.push_cut-3.ensures.appended c.push_changes.ensures.pushed
    (grind (arith, common_steps))
