use Rattle.std.proofs.Common.{◌++◌, ◌∙◌, ap, sym}
use Rattle.irc_line.specs.Bytes.{cut}
use Rattle.irc_line.specs.Lemmas.CutLaws.{cut_two}
use Rattle.irc_burst_lines.specs.DeedLines.{members_text}
use Rattle.irc_burst_lines.specs.Loops.Telling.{told_members}
use Rattle.irc_burst_lines.proofs.njoin_line.push_members.Goals as goal

pub returns-in-Some-clause-pushed : goal.returns-in-Some-clause-pushed
returns-in-Some-clause-pushed c =
    cut_two _ _ _ _ _ c.push_member.ensures.pushed c.push_more.ensures.pushed
    ∙ ap (λ members. cut (c.args.line.now.items ++ members_text (told_members members)))
    (sym c.in-Some.ensures.cases.0)
