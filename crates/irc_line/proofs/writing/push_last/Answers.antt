use Rattle.std.proofs.Common.{◌++◌, sym, ◌∙◌, ap}
use Rattle.irc_line.specs.Bytes.{cut}
use Rattle.irc_line.specs.Messages.{last_text}
use Rattle.irc_line.specs.MessageViews.{optional_now}
use Rattle.irc_line.specs.Lemmas.CutLaws.{cut_two}
use Rattle.irc_line.proofs.writing.push_last.Goals as goal

pub returns-in-Some-clause-pushed : goal.returns-in-Some-clause-pushed
returns-in-Some-clause-pushed c =
    cut_two _ _ _ _ _ c.push_cut-in-Some.ensures.appended c.push_cut-in-Some-2.ensures.appended
    ∙ ap (λ last. cut (c.args.line.now.items ++ last_text (optional_now last))) (sym c.in-Some.is)
