use Rattle.std.proofs.Common.{◌++◌, sym, ◌∙◌, ap}
use Rattle.irc_line.specs.Bytes.{cut}
use Rattle.irc_line.specs.Messages.{last_text}
use Rattle.irc_line.specs.Lemmas.CutLaws.{cut_two}
use Rattle.irc_numerics.specs.Loops.Heads.{text_now}
use Rattle.irc_numerics.proofs.pieces.push_text.Goals as goal

pub returns-in-Some-clause-pushed : goal.returns-in-Some-clause-pushed
returns-in-Some-clause-pushed c =
    cut_two _ _ _ _ _ c.push_cut-in-Some.ensures.appended c.push_each.ensures.pushed
    ∙ ap (λ text. cut (c.args.line.now.items ++ last_text (text_now text))) (sym c.in-Some.is)
