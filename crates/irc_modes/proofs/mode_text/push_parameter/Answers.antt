use Rattle.std.proofs.Common.{◌∷◌, ◌++◌, sym, ◌∙◌, ap, append-nil, option_to_list}
use Rattle.irc_line.specs.Bytes.{cut}
use Rattle.irc_line.specs.Messages.{middle_text}
use Rattle.irc_line.specs.MessageViews.{optional_now}
use Rattle.irc_line.specs.Lemmas.CutLaws.{cut_two}
use Rattle.irc_modes.proofs.mode_text.push_parameter.Goals as goal

pub returns-in-Some-clause-pushed : goal.returns-in-Some-clause-pushed
returns-in-Some-clause-pushed c =
    let old = c.args.line.now.items in
    cut_two _ _ _ _ _ c.push_cut.ensures.appended c.push_cut-in-Some.ensures.appended
    ∙ ap (λ t. cut (old ++ t)) (sym (append-nil (32 ∷ c.in-Some.word.now)))
    ∙ ap (λ word. cut (old ++ middle_text (option_to_list (optional_now word)))) (sym c.in-Some.is)
