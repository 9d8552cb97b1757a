use Rattle.std.proofs.Common.{[], ◌∷◌, ◌++◌, ◌∙◌, ap}
use Rattle.irc_line.specs.Bytes.{cut}
use Rattle.irc_modes.specs.ModeWritten.{sign_between}
use Rattle.irc_line.specs.Lemmas.CutLaws.{cut_two}
use Rattle.irc_modes.proofs.mode_text.push_change.Goals as goal

pub returns-clause-pushed : goal.returns-clause-pushed
returns-clause-pushed c =
    let old = c.args.line.now.items in
    cut_two _ _ _ _ _ c.push_cut.ensures.appended c.push_cut-2.ensures.appended
    ∙ ap (λ t. cut (old ++ (t ++ c.byte.result ∷ []))) c.sign_text.ensures
    ∙ ap (λ b. cut (old ++ (sign_between c.args.sign c.args.change.now.plus ++ b ∷ [])))
    c.byte.ensures
