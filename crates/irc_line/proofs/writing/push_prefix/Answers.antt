use Rattle.std.proofs.Common.{[], ◌∷◌, ◌++◌, sym, ◌∙◌, ap}
use Rattle.irc_line.specs.Bytes.{cut, colon, space}
use Rattle.irc_line.specs.Messages.{prefix_text, prefix_of, full_name}
use Rattle.irc_line.specs.PartViews.{sender}
use Rattle.irc_line.specs.Lemmas.CutLaws.{cut_two}
use Rattle.irc_line.proofs.writing.push_prefix.Goals as goal

pub returns-in-Name-clause-pushed : goal.returns-in-Name-clause-pushed
returns-in-Name-clause-pushed c =
    let old = c.args.line.now.items in
    let name = c.in-Name.name.now in
    cut_two old _ _ ((colon ∷ []) ++ name) (space ∷ [])
    (cut_two old _ _ (colon ∷ []) name c.push_cut-in-Name.ensures.appended
    c.push_cut-in-Name-2.ensures.appended) c.push_cut-in-Name-3.ensures.appended
    ∙ ap (λ prefix. cut (old ++ prefix_text (prefix_of (sender prefix)))) (sym c.in-Name.is)

pub returns-in-Full-clause-pushed : goal.returns-in-Full-clause-pushed
returns-in-Full-clause-pushed c =
    let old = c.args.line.now.items in
    let name = full_name c.in-Full.nick.now c.in-Full.user.now c.in-Full.host.now in
    cut_two old _ _ ((colon ∷ []) ++ name) (space ∷ [])
    (cut_two old _ _ (colon ∷ []) name c.push_cut-in-Full.ensures.appended
    c.push_full.ensures.pushed) c.push_cut-in-Full-2.ensures.appended
    ∙ ap (λ prefix. cut (old ++ prefix_text (prefix_of (sender prefix)))) (sym c.in-Full.is)
