use Rattle.std.proofs.Common.{◌++◌, ◌∙◌, ap}
use Rattle.irc_line.specs.Bytes.{cut}
use Rattle.irc_line.specs.Lemmas.CutLaws.{cut_two}
use Rattle.irc_numerics.proofs.writing.push_marked.Goals as goal

pub returns : goal.returns
returns c =
    let old = c.args.text.now.items in
    cut_two old _ _ _ _ (c.push.ensures
    ∙ ap (λ mark. cut (old ++ mark)) c.as_bytes.ensures) c.push-2.ensures
