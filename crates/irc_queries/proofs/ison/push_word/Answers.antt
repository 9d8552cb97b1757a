use Rattle.std.proofs.Common.{[], ◌∷◌}
use Rattle.irc_line.specs.Bytes.{space}
use Rattle.irc_line.specs.Lemmas.CutLaws.{cut_two}
use Rattle.irc_queries.proofs.ison.push_word.Goals as goal

pub returns-else-place-eq0-clause-later : goal.returns-else-place-eq0-clause-later
returns-else-place-eq0-clause-later c behind =
    cut_two c.args.text.now.items _ _
    (space ∷ []) c.args.word.now c.push-else-place-eq0.ensures c.push-else-place-eq0-2.ensures
