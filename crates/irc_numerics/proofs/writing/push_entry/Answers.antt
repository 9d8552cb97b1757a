use Rattle.std.proofs.Common.{[], ◌∷◌, ◌++◌}
use Rattle.irc_line.specs.Bytes.{space}
use Rattle.irc_line.specs.Lemmas.CutLaws.{cut_two}
use Rattle.irc_numerics.specs.Replies.{mark_text}
use Rattle.irc_numerics.proofs.writing.push_entry.Goals as goal

pub returns-else-place-eq0-clause-later : goal.returns-else-place-eq0-clause-later
returns-else-place-eq0-clause-later c behind =
    cut_two c.args.text.now.items _ _ (space ∷ [])
    (mark_text c.args.mark ++ c.args.name.now) c.push.ensures c.push_marked-else-place-eq0.ensures
