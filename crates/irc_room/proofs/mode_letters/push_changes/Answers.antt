use Rattle.irc_line.specs.Lemmas.CutLaws.{cut_two}
use Rattle.irc_room.proofs.mode_letters.push_changes.Goals as goal

pub returns-clause-pushed : goal.returns-clause-pushed
returns-clause-pushed c =
    cut_two _ _ _ _ _ c.push_letters.ensures.pushed c.push_words.ensures.pushed
