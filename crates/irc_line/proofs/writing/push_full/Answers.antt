use Rattle.irc_line.specs.Lemmas.CutLaws.{cut_two}
use Rattle.irc_line.proofs.writing.push_full.Goals as goal

pub returns-clause-pushed : goal.returns-clause-pushed
returns-clause-pushed c =
    cut_two _ _ _ _ _ (cut_two _ _ _ _ _ (cut_two _ _ _ _ _
    (cut_two _ _ _ _ _ c.push_cut.ensures.appended c.push_cut-2.ensures.appended)
    c.push_cut-3.ensures.appended) c.push_cut-4.ensures.appended) c.push_cut-5.ensures.appended
