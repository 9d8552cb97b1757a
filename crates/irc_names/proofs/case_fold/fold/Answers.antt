use Rattle.std.proofs.Common.{rules}
use Rattle.irc_names.specs.Lemmas.FoldsByRanges.{folds}
use Rattle.irc_names.proofs.case_fold.fold.Goals as goal

pub returns-in-126 : goal.returns-in-126
returns-in-126 c = search (rules, folds)
