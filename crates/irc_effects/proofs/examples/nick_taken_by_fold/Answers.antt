use Rattle.irc_effects.proofs.ExamplesProved.{nick_taken_by_fold}
use Rattle.irc_effects.proofs.examples.nick_taken_by_fold.Goals as goal

pub returns : goal.returns
returns c = nick_taken_by_fold
