use Rattle.irc_merge.proofs.ExamplesProved.{nickname_on_both_sides}
use Rattle.irc_merge.proofs.examples.nickname_on_both_sides.Goals as goal

pub returns : goal.returns
returns c = nickname_on_both_sides
